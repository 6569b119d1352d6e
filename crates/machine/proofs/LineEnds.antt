-- Line ends at the machine: which bytes it reads as one, and that it reads one whole. Assumes nothing.
use mathlib.Core.Path.{◌≡◌, refl, ◌∙◌}
use mathlib.Core.Bool.{Bool, true, false, cond}
use mathlib.Core.List.{List, [], ◌∷◌, ◌++◌, append-nil, nil≢cons, head-eq_of_cons-eq}
use Prim.Native.Nat.{ℕ}
use lib.Dec.{eqb}
use borrow.Author.Tests.{eqb-true, eqb-false, ne_eqb}
use Rattle.grammar.specs.Marks.{CR, LF, hyphen, NoLF, LineEnd, crlf, cr, lf}
use Rattle.grammar.specs.declared.Grammar.{Grammar}
use Rattle.machine.proofs.Machine.{next, state, run, accepting}
use Rattle.machine.specs.declared.Boundary.TheVariants.{Closing}
use Rattle.machine.specs.declared.Phase.{Phase}
use Rattle.machine.specs.declared.Phase.TheVariants.{Word}
use Rattle.machine.proofs.Runs.{run_moves}
use Rattle.machine.proofs.Bodies.{seen_behind, Closes}

-- The machine reads c as the start of an M: what holds of each M with an R behind it holds of c ∷ l, where what the machine sees of l is an R.
abbrev pub Reads : (M : List ℕ → List ℕ → Type 0) (c : ℕ) → Type 1
Reads M c = (R Q : List ℕ → Type 0) → ((e rest : List ℕ) → M e rest → R rest → Q (e ++ rest)) → (l : List ℕ) → R (seen_behind (eqb c CR) l) → Q (c ∷ l)

-- LF is a line end.
pub lf_reads : Reads LineEnd LF
lf_reads R Q f l = f _ l lf

-- CR is one, with the LF behind it if there is one.
pub cr_reads : Reads LineEnd CR
cr_reads R Q f [] = f _ [] (cr (λ r. nil≢cons))
cr_reads R Q f (c ∷ l) = go (eqb c LF) refl
  where
    go : (b : Bool) → eqb c LF ≡ b → R (cond b l (c ∷ l)) → Q (CR ∷ c ∷ l)
    go true e h = rw (eqb-true c LF e) (f _ l crlf h)
    go false e h = f _ (c ∷ l) (cr (λ r q. eqb-false c LF e (head-eq_of_cons-eq q))) h

-- A line end with nothing behind it.
pub line_end_last : (e rest : List ℕ) → LineEnd e rest → rest ≡ [] → LineEnd (e ++ rest) []
line_end_last e rest he z = rw (z, append-nil) (rw z at he)

-- Behind CR the machine goes on as behind any other byte, where LF does not follow.
cr_forgotten : (g : Grammar) (p : Phase) (l z : List ℕ) → NoLF l → run g (state p true) (l ++ (hyphen ∷ z)) ≡ run g (state p false) (l ++ (hyphen ∷ z))
cr_forgotten g p [] z n = refl
cr_forgotten g p (c ∷ l) z n = run_moves g p true c (l ++ (hyphen ∷ z)) (ne_eqb c LF (λ e. n l (rw e)))

module _ (g : Grammar) (p : Phase) {q : Phase} (on_cr : next g p CR ≡ q) (on_lf : next g p LF ≡ q) where
  -- The machine reads a line end whole, in front of what leads to the closing.
  pub line_end_closes : {e rest : List ℕ} → LineEnd e rest → Closes g q rest → Closes g p (e ++ rest)
  line_end_closes crlf h z = rw (← on_cr) at (h z)
  line_end_closes {rest = rest} (cr n) h z = cr_forgotten g (next g p CR) rest z n ∙ (rw (← on_cr) at (h z))
  line_end_closes lf h z = rw (← on_lf) at (h z)

  -- The last line end of a body, behind which the machine waits for the closing.
  pub last_end_closes : {e : List ℕ} → LineEnd e [] → next g q hyphen ≡ Word Closing 1 → Closes g p e
  last_end_closes he h = rw append-nil at (line_end_closes he (λ z. rw (run, h)))

  -- A line end behind which the machine accepts.
  pub line_end_accepted : {e : List ℕ} → accepting q ≡ true → LineEnd e [] → accepting (run g (state p false) e).phase ≡ true
  line_end_accepted a crlf = rw on_cr a
  line_end_accepted a (cr h) = rw on_cr a
  line_end_accepted a lf = rw on_lf a
