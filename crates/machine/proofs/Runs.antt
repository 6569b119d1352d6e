-- Runs of the machine over lists. Assumes nothing.
use mathlib.Core.Path.{◌≡◌, refl}
use mathlib.Core.Logic.{◌≢◌}
use mathlib.Core.Bool.{Bool, true, false, cond}
use mathlib.Core.List.{List, [], ◌∷◌, ◌++◌}
use Prim.Native.Nat.{ℕ, ◌+◌, ◌-◌}
use native.Mathlib.Omega.{arith}
use lib.Dec.{eqb}
use lib.ListN.{length}
use Rattle.base_64.specs.Lists.{All}
use Rattle.base_64.specs.Alphabet.{AlphabetChar}
use Rattle.grammar.specs.Marks.{CR, LF}
use Rattle.grammar.specs.declared.Grammar.{Grammar}
use Rattle.machine.proofs.ByteKinds.{kind_of}
use Rattle.machine.proofs.Machine.{target, state, next, step, run}
use Rattle.machine.specs.declared.Phase.{Phase}
use Rattle.machine.specs.declared.Row.{Row}
use Rattle.machine.specs.declared.State.{State}
use Rattle.machine.proofs.Bytes.{alphabet_seen}
use Rattle.machine.proofs.Bodies.{Closes}

-- A run over a list is a run over its front, then over the rest.
pub run_append : (g : Grammar) (s : State) (l m : List ℕ) → run g s (l ++ m) ≡ run g (run g s l) m
run_append g s [] m = refl
run_append g s (c ∷ l) m = run_append g (step g s c) l m

-- A byte other than LF takes the machine to the next phase, whether CR was read before it or not.
pub run_moves : (g : Grammar) (p : Phase) (b : Bool) (c : ℕ) (x : List ℕ) → eqb c LF ≡ false
    → run g (state p b) (c ∷ x) ≡ run g (state (next g p c) (eqb c CR)) x
run_moves g p true c x e = rw e
run_moves g p false c x e = refl

-- A byte that leaves the phase as it is, and what holds of the machine at last.
run_stays : (g : Grammar) (p : Phase) (c : ℕ) (x : List ℕ) (Q : State → Type 0) → next g p c ≡ p → ((b : Bool) → Q (run g (state p b) x))
    → (b : Bool) → Q (run g (state p b) (c ∷ x))
run_stays g p c x Q e f false = rw e (f (eqb c CR))
run_stays g p c x Q e f true = go (eqb c LF)
  where
    go : (b : Bool) → Q (run g (cond b (state p false) (state (next g p c) (eqb c CR))) x)
    go true = f false
    go false = rw e (f (eqb c CR))

-- A run of such bytes.
pub run_all : (g : Grammar) (p : Phase) (P : ℕ → Type 0) → ((c : ℕ) → P c → next g p c ≡ p) → (m x : List ℕ) (Q : State → Type 0) → All P m
    → ((b : Bool) → Q (run g (state p b) x)) → (b : Bool) → Q (run g (state p b) (m ++ x))
run_all g p P k [] x Q a f b = f b
run_all g p P k (c ∷ m) x Q a f b = run_stays g p c (m ++ x) Q (k c a.0) (run_all g p P k m x Q a.1 f) b

-- An alphabet character leads where its column of the row says.
pub row_takes : (r : Row) {q : Phase} → r.alphabet ≡ q → (c : ℕ) → AlphabetChar c → target r (kind_of c) ≡ q
row_takes r e c h = rw (alphabet_seen c h).kind e

module _ (g : Grammar) where
  -- Each alphabet character leads from p to q.
  abbrev pub Takes : Phase → Phase → Type 0
  Takes p q = (c : ℕ) → AlphabetChar c → next g p c ≡ q

  -- An alphabet character in front of what leads to the closing.
  pub char_closes : (p : Phase) {q : Phase} (c : ℕ) (l : List ℕ) → Takes p q → AlphabetChar c → Closes g q l → Closes g p (c ∷ l)
  char_closes p c l t h k z = rw (t c h, (alphabet_seen c h).no_cr, run) (k z)

  -- One or more of them: behind the first the machine counts down from room.
  pub chars_close : (f : ℕ → Phase) → ((n : ℕ) → n ≢ 0 → Takes (f n) (f (n - 1))) → (p : Phase) (room more c : ℕ) (a l : List ℕ)
      → Takes p (f room) → All AlphabetChar (c ∷ a) → length a + more ≡ room → Closes g (f more) l → Closes g p (c ∷ (a ++ l))
  chars_close f s p room more c [] l t h e k = let same : room ≡ more = omega arith in char_closes p c l t h.0 (rw same k)
  chars_close f s p room more c (d ∷ a) l t h e k =
      char_closes p c (d ∷ (a ++ l)) t h.0 (chars_close f s (f room) (room - 1) more d a l (s room (omega arith)) h.1 (omega arith) k)
