-- What the scan counts of a text's line ends is what the list of them says. Assumes nothing.
use mathlib.Core.Path.{◌≡◌, refl, ap, ◌∙◌}
use mathlib.Core.Logic.{◌⊎◌, inl, inr}
use mathlib.Core.Bool.{Bool, true, false}
use mathlib.Core.List.{List, [], ◌∷◌}
use Prim.Native.Nat.{ℕ, suc, ◌+◌, ◌<◌}
use native.Mathlib.Omega.{arith}
use lib.Dec.{eqb}
use borrow.Author.Tests.{eq-eqb, ne_eqb}
use Rattle.grammar.specs.Marks.{CR, LF, NoLF}
use Rattle.grammar.specs.LineEnds.{LineEnds, none, other, ended, agreeing, style_of}
use Rattle.grammar.specs.declared.LineEnding.{LineEnding}
use Rattle.grammar.specs.declared.LineEnding.TheVariants.{Lf, CrLf, Cr}
use Rattle.grammar.proofs.LineEnds.{no_lf_test, end_alone}
use Rattle.grammar.specs.declared.LineStyle.TheVariants.{Only, Mixed}
use Rattle.reading.specs.Ends.{ends, no_ends, ends_from, ends_in, counted_style}
use Rattle.reading.specs.declared.EndCounts.{EndCounts}

-- ---- the counts of a list of line ends

abbrev added : LineEnding → EndCounts → EndCounts
added Lf e = ends (e.lf + 1) e.crlf e.cr
added CrLf e = ends e.lf (e.crlf + 1) (e.cr + 1)
added Cr e = ends e.lf e.crlf (e.cr + 1)

abbrev all_added : EndCounts → List LineEnding → EndCounts
all_added e [] = e
all_added e (s ∷ ss) = all_added (added s e) ss

-- A CR makes no difference where no LF follows.
cr_alone : (e : EndCounts) (l : List ℕ) → NoLF l → ends_from true e l ≡ ends_from false e l
unfolding ends_from
cr_alone e [] n = refl
cr_alone e (c ∷ l) n = rw (no_lf_test c l n)

ends_added : {l : List ℕ} {ss : List LineEnding} → LineEnds l ss → (e : EndCounts) → ends_from false e l ≡ all_added e ss
unfolding ends_from
ends_added none e = refl
ends_added (other {c} nc nl h) e = rw (ne_eqb c LF nl, ne_eqb c CR nc) (ends_added h e)
ends_added (ended Lf k h) e = ends_added h (added Lf e)
ends_added (ended CrLf k h) e = ends_added h (added CrLf e)
ends_added (ended {rest} Cr k h) e = cr_alone (added Cr e) rest (end_alone k refl) ∙ ends_added h (added Cr e)

-- ---- what they say

-- Two kinds were seen.
abbrev Several : EndCounts → Type 0
Several e = ((0 < e.lf) × (0 < e.cr)) ⊎ ((0 < e.crlf) × (e.crlf < e.cr))

still : (s : LineEnding) (e : EndCounts) → Several e → Several (added s e)
still Lf e (inl h) = inl (omega arith)
still Lf e (inr h) = inr (omega arith)
still CrLf e (inl h) = inl (omega arith)
still CrLf e (inr h) = inr (omega arith)
still Cr e (inl h) = inl (omega arith)
still Cr e (inr h) = inr (omega arith)

some : (n : ℕ) → 0 < n → eqb n 0 ≡ false
some n h = ne_eqb n 0 (λ (e : n ≡ 0). omega arith)

several_found : (e : EndCounts) → Several e → counted_style e ≡ Mixed
several_found e (inl h) = rw (some e.lf h.0, some e.cr h.1)
several_found e (inr h) = go (eqb e.lf 0) refl
  where
    apart : eqb e.crlf e.cr ≡ false
    apart = ne_eqb e.crlf e.cr (λ (q : e.crlf ≡ e.cr). omega arith)

    go : (b : Bool) → eqb e.lf 0 ≡ b → counted_style e ≡ Mixed
    go true q = rw (q, some e.cr (omega arith), some e.crlf h.0, apart)
    go false q = rw (q, some e.cr (omega arith))

mixed : (ss : List LineEnding) (e : EndCounts) → Several e → counted_style (all_added e ss) ≡ Mixed
mixed [] e h = several_found e h
mixed (s ∷ ss) e h = mixed ss (added s e) (still s e h)

-- So many of one kind, and one more.
abbrev many : LineEnding → ℕ → EndCounts
many Lf n = ends (suc n) 0 0
many CrLf n = ends 0 (suc n) (suc n)
many Cr n = ends 0 0 (suc n)

many_found : (s : LineEnding) (n : ℕ) → counted_style (many s n) ≡ Only s
many_found Lf n = rw (some (suc n) (omega arith))
many_found CrLf n = rw (some (suc n) (omega arith), eq-eqb (suc n) (suc n) refl)
many_found Cr n = rw (some (suc n) (omega arith))

more : (n : ℕ) → suc n + 1 ≡ suc (suc n)
more n = omega arith

one_more : (s : LineEnding) (n : ℕ) → added s (many s n) ≡ many s (suc n)
one_more Lf n = ap (λ k. ends k 0 0) (more n)
one_more CrLf n = ap (λ k. ends 0 k k) (more n)
one_more Cr n = ap (λ k. ends 0 0 k) (more n)

all_found : (s : LineEnding) (n : ℕ) (ss : List LineEnding) → counted_style (all_added (many s n) ss) ≡ agreeing s ss
all_found s n [] = many_found s n
all_found Lf n (Lf ∷ ss) = ap (λ e. counted_style (all_added e ss)) (one_more Lf n) ∙ all_found Lf (suc n) ss
all_found Lf n (CrLf ∷ ss) = mixed ss _ (inl (omega arith))
all_found Lf n (Cr ∷ ss) = mixed ss _ (inl (omega arith))
all_found CrLf n (Lf ∷ ss) = mixed ss _ (inl (omega arith))
all_found CrLf n (CrLf ∷ ss) = ap (λ e. counted_style (all_added e ss)) (one_more CrLf n) ∙ all_found CrLf (suc n) ss
all_found CrLf n (Cr ∷ ss) = mixed ss _ (inr (omega arith))
all_found Cr n (Lf ∷ ss) = mixed ss _ (inl (omega arith))
all_found Cr n (CrLf ∷ ss) = mixed ss _ (inr (omega arith))
all_found Cr n (Cr ∷ ss) = ap (λ e. counted_style (all_added e ss)) (one_more Cr n) ∙ all_found Cr (suc n) ss

list_found : (ss : List LineEnding) → counted_style (all_added no_ends ss) ≡ style_of ss
list_found [] = refl
list_found (Lf ∷ ss) = all_found Lf 0 ss
list_found (CrLf ∷ ss) = all_found CrLf 0 ss
list_found (Cr ∷ ss) = all_found Cr 0 ss

-- The counts of a text say what its list of line ends does.
pub ends_found : {text : List ℕ} {ss : List LineEnding} → LineEnds text ss → counted_style (ends_in text) ≡ style_of ss
ends_found {text} {ss} h = ap counted_style (ends_added h no_ends) ∙ list_found ss
