-- A word that stands at a place. Assumes nothing.
use mathlib.Core.Path.{◌≡◌, sym, ap, ◌∙◌}
use mathlib.Core.Bool.{true}
use mathlib.Core.List.{List}
use Prim.Native.Nat.{ℕ, ◌+◌, ◌-◌, ◌≤◌}
use native.Mathlib.Omega.{arith}
use lib.Dec.{eqb}
use lib.Pointwise.{bytes_decides}
use lib.ListN.{length, take, drop, get_or, length-drop}
use Rattle.std.specs.List.{starts_with}
use Rattle.std.proofs.lemmas.List.{get_or-drop, get_or-take}
use Rattle.runs.specs.Runs.{Stands}

pub word_stands : (text : List ℕ) (i : ℕ) (word : List ℕ) (n : ℕ) → i ≤ length text → n ≤ length word → length (drop n word) ≤ length (drop i text)
    → starts_with eqb (drop i text) (drop n word) ≡ true → Stands text i word n
word_stands text i word n inside h room e =
    let same : drop n word ≡ take (length (drop n word)) (drop i text) = (bytes_decides (drop n word) (take (length (drop n word)) (drop i text))).0 e in
    record {
      room = let fits = simp length-drop at room in omega arith;
      there = λ k low high.
          let place : n + (k - n) ≡ k = omega arith in
          sym (get_or-drop i text (k - n) 0) ∙ sym (get_or-take (length (drop n word)) (drop i text) (k - n) 0 (simp length-drop (omega arith)))
          ∙ ap (λ l. get_or l (k - n) 0) (sym same) ∙ get_or-drop n word (k - n) 0 ∙ ap (λ j. get_or word j 0) place;
    }
