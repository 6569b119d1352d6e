-- Runs grow byte by byte and are joined, and so is what stands between two places. Assumes nothing.
use mathlib.Core.Path.{◌≡◌, refl, ap, ◌∙◌}
use mathlib.Core.Logic.{◌≢◌}
use mathlib.Core.Bool.{Bool, true, false}
use mathlib.Core.List.{List, ◌++◌}
use Prim.Native.Nat.{ℕ, ◌+◌, ◌-◌, ◌≤◌, ◌<◌}
use native.Mathlib.Omega.{arith}
use lib.Dec.{eqb, ltb}
use lib.ListN.{length, take, drop, get_or}
use lib.Seq.{take-add, drop-drop}
use Rattle.std.proofs.lemmas.List.{get_or-drop, take_rest}
use borrow.Author.Tests.{eqb-true, eqb-false, ltb-true, ltb-false}
use Rattle.runs.specs.Runs.{Run, between, LfOrCrlf, lf, crlf}

-- What holds of each of its bytes, where their kind tells it.
pub run_imp : {P Q : ℕ → Type 0} {text : List ℕ} {i j : ℕ} → Run P text i j → ((c : ℕ) → P c → Q c) → Run Q text i j
run_imp {text = text} a f = record { all = λ k low high. f (get_or text k 0) (a.all k low high) }

module _ {Kind : ℕ → Type 0} {text : List ℕ} {i j : ℕ} where
  pub run_none : j ≤ i → Run Kind text i j
  run_none h = record { all = λ k low high. absurd (omega arith) }

  pub run_more : Run Kind text i j → Kind (get_or text j 0) → (l : ℕ) → l ≡ j + 1 → Run Kind text i l
  run_more a here l e = record { all = λ k low high. go k low high (eqb k j) refl }
    where
      go : (k : ℕ) → i ≤ k → k < l → (b : Bool) → eqb k j ≡ b → Kind (get_or text k 0)
      go k low high true q = rw (eqb-true k j q) here
      go k low high false q = let other : k ≢ j = eqb-false k j q in a.all k low (omega arith)

  pub run_then : {l : ℕ} → Run Kind text i j → Run Kind text j l → Run Kind text i l
  run_then {l} a b = record { all = λ k low high. go k low high (ltb k j) refl }
    where
      go : (k : ℕ) → i ≤ k → k < l → (t : Bool) → ltb k j ≡ t → Kind (get_or text k 0)
      go k low high true e = a.all k low (ltb-true k j e)
      go k low high false e = b.all k (ltb-false k j e) high

pub run_one : {Kind : ℕ → Type 0} {text : List ℕ} {i : ℕ} → Kind (get_or text i 0) → Run Kind text i (i + 1)
run_one h = run_more (run_none (omega arith)) h _ refl

-- What stands between two places, in two parts.
pub between_join : (text : List ℕ) (i j l : ℕ) → i ≤ j → j ≤ l → between text i l ≡ between text i j ++ between text j l
between_join text i j l h more =
    let parts : l - i ≡ j - i + (l - j) = omega arith in
    let place : i + (j - i) ≡ j = omega arith in
    ap (λ (n : ℕ). take n (drop i text)) parts ∙ take-add (j - i) (l - j) (drop i text)
    ∙ ap (λ (x : List ℕ). between text i j ++ take (l - j) x) (drop-drop (j - i) i text ∙ ap (λ (n : ℕ). drop n text) place)

-- A line end lies within the text.
pub line_end_inside : {text : List ℕ} {i n : ℕ} → LfOrCrlf text i n → i + n ≤ length text
line_end_inside (lf more e) = omega arith
line_end_inside (crlf more e f) = omega arith

-- It has one byte or two.
pub line_end_width : {text : List ℕ} {i n : ℕ} → LfOrCrlf text i n → (0 < n) × (n ≤ 2)
line_end_width (lf more e) = (omega arith, omega arith)
line_end_width (crlf more e f) = (omega arith, omega arith)

-- What stands at a place of the rest of a text, as code that takes the rest reads it.
pub rest_at : (text : List ℕ) (i k : ℕ) → get_or (take (length text - i) (drop i text)) k 0 ≡ get_or text (i + k) 0
rest_at text i k = rw take_rest (get_or-drop i text k 0)

pub ruleset ends_found = (rest_at, lf, crlf)
