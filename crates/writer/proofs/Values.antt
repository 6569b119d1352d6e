-- The values of data in an output, and their characters. Assumes nothing.
use mathlib.Core.Path.{◌≡◌, refl, sym, ap, ◌∙◌}
use mathlib.Core.List.{append-nil, List, [], ◌∷◌, ◌++◌, map, append_assoc}
use Prim.Native.Nat.{ℕ, zero, suc, ◌+◌, ◌-◌, ◌*◌, ◌/◌, ◌%◌, ◌<◌}
use native.Mathlib.Omega.{arith}
use native.Mathlib.Numerals.{add-one}
use lib.Dec.{eqb, eqb→eq}
use lib.ListN.{drop_of_length-le, length, get_or, set, take, drop, length-append}
use lib.Seq.{take-suc, length-take-le, take_all}
use Rattle.base_64.specs.Lists.{All}
use Rattle.base_64.specs.Alphabet.{Octet, Sextet, alphabet, char_of}
use Rattle.base_64.specs.Groups.{value1, value2, value3, value4, to_values, encode}
use Rattle.base_64.proofs.Groups.{values_sextets}
use Rattle.base_64.proofs.Tests.{below_at}
use Rattle.writing.proofs.Placed.{placed, placed_four, placed_more}
use Rattle.writing.proofs.Progress.{whole_values, whole_encode}
use Rattle.writer.specs.Spread.{spread}
use Rattle.writer.specs.Values.{step_from, low_char}
use Rattle.writer.proofs.Spread.{number_values}

-- ---- the character of a value by sums

-- The last sum is the character: one test over the values.
pub sums : (v : ℕ) → Sextet v → v + 65 + step_from 26 v 6 - step_from 52 v 75 - step_from 62 v 15 + step_from 63 v 3 ≡ char_of v
unfolding alphabet
sums v h = eqb→eq _ _ (below_at (λ k. eqb (k + 65 + step_from 26 k 6 - step_from 52 k 75 - step_from 62 k 15 + step_from 63 k 3) (char_of k)) 64 tt v h)

-- ---- a line

-- The values of whole groups.
length_groups : (q : ℕ) (d : List ℕ) → length d ≡ 3 * q → length (to_values d) ≡ 4 * q
length_groups q [] h = omega arith
length_groups q (x ∷ []) h = absurd (omega arith)
length_groups q (x ∷ y ∷ []) h = absurd (omega arith)
length_groups zero (x ∷ y ∷ z ∷ d) h = absurd (omega arith)
length_groups (suc q) (x ∷ y ∷ z ∷ d) h = omega (arith, length_groups q d (omega arith))

-- Three bytes more.
three_more : (d : List ℕ) (i : ℕ) → i + 2 < length d → take (i + 3) d ≡ take i d ++ (get_or d i 0 ∷ get_or d (i + 1) 0 ∷ get_or d (i + 2) 0 ∷ [])
three_more d i h =
    let one : i + 1 ≡ suc i = omega arith in
    let two : i + 2 ≡ suc (suc i) = omega arith in
    let three : i + 3 ≡ suc (suc (suc i)) = omega arith in
    rw (one, two, three)
    (take-suc d (suc (suc i)) 0 (omega arith)
    ∙ ap (λ (l : List ℕ). l ++ (get_or d (suc (suc i)) 0 ∷ [])) (take-suc d (suc i) 0 (omega arith) ∙ ap (λ (l : List ℕ). l ++ (get_or d (suc i) 0 ∷ [])) (take-suc d i 0 (omega arith)))
    ∙ simp append_assoc)

-- The values of a group more: the bytes of its number, stored in a row.
pub values_more : (line old out : List ℕ) (q s : ℕ) → length line ≡ 48 → length old ≡ 64 → q < 16 → length out ≡ length old
    → Octet (get_or line (3 * q) 0) → Octet (get_or line (3 * q + 1) 0) → Octet (get_or line (3 * q + 2) 0)
    → s ≡ spread 0 (get_or line (3 * q) 0) + spread 1 (get_or line (3 * q + 1) 0) + spread 2 (get_or line (3 * q + 2) 0)
    → out ≡ placed old 0 (to_values (take (3 * q) line))
    → set (set (set (set out (4 * q) (s % 256)) (4 * q + 1) (s / 256 % 256)) (4 * q + 2) (s / 65536 % 256)) (4 * q + 3) (s / 16777216)
    ≡ placed old 0 (to_values (take (3 * (q + 1)) line))
values_more line old out q s whole room few same hx hy hz e done =
    let x = get_or line (3 * q) 0 in
    let y = get_or line (3 * q + 1) 0 in
    let z = get_or line (3 * q + 2) 0 in
    let front : List ℕ = take (3 * q) line in
    let size : length front ≡ 3 * q = length-take-le (3 * q) line (omega arith) in
    let values : 4 * q ≡ 0 + length (to_values front) = omega (arith, length_groups q front size) in
    let v = number_values x y z s hx hy hz e in
    let group : List ℕ = value1 x ∷ value2 x y ∷ value3 y z ∷ value4 z ∷ [] in
    let next : 3 * (q + 1) ≡ 3 * q + 3 = omega arith in
    let more : to_values (take (3 * (q + 1)) line) ≡ to_values front ++ group =
    ap (λ (n : ℕ). to_values (take n line)) next ∙ ap to_values (three_more line (3 * q) (omega arith)) ∙ whole_values front (x ∷ y ∷ z ∷ []) (omega arith) in
    placed_four out (4 * q) _ _ _ _ (omega arith)
    ∙ (λ j. placed (done j) (values j) (v.0 j ∷ v.1 j ∷ v.2 j ∷ v.3 j ∷ []))
    ∙ placed_more old 0 (to_values front) group (omega (arith, length-append (to_values front) group))
    ∙ ap (placed old 0) (sym more)

-- All of them.
pub values_all : (line old out : List ℕ) → length line ≡ 48 → length old ≡ 64 → out ≡ placed old 0 (to_values (take 48 line)) → out ≡ to_values line
values_all line old out whole room e =
    let all : take 48 line ≡ line = take_all 48 line (omega arith) in
    let size : length (to_values line) ≡ 64 = length_groups 16 line whole in
    let none : drop (0 + length (to_values line)) old ≡ [] = drop_of_length-le old (omega arith) in
    e ∙ ap (λ (l : List ℕ). placed old 0 (to_values l)) all ∙ ap (λ (l : List ℕ). to_values line ++ l) none ∙ append-nil (to_values line)

-- A value more becomes a character.
chars_next : (l : List ℕ) (k : ℕ) → k < length l
    → set (map low_char (take k l) ++ drop k l) k (low_char (get_or (map low_char (take k l) ++ drop k l) k 0)) ≡ map low_char (take (suc k) l) ++ drop (suc k) l
chars_next [] k h = absurd (omega arith)
chars_next (x ∷ l) zero h = refl
chars_next (x ∷ l) (suc k) h = ap (λ (r : List ℕ). low_char x ∷ r) (chars_next l k (omega arith))

pub chars_more : (old out : List ℕ) (k c v : ℕ) → k < length old → out ≡ map low_char (take k old) ++ drop k old → v ≡ get_or out k 0 % 64 → c ≡ char_of v
    → set out k c ≡ map low_char (take (k + 1) old) ++ drop (k + 1) old
chars_more old out k c v h done low made =
    let char : c ≡ low_char (get_or out k 0) = made ∙ ap char_of low in
    rw (add-one, char) (ap (λ (l : List ℕ). set l k (low_char (get_or l k 0))) done ∙ chars_next old k h)

-- The low bits of values are the values.
low_values : (v : List ℕ) → All Sextet v → map low_char v ≡ map char_of v
low_values [] h = refl
low_values (x ∷ v) h =
    let same : x % 64 ≡ x = omega (arith, h.0) in
    λ j. char_of (same j) ∷ low_values v h.1 j

-- The values of a line become its characters.
pub line_encoded : (line values chars : List ℕ) → length line ≡ 48 → All Octet line → values ≡ to_values line → chars ≡ map low_char values → chars ≡ encode line
line_encoded line values chars size octets put made =
    made ∙ ap (map low_char) put ∙ low_values (to_values line) (values_sextets line octets) ∙ sym (whole_encode line (omega arith))
