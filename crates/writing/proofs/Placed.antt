-- A lent output in which a list is put from a place on, and the rest stays as it was. Assumes nothing.
use mathlib.Core.Path.{◌≡◌, refl, sym, ap, ◌∙◌}
use mathlib.Core.List.{List, [], ◌∷◌, ◌++◌, append_assoc}
use Prim.Native.Nat.{ℕ, suc, ◌+◌, ◌-◌, ◌≤◌, ◌<◌}
use native.Mathlib.Omega.{arith}
use lib.ListN.{length, set, take, drop, replicate, length-append, length-drop, take-append-drop}
use borrow.Rule.Slice.PartMut.{put_mid}
use lib.Seq.{length-take-le, take_at, drop_at, drop-drop, set_split, sets-eq}

-- The output with the list from `at` on.
abbrev pub placed : List ℕ → ℕ → List ℕ → List ℕ
placed out at l = take at out ++ (l ++ drop (at + length l) out)

pub placed_length : (out : List ℕ) (at : ℕ) (l : List ℕ) → at + length l ≤ length out → length (placed out at l) ≡ length out
placed_length out at l h =
    omega (arith, length-append (take at out) (l ++ drop (at + length l) out), length-append l (drop (at + length l) out), length-drop (at + length l) out, length-take-le at out (omega arith))

pub placed_none : (out : List ℕ) (at : ℕ) → out ≡ placed out at []
placed_none out at =
    let none : at ≡ at + 0 = omega arith in
    sym (take-append-drop at out) ∙ ap (λ (n : ℕ). take at out ++ drop n out) none

pub placed_one : (out : List ℕ) (at c : ℕ) → at < length out → set out at c ≡ placed out at (c ∷ [])
placed_one out at c h =
    let one : suc at ≡ at + 1 = omega arith in
    set_split out at c h ∙ ap (λ (n : ℕ). take at out ++ (c ∷ drop n out)) one

-- One list, and another right behind it.
pub placed_more : (out : List ℕ) (at : ℕ) (a b : List ℕ) → at + length (a ++ b) ≤ length out
    → placed (placed out at a) (at + length a) b ≡ placed out at (a ++ b)
placed_more out at a b h =
    let sum = length-append a b in
    let front = length-take-le at out (omega arith) in
    let before : length (take at out ++ a) ≡ at + length a = length-append (take at out) a ∙ omega arith in
    let whole : placed out at a ≡ (take at out ++ a) ++ drop (at + length a) out = sym (append_assoc (take at out) a (drop (at + length a) out)) in
    let kept : take (at + length a) (placed out at a) ≡ take at out ++ a = ap (take (at + length a)) whole ∙ take_at (take at out ++ a) _ (at + length a) before in
    let behind : drop (at + length a) (placed out at a) ≡ drop (at + length a) out = ap (drop (at + length a)) whole ∙ drop_at (take at out ++ a) _ (at + length a) before in
    let rest : drop (at + length a + length b) (placed out at a) ≡ drop (at + length a + length b) out =
    sym (drop-drop (length b) (at + length a) (placed out at a)) ∙ ap (drop (length b)) behind ∙ drop-drop (length b) (at + length a) out in
    let end : at + length a + length b ≡ at + length (a ++ b) = omega arith in
    (λ i. kept i ++ (b ++ (rest ∙ ap (λ (n : ℕ). drop n out) end) i))
    ∙ simp append_assoc

-- A part that is written over.
pub placed_part : (out : List ℕ) (at n : ℕ) (l : List ℕ) → n ≡ length l → put_mid at n out l ≡ placed out at l
placed_part out at n l e = rw e (ap (λ (r : List ℕ). take at out ++ (l ++ r)) (drop-drop (length l) at out))

-- Four stores in a row.
pub placed_four : (out : List ℕ) (at a b c d : ℕ) → at + 4 ≤ length out
    → set (set (set (set out at a) (at + 1) b) (at + 2) c) (at + 3) d ≡ placed out at (a ∷ b ∷ c ∷ d ∷ [])
placed_four out at a b c d h =
    let one : at + 1 ≡ suc at = omega arith in
    let two : at + 2 ≡ suc (suc at) = omega arith in
    let three : at + 3 ≡ suc (suc (suc at)) = omega arith in
    rw (one, two, three) (sets-eq (a ∷ b ∷ c ∷ d ∷ []) out at h ∙ append_assoc (take at out) (a ∷ b ∷ c ∷ d ∷ []) (drop (at + 4) out))

-- ---- what a function has done that puts a list into the output

-- The list stands in the output from `at` on, the rest is as it was, and the list ends at `end`.
pub record Put (old : List ℕ) (at : ℕ) (l new : List ℕ) (end : ℕ) : Type 0 where
  pub output : new ≡ placed old at l
  pub ends : end ≡ at + length l

pub put_none : (out : List ℕ) (at : ℕ) → Put out at [] out at
put_none out at = record { output = placed_none out at; ends = omega arith }

pub put_size : {old new l : List ℕ} {at end : ℕ} → Put old at l new end → at + length l ≤ length old → length new ≡ length old
put_size {old} {l = l} {at = at} p h = ap length p.output ∙ placed_length old at l h

pub put_more : {old mid new : List ℕ} {at next end : ℕ} (a b : List ℕ) → Put old at a mid next → Put mid next b new end → at + length (a ++ b) ≤ length old
    → Put old at (a ++ b) new end
put_more {old} {at = at} a b p q h = record {
  output = q.output ∙ (λ i. placed (p.output i) (p.ends i) b) ∙ placed_more old at a b h;
  ends = omega (arith, p.ends, q.ends, length-append a b);
}

-- Put in from the start, with zeros behind it.
pub put_cleared : (l : List ℕ) {old new out : List ℕ} {end : ℕ} → Put old 0 l new end → length new ≡ length old → out ≡ take end new ++ replicate (length new - end) 0
    → out ≡ l ++ replicate (length old - length l) 0
put_cleared l {old} {new} {end = end} p same cleared =
    let ends : end ≡ length l = omega (arith, p.ends) in
    let front : take (length l) new ≡ l = ap (take (length l)) p.output ∙ take_at l (drop (0 + length l) old) (length l) refl in
    cleared ∙ rw (ends, front, same)
