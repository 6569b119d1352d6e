-- Four bytes that stand together, by one part and by one byte after the other. Assumes nothing.
use mathlib.Core.Path.{◌≡◌, refl, ap}
use mathlib.Core.List.{List, [], ◌∷◌}
use Prim.Native.Nat.{ℕ, zero, suc, ◌+◌, ◌≤◌}
use native.Mathlib.Omega.{arith}
use lib.ListN.{length, set}
use lib.Seq.{paste}

pub four_sets : (out : List ℕ) (i a b c d : ℕ) → i + 4 ≤ length out
    → paste out i (a ∷ b ∷ c ∷ d ∷ []) 4 ≡ set (set (set (set out i a) (i + 1) b) (i + 2) c) (i + 3) d
four_sets (w ∷ x ∷ y ∷ z ∷ out) zero a b c d h = refl
four_sets (o ∷ out) (suc i) a b c d h =
    let one : suc i + 1 ≡ suc (i + 1) = omega arith in
    let two : suc i + 2 ≡ suc (i + 2) = omega arith in
    let three : suc i + 3 ≡ suc (i + 3) = omega arith in
    let four : suc i + 4 ≡ suc (i + 4) = omega arith in
    rw (one, two, three, four) (ap (λ l. o ∷ l) (four_sets out i a b c d (omega arith)))
four_sets out i a b c d h = absurd (omega arith)
