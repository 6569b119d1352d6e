-- Spare bits. Assumes nothing.
use mathlib.Core.Path.{◌≡◌, refl}
use mathlib.Core.Bool.{Bool, true, false, cond}
use mathlib.Core.List.{List, [], ◌∷◌, ◌++◌}
use Prim.Native.Nat.{ℕ, suc, ◌%◌}
use native.Mathlib.Omega.{arith}
use lib.Dec.{eqb}
use lib.ListN.{length}
use Rattle.base_64.specs.Alphabet.{radix, value_of}
use Rattle.base_64.specs.Groups.{values_of, spare_bits}
use Rattle.reading.specs.Data.{spare_of}

-- The last character alone gives them, with how many there are.
pub spare_last : (xs : List ℕ) (c : ℕ) → spare_bits (values_of (xs ++ (c ∷ []))) ≡ spare_of (length (xs ++ (c ∷ []))) (value_of c)
spare_last [] c = refl
spare_last (x ∷ []) c = refl
spare_last (x ∷ y ∷ []) c = refl
spare_last (x ∷ y ∷ z ∷ []) c = refl
spare_last (x ∷ y ∷ z ∷ w ∷ r) c =
    let n = length (r ++ (c ∷ [])) in
    let four : suc (suc (suc (suc n))) % 4 ≡ n % 4 = omega arith in
    rw four (spare_last r c)

-- The value of a byte outside the alphabet has none.
pub spare_outside : (count : ℕ) → spare_of count radix ≡ 0
spare_outside count = go (eqb (count % 4) 2) (eqb (count % 4) 3)
  where
    go : (t u : Bool) → cond t (radix % 16) (cond u (radix % 4) 0) ≡ 0
    go true u = refl
    go false true = refl
    go false false = refl
