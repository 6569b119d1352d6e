-- A run of bytes of one kind is cut in one way only where a byte of another kind, or nothing, stands behind it.
-- Assumes nothing.
use mathlib.Core.Path.{◌≡◌, refl, sym, subst}
use mathlib.Core.List.{List, [], ◌∷◌, ◌++◌, head-eq_of_cons-eq, tail-eq_of_cons-eq}
use Prim.Native.Nat.{ℕ}
use Rattle.base_64.specs.Lists.{All}

-- The list does not start with a P.
abbrev pub Stop : (ℕ → Type 0) → List ℕ → Type 0
Stop P [] = Unit {0}
Stop P (c ∷ l) = ¬ P c

pub run_unique : (P : ℕ → Type 0) (a b x y : List ℕ) → All P a → All P b → Stop P x → Stop P y
    → a ++ x ≡ b ++ y → (a ≡ b) × (x ≡ y)
run_unique P [] [] x y ha hb sx sy e = (refl, e)
run_unique P [] (d ∷ b) x y ha hb sx sy e = absurd (subst (Stop P) e sx hb.0)
run_unique P (c ∷ a) [] x y ha hb sx sy e = absurd (subst (Stop P) (sym e) sy ha.0)
run_unique P (c ∷ a) (d ∷ b) x y ha hb sx sy e =
    let rest = run_unique P a b x y ha.1 hb.1 sx sy (tail-eq_of_cons-eq e) in
    (λ i. head-eq_of_cons-eq e i ∷ rest.0 i, rest.1)
