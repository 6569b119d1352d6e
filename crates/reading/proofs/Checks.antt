-- The tests of the checks decide what the relations ask. Assumes nothing.
use mathlib.Core.Path.{◌≡◌, refl, sym, ◌∙◌}
use mathlib.Core.Logic.{inl, inr}
use mathlib.Core.Bool.{Bool, true, false, not, cond, true≢false}
use Prim.Native.Nat.{ℕ, ◌%◌}
use lib.Dec.{eqb}
use borrow.Author.Tests.{eqb-true, not-true, not-false}
use Rattle.base_64.specs.Groups.{CountsFit}
use Rattle.reading.specs.Read.{counts_fit}

-- n and p fit exactly where the test says so.
pub counts_fit_true : (n p : ℕ) → counts_fit n p ≡ true → CountsFit n p
counts_fit_true n p e = go (eqb (n % 4) 0) refl (eqb (n % 4) 2) refl (eqb (n % 4) 3) refl e
  where
    go : (a : Bool) → eqb (n % 4) 0 ≡ a → (b : Bool) → eqb (n % 4) 2 ≡ b → (c : Bool) → eqb (n % 4) 3 ≡ c
        → cond a (eqb p 0) (cond b (eqb p 2) (cond c (eqb p 1) false)) ≡ true → CountsFit n p
    go true ea b eb c ec e = inl (eqb-true _ _ ea, eqb-true _ _ e)
    go false ea true eb c ec e = inr (inl (eqb-true _ _ eb, eqb-true _ _ e))
    go false ea false eb true ec e = inr (inr (eqb-true _ _ ec, eqb-true _ _ e))
    go false ea false eb false ec e = absurd (true≢false (sym e))

pub counts_fit_test : (n p : ℕ) → CountsFit n p → counts_fit n p ≡ true
counts_fit_test n p (inl (e, f)) = rw (counts_fit, e, f)
counts_fit_test n p (inr (inl (e, f))) = rw (counts_fit, e, f)
counts_fit_test n p (inr (inr (e, f))) = rw (counts_fit, e, f)

-- What the code's test of a check's answer tells: `if !check(..)` was passed by, or taken.
pub check_passed : {r b : Bool} → r ≡ b → not r ≡ false → b ≡ true
check_passed e h = sym e ∙ not-false _ h

pub check_failed : {r b : Bool} → r ≡ b → not r ≡ true → b ≡ false
check_failed e h = sym e ∙ not-true _ h
