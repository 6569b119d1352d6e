-- A rule of a run of numbers, proved at all of them by one test that computes. Assumes nothing.
use mathlib.Core.Path.{◌≡◌, refl}
use mathlib.Core.Logic.{◌≢◌}
use mathlib.Core.Bool.{Bool, true, false}
use Prim.Native.Nat.{ℕ, zero, suc, ◌+◌, ◌-◌, ◌≤◌, ◌<◌}
use native.Mathlib.Omega.{arith}
use lib.Dec.{T, eqb}
use borrow.Author.Tests.{eqb-true, eqb-false}

-- Both tests pass.
abbrev pub both : Bool → Bool → Bool
both true b = b
both false b = false

pub both_left : (a b : Bool) → T (both a b) → T a
both_left true b t = tt
both_left false b t = t

pub both_right : (a b : Bool) → T (both a b) → T b
both_right true b t = t
both_right false b t = absurd t

-- The test passes at each number below n.
abbrev pub below : (ℕ → Bool) → ℕ → Bool
below f zero = true
below f (suc n) = both (f n) (below f n)

pub below_at : (f : ℕ → Bool) (n : ℕ) → T (below f n) → (k : ℕ) → k < n → T (f k)
below_at f zero t k h = absurd (omega arith)
below_at f (suc n) t k h = go (below_at f n (both_right (f n) (below f n) t) k) (eqb k n) refl
  where
    go : (k < n → T (f k)) → (b : Bool) → eqb k n ≡ b → T (f k)
    go earlier true e = rw (eqb-true k n e) (both_left (f n) (below f n) t)
    go earlier false e = let other : k ≢ n = eqb-false k n e in earlier (omega arith)

-- The test passes at each of the n numbers from first on.
abbrev pub run : (ℕ → Bool) → ℕ → ℕ → Bool
run f first n = below (λ k. f (first + k)) n

pub run_at : (f : ℕ → Bool) (first n : ℕ) → T (run f first n) → (k : ℕ) → first ≤ k → k < first + n → T (f k)
run_at f first n t k low high =
    let place : first + (k - first) ≡ k = omega arith in
    rw place at (below_at (λ k. f (first + k)) n t (k - first) (omega arith))
