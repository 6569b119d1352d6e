-- A lent output on its way to zeros, all of it or its end. Assumes nothing.
use mathlib.Core.Path.{◌≡◌, refl, sym, ap, ◌∙◌}
use mathlib.Core.List.{List, ◌++◌, append-nil}
use Prim.Native.Nat.{ℕ, ◌+◌, ◌-◌, ◌≤◌, ◌<◌}
use native.Mathlib.Omega.{arith}
use lib.ListN.{length, set, take, drop, replicate, length-set, length-drop, take-append-drop}
use lib.Seq.{drop-length, take-set-le, drop-set-add}
use borrow.Author.Fill.{fill_more}

-- The first i numbers are zero, and the rest is as it was.
abbrev pub Zeroed : List ℕ → ℕ → List ℕ → Type 0
Zeroed old i now = (i ≤ length old) × (length now ≡ length old) × (now ≡ replicate i 0 ++ drop i old)

pub zeroed_none : (old : List ℕ) → Zeroed old 0 old
zeroed_none old = (omega arith, refl, refl)

pub zeroed_next : (old : List ℕ) (i : ℕ) (now : List ℕ) → Zeroed old i now → i < length now → Zeroed old (i + 1) (set now i 0)
zeroed_next old i now z h = (omega (arith, z.1), length-set now i 0 ∙ z.1, ap (λ l. set l i 0) z.2 ∙ fill_more i 0 old (omega (arith, z.1)))

pub zeroed_all : (old : List ℕ) (i : ℕ) (now : List ℕ) → Zeroed old i now → length now ≤ i → now ≡ replicate (length old) 0
zeroed_all old i now z h =
    let end : i ≡ length old = omega (arith, z.0, z.1) in
    z.2 ∙ rw (end, drop-length, append-nil)

-- ---- the end of an output

-- The numbers from `from` on and before i are zero, and the others are as they were.
pub record Cleared (old : List ℕ) (from i : ℕ) (now : List ℕ) : Type 0 where
  pub low : from ≤ i
  pub high : i ≤ length old
  pub size : length now ≡ length old
  pub front : take from now ≡ take from old
  pub back : Zeroed (drop from old) (i - from) (drop from now)

pub cleared_none : (old : List ℕ) (from : ℕ) → from ≤ length old → Cleared old from from old
cleared_none old from h =
    let none : from - from ≡ 0 = omega arith in
    record { low = omega arith; high = h; size = refl; front = refl; back = rw none (zeroed_none (drop from old)) }

module _ {old : List ℕ} {from i : ℕ} {now : List ℕ} (c : Cleared old from i now) where
  pub cleared_next : i < length now → Cleared old from (i + 1) (set now i 0)
  cleared_next h =
      let place : from + (i - from) ≡ i = omega (arith, c.low) in
      let more : i + 1 - from ≡ i - from + 1 = omega (arith, c.low) in
      let dropped : drop from (set now i 0) ≡ set (drop from now) (i - from) 0 = rw place at (drop-set-add from now (i - from) 0) in
      record {
        low = omega (arith, c.low);
        high = omega (arith, c.size);
        size = length-set now i 0 ∙ c.size;
        front = take-set-le from now i 0 c.low ∙ c.front;
        back = rw (more, dropped) (zeroed_next (drop from old) (i - from) (drop from now) c.back (simp length-drop (omega (arith, c.low))));
      }

  pub cleared_all : length now ≤ i → now ≡ take from old ++ replicate (length old - from) 0
  cleared_all h =
      let zeros = zeroed_all (drop from old) (i - from) (drop from now) c.back (simp length-drop (omega (arith, c.size))) in
      sym (take-append-drop from now) ∙ rw (c.front, zeros, length-drop)
