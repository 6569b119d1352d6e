-- The rule of the table, and the values that the number of a group has as its bytes. Assumes nothing.
use mathlib.Core.Path.{◌≡◌, ap, ◌∙◌}
use Prim.Native.Nat.{ℕ, zero, suc, ◌+◌, ◌*◌, ◌/◌, ◌%◌, ◌≤◌}
use native.Mathlib.Omega.{arith}
use lib.ListN.{get_or}
use Rattle.base_64.specs.Alphabet.{Octet}
use Rattle.base_64.specs.Groups.{value1, value2, value3, value4}
use Rattle.base_64.proofs.Lists.{entries_at}
use Rattle.writer.specs.Spread.{spread, entries_of}

-- The entry of a byte.
pub table_rule : (p x : ℕ) → Octet x → get_or (entries_of p) x 0 ≡ spread p x
unfolding entries_of
table_rule p x h =
    let here : 0 + x ≡ x = omega arith in
    entries_at (spread p) 256 0 x h ∙ ap (spread p) here

pub spread_bound : (p x : ℕ) → Octet x → spread p x ≤ 1073741824
spread_bound zero x h = omega arith
spread_bound (suc zero) x h = omega arith
spread_bound (suc (suc p)) x h = omega arith

-- The four bytes of a number of 32 bits.
digits : (a b c d s : ℕ) → Octet a → Octet b → Octet c → s ≡ a + b * 256 + c * 65536 + d * 16777216
    → (s % 256 ≡ a) × (s / 256 % 256 ≡ b) × (s / 65536 % 256 ≡ c) × (s / 16777216 ≡ d)
digits a b c d s ha hb hc e = (omega arith, omega arith, omega arith, omega arith)

-- They are the values of the group.
pub number_values : (x y z s : ℕ) → Octet x → Octet y → Octet z → s ≡ spread 0 x + spread 1 y + spread 2 z
    → (s % 256 ≡ value1 x) × (s / 256 % 256 ≡ value2 x y) × (s / 65536 % 256 ≡ value3 y z) × (s / 16777216 ≡ value4 z)
number_values x y z s hx hy hz e = digits (value1 x) (value2 x y) (value3 y z) (value4 z) s (omega arith) (omega arith) (omega arith) (omega arith)
