-- The rule of the table, and of the number that a group is. Assumes nothing.
use mathlib.Core.Path.{◌≡◌, refl, ap, ◌∙◌}
use mathlib.Core.Bool.{Bool, true, false}
use mathlib.Core.List.{[], ◌∷◌}
use Prim.Native.Nat.{ℕ, zero, suc, ◌+◌, ◌*◌, ◌/◌, ◌%◌, ◌≤◌, ◌<◌}
use native.Mathlib.Omega.{arith}
use lib.Dec.{ltb}
use lib.ListN.{get_or}
use borrow.Author.Tests.{ltb-true}
use Rattle.base_64.specs.Alphabet.{radix, value_of, AlphabetChar}
use Rattle.base_64.specs.Groups.{byte1, byte2, byte3}
use Rattle.base_64.proofs.Lists.{entries_at}
use Rattle.runs.specs.Runs.{NoCharacter}
use Rattle.decoder.specs.Tables.{mark, placed, marked, entries_of, group_number}

-- The entry of a byte.
pub table_rule : (p c : ℕ) → c < 256 → get_or (entries_of p) c 0 ≡ marked p c
unfolding entries_of
table_rule p c h = entries_at (marked p) 256 0 c h ∙ (let here : 0 + c ≡ c = omega arith in ap (marked p) here)

-- The entries of a place.
pub row_at : (p : ℕ) → p < 4 → get_or (entries_of 0 ∷ entries_of 1 ∷ entries_of 2 ∷ entries_of 3 ∷ []) p [] ≡ entries_of p
row_at zero h = refl
row_at (suc zero) h = refl
row_at (suc (suc zero)) h = refl
row_at (suc (suc (suc zero))) h = refl
row_at (suc (suc (suc (suc p)))) h = absurd (omega arith)

-- What an entry is: that of an alphabet character's value, or the mark.
pub data Entry (p c : ℕ) : Type 0 where
  inside : AlphabetChar c → marked p c ≡ placed p (value_of c) → Entry p c
  outside : NoCharacter c → marked p c ≡ mark → Entry p c

pub entry : (p c : ℕ) → Entry p c
entry p c = go (ltb (value_of c) radix) refl
  where
    go : (b : Bool) → ltb (value_of c) radix ≡ b → Entry p c
    go true e = inside (ltb-true (value_of c) radix e) (rw e)
    go false e = outside e (rw e)

placed_bound : (p v : ℕ) → v < 64 → placed p v ≤ mark
placed_bound zero v h = omega arith
placed_bound (suc zero) v h = omega arith
placed_bound (suc (suc zero)) v h = omega arith
placed_bound (suc (suc (suc p))) v h = omega arith

pub marked_bound : (p c : ℕ) → marked p c ≤ mark
marked_bound p c = go (entry p c)
  where
    go : Entry p c → marked p c ≤ mark
    go (inside h e) = omega (arith, e, placed_bound p (value_of c) h)
    go (outside k e) = omega (arith, e)

-- Four characters of the alphabet.
pub record Inside (a b c d : ℕ) : Type 0 where
  pub one : AlphabetChar a
  pub two : AlphabetChar b
  pub three : AlphabetChar c
  pub four : AlphabetChar d

-- One test tells all four, and the number has their bytes.
pub record Group (a b c d s : ℕ) : Type 0 where
  pub inside : Inside a b c d
  pub first : s % 256 ≡ byte1 (value_of a) (value_of b)
  pub second : s / 256 % 256 ≡ byte2 (value_of b) (value_of c)
  pub third : s / 65536 % 256 ≡ byte3 (value_of c) (value_of d)

-- The three digits of a number of 24 bits.
digits : (x y z s : ℕ) → x < 256 → y < 256 → z < 256 → s ≡ x + y * 256 + z * 65536 → (s % 256 ≡ x) × (s / 256 % 256 ≡ y) × (s / 65536 % 256 ≡ z)
digits x y z s hx hy hz e = (omega arith, omega arith, omega arith)

values_group : (a b c d s : ℕ) → a < 64 → b < 64 → c < 64 → d < 64 → s ≡ placed 0 a + placed 1 b + placed 2 c + placed 3 d
    → (s % 256 ≡ byte1 a b) × (s / 256 % 256 ≡ byte2 b c) × (s / 65536 % 256 ≡ byte3 c d)
values_group a b c d s ha hb hc hd e = digits (byte1 a b) (byte2 b c) (byte3 c d) s (omega arith) (omega arith) (omega arith) (omega arith)

pub number_group : (a b c d s : ℕ) → s ≡ group_number a b c d → s < mark → Group a b c d s
number_group a b c d s e h = go (entry 0 a) (entry 1 b) (entry 2 c) (entry 3 d)
  where
    go : Entry 0 a → Entry 1 b → Entry 2 c → Entry 3 d → Group a b c d s
    go (inside ha ea) (inside hb eb) (inside hc ec) (inside hd ed) =
        let n : s ≡ placed 0 (value_of a) + placed 1 (value_of b) + placed 2 (value_of c) + placed 3 (value_of d) = omega (arith, e, ea, eb, ec, ed) in
        let v = values_group (value_of a) (value_of b) (value_of c) (value_of d) s ha hb hc hd n in
        record { inside = record { one = ha; two = hb; three = hc; four = hd }; first = v.0; second = v.1; third = v.2 }
    go (outside ka ea) eb ec ed = absurd (omega (arith, e, ea))
    go (inside ha ea) (outside kb eb) ec ed = absurd (omega (arith, e, eb))
    go (inside ha ea) (inside hb eb) (outside kc ec) ed = absurd (omega (arith, e, ec))
    go (inside ha ea) (inside hb eb) (inside hc ec) (outside kd ed) = absurd (omega (arith, e, ed))
