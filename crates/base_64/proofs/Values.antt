-- The decode table: a list that passes one test, computed over all of it, is one, and each byte then has its value in it. Assumes
-- nothing.
use mathlib.Core.Path.{◌≡◌, refl, sym, ap, ◌∙◌}
use mathlib.Core.Logic.{◌≢◌}
use mathlib.Core.Bool.{Bool, true, false}
use mathlib.Core.List.{List}
use Prim.Native.Nat.{ℕ}
use native.Mathlib.Omega.{arith}
use lib.Dec.{T, eqb, ltb, eqb→eq, ltb→lt}
use lib.ListN.{length, get_or}
use lib.Seq.{ext_get_or}
use borrow.Author.Tests.{ltb-true}
use Rattle.base_64.specs.Alphabet.{radix, Sextet, Octet, alphabet, char_of, value_of}
use Rattle.base_64.specs.Values.{DecodeTable}
use Rattle.base_64.proofs.Tests.{below, below_at}
use Rattle.base_64.proofs.Alphabet.{value_char, char_value, value_outside}

-- The test: the entry of each byte is its value.
abbrev pub tested : List ℕ → Bool
tested table = below (λ c. eqb (get_or table c 0) (value_of c)) 256

-- A character is a byte.
char_octet : (v : ℕ) → Sextet v → Octet (char_of v)
unfolding alphabet
char_octet v h = ltb→lt _ _ (below_at (λ k. ltb (char_of k) 256) 64 tt v h)

-- A byte that is the character of no value is outside the alphabet.
no_value : (c : ℕ) → ((v : ℕ) → Sextet v → char_of v ≢ c) → value_of c ≡ radix
no_value c none = go (ltb (value_of c) radix) refl
  where
    go : (b : Bool) → ltb (value_of c) radix ≡ b → value_of c ≡ radix
    go true e = let h = ltb-true (value_of c) radix e in absurd (none (value_of c) h (char_value c h))
    go false e = value_outside c e

-- The test tells all that there is to know of a table.
pub tested_table : (table : List ℕ) → length table ≡ 256 → T (tested table) → DecodeTable table
tested_table table size passed = record {
  size = size;
  inside = λ v h. at (char_of v) (char_octet v h) ∙ value_char v h;
  outside = λ c h none. at c h ∙ no_value c none;
}
  where
    at : (c : ℕ) → Octet c → get_or table c 0 ≡ value_of c
    at c h = eqb→eq _ _ (below_at (λ c. eqb (get_or table c 0) (value_of c)) 256 passed c h)

-- The rule at each byte.
pub decode_value : {table : List ℕ} → DecodeTable table → (c : ℕ) → Octet c → get_or table c 0 ≡ value_of c
decode_value {table} d c h = go (ltb (value_of c) radix) refl
  where
    go : (b : Bool) → ltb (value_of c) radix ≡ b → get_or table c 0 ≡ value_of c
    go true e =
        let k = ltb-true (value_of c) radix e in
        rw (char_value c k) at (d.inside (value_of c) k)
    go false e =
        let outside = value_outside c e in
        d.outside c h (λ v k same. absurd (omega (arith, outside, k, sym (value_char v k) ∙ ap value_of same))) ∙ sym outside

-- So there is one such table only.
pub decode_table_unique : {a b : List ℕ} → DecodeTable a → DecodeTable b → a ≡ b
decode_table_unique {a} {b} d e =
    ext_get_or 0 a b (d.size ∙ sym e.size) (λ c h. let octet : Octet c = omega (arith, d.size, h) in decode_value d c octet ∙ sym (decode_value e c octet))
