-- The alphabet as a table of 256 entries, one for each byte. Assumes nothing.
use Rattle.std.specs.Prelude.{◌≡◌, ◌≢◌, List, ℕ, length, get_or}
use Rattle.base_64.specs.Alphabet.{radix, Sextet, Octet, char_of}

-- A decode table (K2): "it gives each character of the 64-entry alphabet its value and marks every other byte as outside". The
-- mark is the radix, which is no value.
pub record DecodeTable (table : List ℕ) : Type 0 where
  pub size : length table ≡ 256
  pub inside : (v : ℕ) → Sextet v → get_or table (char_of v) 0 ≡ v
  pub outside : (c : ℕ) → Octet c → ((v : ℕ) → Sextet v → char_of v ≢ c) → get_or table c 0 ≡ radix
