-- The characters that the values of data become. Assumes nothing.
use Rattle.std.specs.Prelude.{cond, ℕ, ◌%◌, leb}
use Rattle.base_64.specs.Alphabet.{radix, char_of}

-- A step that values from a first one on have.
abbrev pub step_from : ℕ → ℕ → ℕ → ℕ
step_from first v step = cond (leb first v) step 0

-- The character of a byte's low six bits.
abbrev pub low_char : ℕ → ℕ
low_char b = char_of (b % radix)
