-- Spare bits. Assumes nothing.
use Rattle.std.specs.Prelude.{cond, ℕ, ◌%◌, eqb}

-- The spare bits of so many characters, of which the last has the value v.
abbrev pub spare_of : ℕ → ℕ → ℕ
spare_of count v = cond (eqb (count % 4) 2) (v % 16) (cond (eqb (count % 4) 3) (v % 4) 0)
