-- Labels as arrays of one length: zeros stand behind each label. Assumes nothing.
use Rattle.std.specs.Prelude.{List, ◌++◌, ℕ, ◌-◌, ◌==◌, length, replicate}
use Rattle.std.specs.List.{before_first}

-- The bytes of each array.
abbrev pub array_length : ℕ
array_length = 24

abbrev pub padded : List ℕ → List ℕ
padded label = label ++ replicate (array_length - length label) 0

-- What stands in an array before its first zero.
abbrev pub unpadded : List ℕ → List ℕ
unpadded array = before_first (λ b. b == 0) array
