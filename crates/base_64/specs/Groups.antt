-- RFC 4648, section 4: three bytes are four values of six bits, high bits first; a last group of one or two bytes is two
-- or three values, filled up with zero bits, and pads. Assumes nothing.
use Rattle.std.specs.Prelude.{◌≡◌, ◌⊎◌, List, [], ◌∷◌, ◌++◌, map, ℕ, ◌+◌, ◌*◌, ◌/◌, ◌%◌, replicate}
use Rattle.base_64.specs.Alphabet.{char_of, value_of, pad}

-- The four values of three bytes.
abbrev pub value1 : ℕ → ℕ
value1 x = x / 4

abbrev pub value2 : ℕ → ℕ → ℕ
value2 x y = x % 4 * 16 + y / 16

abbrev pub value3 : ℕ → ℕ → ℕ
value3 y z = y % 16 * 4 + z / 64

abbrev pub value4 : ℕ → ℕ
value4 z = z % 64

-- The values of bytes.
abbrev pub to_values : List ℕ → List ℕ
to_values [] = []
to_values (x ∷ []) = value1 x ∷ value2 x 0 ∷ []
to_values (x ∷ y ∷ []) = value1 x ∷ value2 x y ∷ value3 y 0 ∷ []
to_values (x ∷ y ∷ z ∷ r) = value1 x ∷ value2 x y ∷ value3 y z ∷ value4 z ∷ to_values r

-- The number of pads behind the values of bytes.
abbrev pub pads_for : List ℕ → ℕ
pads_for [] = 0
pads_for (x ∷ []) = 2
pads_for (x ∷ y ∷ []) = 1
pads_for (x ∷ y ∷ z ∷ r) = pads_for r

-- The three bytes of four values.
abbrev pub byte1 : ℕ → ℕ → ℕ
byte1 a b = a * 4 + b / 16

abbrev pub byte2 : ℕ → ℕ → ℕ
byte2 b c = b % 16 * 16 + c / 4

abbrev pub byte3 : ℕ → ℕ → ℕ
byte3 c d = c % 4 * 64 + d

-- The bytes of values. A single value left over has no byte.
abbrev pub to_bytes : List ℕ → List ℕ
to_bytes [] = []
to_bytes (a ∷ []) = []
to_bytes (a ∷ b ∷ []) = byte1 a b ∷ []
to_bytes (a ∷ b ∷ c ∷ []) = byte1 a b ∷ byte2 b c ∷ []
to_bytes (a ∷ b ∷ c ∷ d ∷ r) = byte1 a b ∷ byte2 b c ∷ byte3 c d ∷ to_bytes r

-- The bits of the last value that belong to no byte, as a number: four of them behind one byte, two behind two. (Spare bits is
-- the requirements' term; RFC 4648 calls them pad bits.)
abbrev pub spare_bits : List ℕ → ℕ
spare_bits [] = 0
spare_bits (a ∷ []) = 0
spare_bits (a ∷ b ∷ []) = b % 16
spare_bits (a ∷ b ∷ c ∷ []) = c % 4
spare_bits (a ∷ b ∷ c ∷ d ∷ r) = spare_bits r

-- So many characters and pads make whole groups: the last group has no pad, or two characters and two pads, or three
-- characters and one pad. (The requirements: n and p fit.)
abbrev pub CountsFit : ℕ → ℕ → Type 0
CountsFit n p = ((n % 4 ≡ 0) × (p ≡ 0)) ⊎ (((n % 4 ≡ 2) × (p ≡ 2)) ⊎ ((n % 4 ≡ 3) × (p ≡ 1)))

-- The values of characters.
abbrev pub values_of : List ℕ → List ℕ
values_of cs = map value_of cs

-- The characters of bytes.
abbrev pub chars_of : List ℕ → List ℕ
chars_of d = map char_of (to_values d)

-- The base 64 text of bytes: their characters, then the pads.
abbrev pub encode : List ℕ → List ℕ
encode d = chars_of d ++ replicate (pads_for d) pad

-- The bytes of alphabet characters.
abbrev pub decode : List ℕ → List ℕ
decode cs = to_bytes (values_of cs)
