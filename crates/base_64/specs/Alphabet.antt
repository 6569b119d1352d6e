-- RFC 4648, section 4, table 1: the alphabet of base 64. Assumes nothing.
use Rattle.std.specs.Prelude.{Option, Some, None, cond, List, [], ◌∷◌, ℕ, suc, ◌<◌, eqb, ltb, get_or}

-- How many values there are.
abbrev pub radix : ℕ
radix = 64

-- A value: six bits.
abbrev pub Sextet : ℕ → Type 0
Sextet v = v < radix

-- A byte: eight bits.
abbrev pub Octet : ℕ → Type 0
Octet x = x < 256

-- The characters for values 0 to 63: A to Z, a to z, 0 to 9, + and /.
unfoldable pub alphabet : List ℕ
alphabet =
    65 ∷ 66 ∷ 67 ∷ 68 ∷ 69 ∷ 70 ∷ 71 ∷ 72 ∷ 73 ∷ 74 ∷ 75 ∷ 76 ∷ 77 ∷ 78 ∷ 79 ∷ 80 ∷ 81 ∷ 82 ∷ 83 ∷ 84 ∷ 85 ∷ 86 ∷ 87 ∷ 88 ∷ 89 ∷ 90
    ∷ 97 ∷ 98 ∷ 99 ∷ 100 ∷ 101 ∷ 102 ∷ 103 ∷ 104 ∷ 105 ∷ 106 ∷ 107 ∷ 108 ∷ 109 ∷ 110 ∷ 111 ∷ 112 ∷ 113 ∷ 114 ∷ 115 ∷ 116 ∷ 117 ∷ 118 ∷ 119 ∷ 120 ∷ 121 ∷ 122
    ∷ 48 ∷ 49 ∷ 50 ∷ 51 ∷ 52 ∷ 53 ∷ 54 ∷ 55 ∷ 56 ∷ 57
    ∷ 43
    ∷ 47
    ∷ []

-- The pad, "=".
abbrev pub pad : ℕ
pad = 61

-- The character of a value.
abbrev pub char_of : ℕ → ℕ
char_of v = get_or alphabet v 0

-- The first place of c in a list, or the list's length where c is not in it.
unfoldable pub place_in : List ℕ → ℕ → ℕ
place_in [] c = 0
place_in (x ∷ xs) c = cond (eqb x c) 0 (suc (place_in xs c))

-- The value of a character: its place in the alphabet, so the radix for any byte outside.
unfoldable pub value_of : ℕ → ℕ
value_of c = place_in alphabet c

-- The characters of the alphabet.
abbrev pub AlphabetChar : ℕ → Type 0
AlphabetChar c = Sextet (value_of c)

-- A byte's value as the code answers it: none outside the alphabet.
abbrev pub answer_of : ℕ → Option ℕ
answer_of c = cond (ltb (value_of c) radix) (Some (value_of c)) None
