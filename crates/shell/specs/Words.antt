-- The word that names a grammar on the command line: lax, standard, strict, or a number. Assumes nothing.
use Rattle.std.specs.Prelude.{◌≡◌, cond, ◌≢◌, List, [], ◌∷◌, Option, Some, None, option_and_then, ℕ, ◌+◌, ◌-◌, ◌*◌, ltb}
use Rattle.grammar.specs.Grammars.{lax_number, standard_number, strict_number}

-- "lax", "standard" and "strict".
abbrev pub lax : List ℕ
lax = 108 ∷ 97 ∷ 120 ∷ []

abbrev pub standard : List ℕ
standard = 115 ∷ 116 ∷ 97 ∷ 110 ∷ 100 ∷ 97 ∷ 114 ∷ 100 ∷ []

abbrev pub strict : List ℕ
strict = 115 ∷ 116 ∷ 114 ∷ 105 ∷ 99 ∷ 116 ∷ []

-- The characters '0' and '9'.
abbrev pub first_digit : ℕ
first_digit = 48

abbrev pub last_digit : ℕ
last_digit = 57

-- A number below this one may have another digit: nine digits are the most.
abbrev pub few_enough : ℕ
few_enough = 100000000

-- A number with one more character: a digit moves those before it one place to the left.
abbrev pub extended : ℕ → ℕ → Option ℕ
extended number c =
    cond (ltb c first_digit) None
    (cond (ltb last_digit c) None
    (cond (ltb number few_enough) (Some (number * 10 + (c - first_digit)))
    None))

-- The number that characters behind a number make of it.
unfoldable pub spelled_from : ℕ → List ℕ → Option ℕ
spelled_from number [] = Some number
spelled_from number (c ∷ l) = option_and_then (λ n. spelled_from n l) (extended number c)

-- The number that a word spells in decimal digits: one digit at least.
abbrev pub spelled : List ℕ → Option ℕ
spelled [] = None
spelled (c ∷ l) = spelled_from 0 (c ∷ l)

-- What a word names: a grammar by its name, or else by its number, which may be one that the library does not know.
pub record Names (word : List ℕ) (choice : Option ℕ) : Type 0 where
  pub is_lax : word ≡ lax → choice ≡ Some lax_number
  pub is_standard : word ≡ standard → choice ≡ Some standard_number
  pub is_strict : word ≡ strict → choice ≡ Some strict_number
  pub is_no_name : word ≢ lax → word ≢ standard → word ≢ strict → choice ≡ spelled word
