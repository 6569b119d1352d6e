-- What zero spare bits are for: data has one base 64 text. Assumes nothing.
use Rattle.std.specs.Prelude.{◌≡◌, List, ◌++◌, ℕ, replicate}
use Rattle.base_64.specs.Alphabet.{pad}
use Rattle.base_64.specs.Groups.{encode}
use Rattle.grammar.specs.Message.{Reading, Shape, characters, pad_count, Consistent, data_of}
use Rattle.grammar.specs.declared.Grammar.{Grammar}
use Rattle.grammar.specs.declared.Grammar.TheVariants.{Lax, Standard, Strict}

-- The characters of a body, and then its pads: what is left of it without blanks and line ends.
abbrev pub chars_then_pads : List ℕ → List ℕ
chars_then_pads l = characters l ++ replicate (pad_count l) pad

-- The encoding is canonical (RFC 4648, section 3.5): the characters and pads of each message, alone or in a bundle, are the
-- base 64 text of its data, so they are the same in all messages of the same data.
abbrev pub Canonical : Grammar → Type 0
Canonical g = (r : Reading) → Shape g r → Consistent g r → chars_then_pads r.body ≡ encode (data_of r)

-- The claim. Lax drops spare bits, so there the same data has several: `Zg==` and `Zh==` are both 66 hex.
pub record CanonicalEncoding : Type 0 where
  pub standard : Canonical Standard
  pub strict : Canonical Strict
  pub lax : ¬ Canonical Lax
