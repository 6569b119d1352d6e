-- One message: its parts joined, and after the grammar its counts, spare bits and data. Assumes nothing.
use Rattle.std.specs.Prelude.{◌≡◌, cond, List, [], ◌∷◌, ◌++◌, ℕ, suc, eqb, ltb, length}
use Rattle.base_64.specs.Alphabet.{radix, pad, value_of}
use Rattle.base_64.specs.Groups.{CountsFit, values_of, spare_bits, decode}
use Rattle.grammar.specs.Marks.{Label, opening, closing}
use Rattle.grammar.specs.Grammars.{Before, Body, After}
use Rattle.grammar.specs.declared.Grammar.{Grammar}
use Rattle.grammar.specs.declared.Grammar.TheVariants.{Lax, Standard, Strict}

-- The parts of a message, in their order, without the fixed bytes of the boundaries. (Reading is the requirements' term.)
pub record Reading : Type 0 where
  pub before : List ℕ
  pub opening_label : List ℕ
  pub body : List ℕ
  pub closing_label : List ℕ
  pub after : List ℕ

-- The parts joined.
abbrev pub text_of : Reading → List ℕ
text_of r = r.before ++ (opening r.opening_label ++ (r.body ++ (closing r.closing_label ++ r.after)))

-- The parts are as the grammar has them. Whether the labels match plays no part yet.
pub record Shape (g : Grammar) (r : Reading) : Type 0 where
  pub before : Before g r.before
  pub opening_label : Label r.opening_label
  pub body : Body g r.body
  pub closing_label : Label r.closing_label
  pub after : After g r.after

-- The alphabet characters of a body, in their order.
unfoldable pub characters : List ℕ → List ℕ
characters [] = []
characters (c ∷ l) = cond (ltb (value_of c) radix) (c ∷ characters l) (characters l)

-- The number of pads of a body.
unfoldable pub pad_count : List ℕ → ℕ
pad_count [] = 0
pad_count (c ∷ l) = cond (eqb c pad) (suc (pad_count l)) (pad_count l)

-- The spare bits must be zero under standard and strict; lax drops them. (The requirements, before their change request K8:
-- they "must be zero under grammar 3; grammars 1 and 2 drop them".)
abbrev pub SpareBits : Grammar → List ℕ → Type 0
SpareBits Lax cs = Unit {0}
SpareBits Standard cs = spare_bits (values_of cs) ≡ 0
SpareBits Strict cs = spare_bits (values_of cs) ≡ 0

-- After the grammar: the same label in both boundaries, n characters and p pads that fit, spare bits as the grammar asks.
pub record Consistent (g : Grammar) (r : Reading) : Type 0 where
  pub labels : r.opening_label ≡ r.closing_label
  pub counts : CountsFit (length (characters r.body)) (pad_count r.body)
  pub spare : SpareBits g (characters r.body)

-- The data: the bytes of the alphabet characters (RFC 4648, high bits first).
abbrev pub data_of : Reading → List ℕ
data_of r = decode (characters r.body)

-- Under the grammar the text is one message with this label and this data.
pub record Message (g : Grammar) (text label content : List ℕ) : Type 0 where
  pub reading : Reading
  pub joined : text ≡ text_of reading
  pub shape : Shape g reading
  pub consistent : Consistent g reading
  pub has_label : label ≡ reading.opening_label
  pub has_data : content ≡ data_of reading
