-- A body's data one byte at a time: the group that is open, and what the next byte does to it. Assumes nothing.
use Rattle.std.specs.Prelude.{cond, Some, None, List, ◌∷◌, ℕ, ltb, drop}
use Rattle.base_64.specs.Alphabet.{radix, Sextet, value_of}
use Rattle.base_64.specs.Groups.{byte1, byte2, byte3, to_bytes, values_of}
use Rattle.grammar.specs.Message.{characters}
use Rattle.decoder.specs.declared.Open.{Open}
use Rattle.decoder.specs.declared.Open.TheVariants.{Start, One, Two, Three}
use Rattle.decoder.specs.declared.Fed.{Fed}

-- What an open group holds is a value.
abbrev pub HoldsValue : Open → Type 0
HoldsValue Start = Unit {0}
HoldsValue (One a) = Sextet a
HoldsValue (Two b) = Sextet b
HoldsValue (Three c) = Sextet c

abbrev pub leaves : Open → Fed
leaves group = record { group = group; byte = None }

abbrev pub completes : ℕ → Open → Fed
completes byte group = record { group = group; byte = Some byte }

-- The next value of a group: from the second on each completes a byte.
abbrev pub fed : Open → ℕ → Fed
fed Start v = leaves (One v)
fed (One a) v = completes (byte1 a v) (Two v)
fed (Two b) v = completes (byte2 b v) (Three v)
fed (Three c) v = completes (byte3 c v) Start

-- The next byte of a body: a character's value goes to the group, any other byte is passed over.
abbrev pub fed_byte : Open → ℕ → Fed
fed_byte group c = cond (ltb (value_of c) radix) (fed group (value_of c)) (leaves group)

-- The bytes that are still to come from an open group and the values behind it: those that the group gave are dropped.
abbrev pub ahead : Open → List ℕ → List ℕ
ahead Start vs = to_bytes vs
ahead (One a) vs = to_bytes (a ∷ vs)
ahead (Two b) vs = drop 1 (to_bytes (0 ∷ b ∷ vs))
ahead (Three c) vs = drop 2 (to_bytes (0 ∷ 0 ∷ c ∷ vs))

-- The same for the bytes of a body.
abbrev pub ahead_body : Open → List ℕ → List ℕ
ahead_body g l = ahead g (values_of (characters l))
