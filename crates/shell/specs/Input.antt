-- How much of a buffer an input takes, and how an input is refused that is too long for it. Assumes nothing.
use Rattle.std.specs.Prelude.{List, Option, Some, None, length, ℕ, ◌<◌}
use Rattle.grammar.specs.declared.Grammar.{Grammar}
use Rattle.reading.specs.declared.Refusal.{Refusal}
use Rattle.reading.specs.declared.Refusal.TheVariants.{UnknownGrammar, TextTooLong}

-- The input lies within the buffer and leaves a byte of it free, so its end was seen.
abbrev pub Within : List ℕ → ℕ → Type 0
Within input size = length input < size

-- How an input is refused that is too long for the buffer: as the library refuses a text over its limit, by 2, and by 1 before it
-- where the grammar's number is unknown.
abbrev pub long_refusal : Option Grammar → Refusal
long_refusal None = UnknownGrammar
long_refusal (Some g) = TextTooLong
