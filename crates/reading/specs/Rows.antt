-- Rows of samples: a text, and what the read call answers to it under each grammar. Assumes nothing.
use Rattle.std.specs.Prelude.{List, [], ◌∷◌, ◌++◌, ℕ, ◌-◌, length, replicate, Option, None, Ok, Err}
use Rattle.output.specs.declared.CallError.TheVariants.{Refused, TooSmall}
use Rattle.grammar.specs.Grammars.{lax_number, standard_number, strict_number}
use Rattle.grammar.specs.declared.Family.{Family}
use Rattle.grammar.specs.declared.LineEnding.TheVariants.{Lf, CrLf, Cr}
use Rattle.grammar.specs.declared.LineStyle.{LineStyle}
use Rattle.grammar.specs.declared.LineStyle.TheVariants.{NoLineEnd, Only, Mixed}
use Rattle.reading.specs.Answers.{offset, byte_count, span, ReadAnswer}
use Rattle.reading.specs.Meaning.{Reads}
use Rattle.reading.specs.declared.Found.{Found}
use Rattle.reading.specs.declared.Refusal.{Refusal}
use Rattle.reading.specs.declared.Refusal.TheVariants.{BadOpening, BadBody, BadClosing, LabelsDiffer, BadCounts, SpareBits}

-- A row: a text and its outcome under each grammar.
pub record Row (Outcome : Type 0) : Type 0 where
  pub text : List ℕ
  pub lax : Outcome
  pub standard : Outcome
  pub strict : Outcome

-- The row holds: under each grammar's number its text has its outcome.
abbrev pub RowHolds : {Outcome : Type 0} → (ℕ → List ℕ → Outcome → Type 0) → Row Outcome → Type 0
RowHolds Has r = Has lax_number r.text r.lax × Has standard_number r.text r.standard × Has strict_number r.text r.strict

abbrev pub row : {Outcome : Type 0} → List ℕ → Outcome → Outcome → Outcome → Row Outcome
row text lax standard strict = record { text = text; lax = lax; standard = standard; strict = strict }

-- ---- The read call

-- What it makes of a text under a grammar: a label of so many bytes at 11 and its family, line ends of this style and this data;
-- a refusal; or data for which the lent output has no room.
pub data Outcome : Type 0 where
  accepted : (label_length : ℕ) (label_family : Option Family) → LineStyle → List ℕ → Outcome
  refused : Refusal → Outcome
  too_small : (label_length : ℕ) (label_family : Option Family) (size : ℕ) → Outcome

-- The bytes of the lent output.
abbrev pub room : ℕ
room = 4

abbrev pub found_for : (label_length : ℕ) (label_family : Option Family) (size : ℕ) → Found
found_for n k size = record { size = byte_count size; label = span 11 n; family = k }

abbrev pub answer_for : Outcome → ReadAnswer
answer_for (accepted n k style content) = Ok record { found = found_for n k (length content); style = style }
answer_for (refused refusal) = Err (Refused refusal)
answer_for (too_small n k size) = Err (TooSmall (found_for n k size))

abbrev pub output_for : Outcome → List ℕ
output_for (accepted n k style content) = content ++ replicate (room - length content) 0
output_for (refused refusal) = replicate room 0
output_for (too_small n k size) = replicate room 0

-- What it answers to a text.
abbrev pub Holds : ℕ → List ℕ → Outcome → Type 0
Holds number text o = Reads text number room (answer_for o) (output_for o)

-- Accepted, the label one byte and of no family, with line ends of each style.
abbrev pub no_line_end : List ℕ → Outcome
no_line_end content = accepted 1 None NoLineEnd content

abbrev pub lf : List ℕ → Outcome
lf content = accepted 1 None (Only Lf) content

abbrev pub crlf : List ℕ → Outcome
crlf content = accepted 1 None (Only CrLf) content

abbrev pub cr : List ℕ → Outcome
cr content = accepted 1 None (Only Cr) content

abbrev pub mixed : List ℕ → Outcome
mixed content = accepted 1 None Mixed content

-- Accepted, with a label of so many bytes and this family, and the one byte of M.
abbrev pub in_family : ℕ → Option Family → Outcome
in_family n k = accepted n k (Only Lf) (102 ∷ [])

-- The numbers of the table, each with its place.
abbrev pub no3 : ℕ → Outcome
no3 n = refused (BadOpening (offset n))

abbrev pub no4 : ℕ → Outcome
no4 n = refused (BadBody (offset n))

abbrev pub no5 : ℕ → Outcome
no5 n = refused (BadClosing (offset n))

abbrev pub no7 : ℕ → Outcome
no7 n = refused (LabelsDiffer (offset n))

abbrev pub no8 : ℕ → Outcome
no8 n = refused (BadCounts (offset n))

abbrev pub no9 : ℕ → Outcome
no9 n = refused (SpareBits (offset n))
