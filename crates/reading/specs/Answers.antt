-- The numbers a caller may get, with the place, the size, the label's position and family and the style of the line ends that
-- each answer carries. Assumes nothing.
use Rattle.std.specs.Prelude.{ℕ, Result, Ok, Err}
use Rattle.base_64.specs.declared.ByteCount.{ByteCount}
use Rattle.grammar.specs.Families.{family_told}
use Rattle.grammar.specs.LineEnds.{style_number}
use Rattle.grammar.specs.declared.TextOffset.{TextOffset}
use Rattle.output.specs.declared.CallError.{CallError}
use Rattle.output.specs.declared.CallError.TheVariants.{Refused, TooSmall}
use Rattle.reading.specs.declared.Accepted.{Accepted}
use Rattle.reading.specs.declared.Found.{Found}
use Rattle.reading.specs.declared.Span.{Span}
use Rattle.reading.specs.declared.Refusal.{Refusal}
use Rattle.reading.specs.declared.Refusal.TheVariants.{UnknownGrammar, TextTooLong, BadOpening, BadBody, BadClosing, LabelTooLong, LabelsDiffer, BadCounts, SpareBits}

-- An offset in a text and a count of decoded bytes.
abbrev pub offset : ℕ → TextOffset
offset n = record { 0 = n }

abbrev pub byte_count : ℕ → ByteCount
byte_count n = record { 0 = n }

-- A part of a text, by the offset where it starts and its bytes.
abbrev pub span : ℕ → ℕ → Span
span at n = record { at = offset at; length = n }

abbrev pub refusal_number : Refusal → ℕ
refusal_number UnknownGrammar = 1
refusal_number TextTooLong = 2
refusal_number (BadOpening at) = 3
refusal_number (BadBody at) = 4
refusal_number (BadClosing at) = 5
refusal_number (LabelTooLong at) = 6
refusal_number (LabelsDiffer at) = 7
refusal_number (BadCounts at) = 8
refusal_number (SpareBits at) = 9

abbrev pub refusal_place : Refusal → ℕ
refusal_place UnknownGrammar = 0
refusal_place TextTooLong = 0
refusal_place (BadOpening at) = at.0
refusal_place (BadBody at) = at.0
refusal_place (BadClosing at) = at.0
refusal_place (LabelTooLong at) = at.0
refusal_place (LabelsDiffer at) = at.0
refusal_place (BadCounts at) = at.0
refusal_place (SpareBits at) = at.0

-- The answer of the read call.
abbrev pub ReadAnswer : Type 0
ReadAnswer = Result Accepted (CallError Refusal Found)

abbrev pub number_of : ReadAnswer → ℕ
number_of (Ok accepted) = 0
number_of (Err (Refused refusal)) = refusal_number refusal
number_of (Err (TooSmall found)) = 10

abbrev pub place_of : ReadAnswer → ℕ
place_of (Ok accepted) = 0
place_of (Err (Refused refusal)) = refusal_place refusal
place_of (Err (TooSmall found)) = 0

-- What the result needs for 0 and 10, else zero.
abbrev pub size_of : ReadAnswer → ℕ
size_of (Ok accepted) = accepted.found.size.0
size_of (Err (Refused refusal)) = 0
size_of (Err (TooSmall found)) = found.size.0

-- The label's offset and length, both zero unless the answer is 0 or 10.
abbrev pub label_offset_of : ReadAnswer → ℕ
label_offset_of (Ok accepted) = accepted.found.label.at.0
label_offset_of (Err (Refused refusal)) = 0
label_offset_of (Err (TooSmall found)) = found.label.at.0

abbrev pub label_length_of : ReadAnswer → ℕ
label_length_of (Ok accepted) = accepted.found.label.length
label_length_of (Err (Refused refusal)) = 0
label_length_of (Err (TooSmall found)) = found.label.length

-- The number of the label's family; zero unless the answer is 0 or 10. (K6; no number of the requirements had it.)
abbrev pub label_family_of : ReadAnswer → ℕ
label_family_of (Ok accepted) = family_told accepted.found.family
label_family_of (Err (Refused refusal)) = 0
label_family_of (Err (TooSmall found)) = family_told found.family

-- The number of the style of the line ends; zero unless the answer is 0. (K7; no number of the requirements had it.)
abbrev pub line_style_of : ReadAnswer → ℕ
line_style_of (Ok accepted) = style_number accepted.style
line_style_of (Err (Refused refusal)) = 0
line_style_of (Err (TooSmall found)) = 0
