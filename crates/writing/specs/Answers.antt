-- The numbers that the write call may give, with the place and the size that each answer carries. Assumes nothing.
use Rattle.std.specs.Prelude.{ℕ, Result, Ok, Err}
use Rattle.output.specs.declared.CallError.{CallError}
use Rattle.output.specs.declared.CallError.TheVariants.{Refused, TooSmall}
use Rattle.writing.specs.declared.TextSize.{TextSize}
use Rattle.writing.specs.declared.WriteRefusal.{WriteRefusal}
use Rattle.writing.specs.declared.WriteRefusal.TheVariants.{LabelTooLong, NotALabel, NoData, DataTooLong, UnknownStyle}

-- The text's size, or why there is none.
abbrev pub WriteAnswer : Type 0
WriteAnswer = Result TextSize (CallError WriteRefusal TextSize)

abbrev pub text_size : ℕ → TextSize
text_size n = record { 0 = n }

abbrev pub refusal_number : WriteRefusal → ℕ
refusal_number LabelTooLong = 11
refusal_number NotALabel = 12
refusal_number NoData = 13
refusal_number DataTooLong = 14
refusal_number UnknownStyle = 20

abbrev pub number_of : WriteAnswer → ℕ
number_of (Ok size) = 0
number_of (Err (Refused refusal)) = refusal_number refusal
number_of (Err (TooSmall size)) = 10

abbrev pub place_of : WriteAnswer → ℕ
place_of a = 0

-- What the result needs for 0 and 10, else zero.
abbrev pub size_of : WriteAnswer → ℕ
size_of (Ok size) = size.0
size_of (Err (Refused refusal)) = 0
size_of (Err (TooSmall size)) = size.0
