-- The numbers that the index call may give, with the place and the size that each answer carries. Assumes nothing.
use Rattle.std.specs.Prelude.{ℕ, ◌+◌, ◌*◌, Result, Ok, Err}
use Rattle.output.specs.declared.CallError.{CallError}
use Rattle.output.specs.declared.CallError.TheVariants.{Refused, TooSmall}
use Rattle.reading.specs.Answers.{refusal_number, refusal_place}
use Rattle.reading.specs.declared.Refusal.{Refusal}
use Rattle.indexing.specs.declared.TableSize.{TableSize}

-- How many numbers a table has for each message. (K6; before it, five.)
abbrev pub entry_numbers : ℕ
entry_numbers = 6

-- The size needed: 1 + 6 times the count.
abbrev pub size_for : ℕ → ℕ
size_for count = 1 + entry_numbers * count

abbrev pub table_size : ℕ → TableSize
table_size n = record { 0 = n }

-- The answer of the index call.
abbrev pub IndexAnswer : Type 0
IndexAnswer = Result TableSize (CallError Refusal TableSize)

abbrev pub number_of : IndexAnswer → ℕ
number_of (Ok size) = 0
number_of (Err (Refused refusal)) = refusal_number refusal
number_of (Err (TooSmall size)) = 10

abbrev pub place_of : IndexAnswer → ℕ
place_of (Ok size) = 0
place_of (Err (Refused refusal)) = refusal_place refusal
place_of (Err (TooSmall size)) = 0

-- What the result needs for 0 and 10, else zero.
abbrev pub size_of : IndexAnswer → ℕ
size_of (Ok size) = size.0
size_of (Err (Refused refusal)) = 0
size_of (Err (TooSmall size)) = size.0
