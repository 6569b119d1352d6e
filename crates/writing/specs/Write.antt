-- What `write` answers, as functions of the label, the data, the style's number and the output's length alone, check by check in
-- the requirements' order. Assumes nothing. None of this has to be believed: see `Meaning`.
use Rattle.std.specs.Prelude.{Bool, cond, List, ◌++◌, ℕ, ◌-◌, eqb, ltb, length, replicate, Option, Some, None, Result, Ok, Err}
use Rattle.grammar.specs.LineEnds.{line_ending_of}
use Rattle.grammar.specs.declared.LineEnding.{LineEnding}
use Rattle.machine.proofs.Machine.{label_from}
use Rattle.machine.specs.declared.LabelPhase.TheVariants.{Start}
use Rattle.output.specs.declared.CallError.TheVariants.{Refused, TooSmall}
use Rattle.reading.specs.Limits.{label_limit}
use Rattle.writing.specs.Limits.{data_limit}
use Rattle.writing.specs.Answers.{WriteAnswer, text_size}
use Rattle.writing.specs.Text.{written_text, written_size}
use Rattle.writing.specs.declared.Taken.{Taken}
use Rattle.writing.specs.declared.WriteRefusal.{WriteRefusal}
use Rattle.writing.specs.declared.WriteRefusal.TheVariants.{LabelTooLong, NotALabel, NoData, DataTooLong, UnknownStyle}

-- ---- Checks 11 to 14 and 20

-- The tests of the four. The machine reads bytes as a label, or it does not.
abbrev pub long_label : List ℕ → Bool
long_label label = ltb label_limit (length label)

abbrev pub is_label : List ℕ → Bool
is_label label = label_from Start label

abbrev pub no_data : List ℕ → Bool
no_data content = eqb (length content) 0

abbrev pub long_data : List ℕ → Bool
long_data content = ltb data_limit (length content)

-- All of them passed, or the first that did not.
abbrev pub Judgement : Type 0
Judgement = Result Taken WriteRefusal

-- Check 20.
abbrev pub styled : Option LineEnding → List ℕ → List ℕ → Judgement
styled None label content = Err UnknownStyle
styled (Some s) label content = Ok record { ending = s; size = text_size (written_size s (length label) (length content)) }

abbrev pub judge_of : List ℕ → List ℕ → ℕ → Judgement
judge_of label content number =
    cond
    (long_label label)
    (Err LabelTooLong)
    (cond
    (is_label label)
    (cond
    (no_data content)
    (Err NoData)
    (cond
    (long_data content)
    (Err DataTooLong)
    (styled (line_ending_of number) label content)))
    (Err NotALabel))

-- ---- Check 10, the answer and the output

-- There is less room than the text needs.
abbrev pub too_small : ℕ → ℕ → Bool
too_small room size = ltb room size

abbrev pub answered : Judgement → ℕ → WriteAnswer
answered (Err r) room = Err (Refused r)
answered (Ok t) room = cond (too_small room t.size.0) (Err (TooSmall t.size)) (Ok t.size)

abbrev pub write_of : List ℕ → List ℕ → ℕ → ℕ → WriteAnswer
write_of label content number room = answered (judge_of label content number) room

-- The text and then zeros, or zeros only.
abbrev pub filled : Judgement → List ℕ → List ℕ → ℕ → List ℕ
filled (Err r) label content room = replicate room 0
filled (Ok t) label content room =
    cond (too_small room t.size.0) (replicate room 0) (written_text t.ending label content ++ replicate (room - t.size.0) 0)

abbrev pub write_output : List ℕ → List ℕ → ℕ → ℕ → List ℕ
write_output label content number room = filled (judge_of label content number) label content room
