-- What the numbers of the write call mean, row by row in the requirements' order and in the grammars' relations.
-- Assumes nothing.
use Rattle.std.specs.Prelude.{◌≡◌, ◌≢◌, List, [], ◌++◌, ℕ, ◌-◌, ◌≤◌, ◌<◌, length, replicate, Some, None, Ok, Err}
use Rattle.output.specs.declared.CallError.TheVariants.{Refused, TooSmall}
use Rattle.grammar.specs.Marks.{Label}
use Rattle.grammar.specs.LineEnds.{LineEnds, line_ending_of, style_of}
use Rattle.grammar.specs.Message.{Message}
use Rattle.grammar.specs.declared.LineEnding.{LineEnding}
use Rattle.grammar.specs.declared.Grammar.TheVariants.{Strict}
use Rattle.grammar.specs.declared.LineStyle.TheVariants.{Only}
use Rattle.reading.specs.Limits.{label_limit}
use Rattle.writing.specs.Limits.{data_limit}
use Rattle.writing.specs.Answers.{WriteAnswer, text_size}
use Rattle.writing.specs.declared.WriteRefusal.{WriteRefusal}
use Rattle.writing.specs.declared.WriteRefusal.TheVariants.{LabelTooLong, NotALabel, NoData, DataTooLong, UnknownStyle}

-- None of 11 to 14 applies: the writer takes this label and data.
pub record Takes (label content : List ℕ) : Type 0 where
  pub short_label : length label ≤ label_limit
  pub is_label : Label label
  pub some_data : content ≢ []
  pub short_data : length content ≤ data_limit

-- The rows 11 to 14 and 20, of a label, data and the number of a style.
pub data Refuses (label content : List ℕ) (number : ℕ) : WriteRefusal → Type 0 where
  -- 11: label over 64 bytes
  label_too_long : label_limit < length label → Refuses label content number LabelTooLong
  -- 12: not a label
  not_aLabel : length label ≤ label_limit → ¬ Label label → Refuses label content number NotALabel
  -- 13: no data
  no_data : length label ≤ label_limit → Label label → content ≡ [] → Refuses label content number NoData
  -- 14: data over 8,388,608 bytes (K4; before it, "data over 32,768 bytes")
  data_too_long : length label ≤ label_limit → Label label → data_limit < length content → Refuses label content number DataTooLong
  -- 20: style not 1, 2 or 3 (K7; behind 14 and before 10)
  unknown_style : Takes label content → line_ending_of number ≡ None → Refuses label content number UnknownStyle

-- The strict text of a label and data with line ends of one kind. (The requirements, before their change request K7: "the strict
-- text with LF line ends".)
pub record StrictText (s : LineEnding) (text label content : List ℕ) : Type 0 where
  pub message : Message Strict text label content
  pub list : List LineEnding
  pub line_ends : LineEnds text list
  pub style : style_of list ≡ Only s

-- The answer of the write call, and its output of `room` bytes.
pub data Writes (label content : List ℕ) (number room : ℕ) : WriteAnswer → List ℕ → Type 0 where
  -- 0: accepted; the strict text in the style asked, and then zeros
  accepted : (s : LineEnding) (text : List ℕ) → Takes label content → line_ending_of number ≡ Some s → StrictText s text label content → length text ≤ room
      → Writes label content number room (Ok (text_size (length text))) (text ++ replicate (room - length text) 0)
  -- 11 to 14, 20: zeros only
  refused : {refusal : WriteRefusal} → Refuses label content number refusal → Writes label content number room (Err (Refused refusal)) (replicate room 0)
  -- 10: lent output too small; zeros only
  output_too_small : (s : LineEnding) (text : List ℕ) → Takes label content → line_ending_of number ≡ Some s → StrictText s text label content → room < length text
      → Writes label content number room (Err (TooSmall (text_size (length text)))) (replicate room 0)
