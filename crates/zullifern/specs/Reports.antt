-- The reports of the exported calls: number, place, size, label offset, label length, family (K6), style of the line ends (K7) and zero.
-- Assumes nothing.
use Rattle.std.specs.Prelude.{◌≡◌, List, [], ◌∷◌, ℕ, get_or, take, drop, Ok, Err}
use Rattle.grammar.specs.Families.{family_told}
use Rattle.output.specs.declared.CallError.TheVariants.{Refused}
use Rattle.reading.specs.Answers.{ReadAnswer, number_of, place_of, size_of, label_offset_of, label_length_of, label_family_of, line_style_of}
use Rattle.reading.specs.Meaning.{Refuses, HandsBackPlace}
use Rattle.reading.specs.Read.{Judgement, judge_of}
use Rattle.reading.specs.declared.Found.{Found}
use Rattle.reading.specs.declared.Refusal.{Refusal}
use Rattle.indexing.specs.Answers as indexed
use Rattle.indexing.specs.Answers.{IndexAnswer}
use Rattle.writing.specs.Answers as wrote
use Rattle.writing.specs.Answers.{WriteAnswer}

abbrev pub report : (number place size at length family style : ℕ) → List ℕ
report number place size at length family style = number ∷ place ∷ size ∷ at ∷ length ∷ family ∷ style ∷ 0 ∷ []

-- The numbers of an answer of the read call.
abbrev pub read_report : ReadAnswer → List ℕ
read_report a = report (number_of a) (place_of a) (size_of a) (label_offset_of a) (label_length_of a) (label_family_of a) (line_style_of a)

abbrev pub refusal_report : Refusal → List ℕ
refusal_report r = read_report (Err (Refused r))

abbrev pub found_report : ℕ → Found → ℕ → List ℕ
found_report number found style = report number 0 found.size.0 found.label.at.0 found.label.length (family_told found.family) style

-- The part that the label call hands back, in slots 3 and 4; the others are zero.
abbrev pub judged_report : Judgement → List ℕ
judged_report (Ok sound) = report 0 0 0 sound.layout.opened.at.0 sound.layout.opened.length 0 0
judged_report (Err refusal) = report 0 0 0 0 0 0 0

abbrev pub label_report : List ℕ → ℕ → List ℕ
label_report text number = judged_report (judge_of text number)

-- What these eight numbers mean: the offset and the length of the part that the label call hands back. The offset is zero exactly
-- where checks 1 to 9 refuse, so that it tells an empty label, which starts behind its `-----BEGIN `, from a refusal.
pub record ReportsLabel (text : List ℕ) (number : ℕ) (numbers : List ℕ) : Type 0 where
  pub offset : ℕ
  pub length : ℕ
  pub slots : numbers ≡ report 0 0 0 offset length 0 0
  pub hands_back : HandsBackPlace text number offset length
  pub refused : (refusal : Refusal) → Refuses text number refusal → offset ≡ 0
  pub zero_refused : offset ≡ 0 → (refusal : Refusal) × Refuses text number refusal

-- The numbers of an answer of the index call: it has no label, no family and no style.
abbrev pub index_report : IndexAnswer → List ℕ
index_report a = report (indexed.number_of a) (indexed.place_of a) (indexed.size_of a) 0 0 0 0

-- The numbers of an answer of the write call: nor has this.
abbrev pub write_report : WriteAnswer → List ℕ
write_report a = report (wrote.number_of a) (wrote.place_of a) (wrote.size_of a) 0 0 0 0

abbrev pub size_report : ℕ → ℕ → List ℕ
size_report number size = report number 0 size 0 0 0 0

-- The part of a text that slots 3 and 4 name.
abbrev pub reported_part : List ℕ → List ℕ → List ℕ
reported_part text slots = take (get_or slots 4 0) (drop (get_or slots 3 0) text)
