-- Where the part of the text stands that `label` hands back, as a function of the text and the grammar's number alone. Assumes
-- nothing. None of this has to be believed: see `Meaning`.
use Rattle.std.specs.Prelude.{List, ℕ, Ok, Err}
use Rattle.reading.specs.Answers.{span}
use Rattle.reading.specs.Read.{Judgement, judge_of}
use Rattle.reading.specs.declared.Span.{Span}

-- Where the opening label is; an empty part at the start of the text where checks 1 to 9 refuse.
abbrev pub label_span : Judgement → Span
label_span (Err refusal) = span 0 0
label_span (Ok sound) = sound.layout.opened

abbrev pub label_span_of : List ℕ → ℕ → Span
label_span_of text number = label_span (judge_of text number)
