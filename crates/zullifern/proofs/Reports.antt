-- The report of the label call means what it says, and no other does. Assumes nothing.
use mathlib.Core.Path.{◌≡◌, refl, sym, ap, ◌∙◌}
use mathlib.Core.List.{List}
use Prim.Native.Nat.{ℕ}
use Rattle.reading.specs.Meaning as rows
use Rattle.reading.specs.Meaning.{Refuses, HandsBack, HandsBackPlace}
use Rattle.std.specs.Prelude.{Ok, Err}
use Rattle.reading.specs.Read.{Judgement, judge_of, label_in}
use Rattle.reading.specs.Label.{label_span, label_span_of}
use Rattle.reading.specs.declared.Refusal.{Refusal}
use Rattle.reading.specs.declared.Span.{Span}
use Rattle.reading.proofs.Meaning.{label_means, label_lies, passed_span, refuses_span, zero_refused}
use Rattle.zullifern.specs.Reports.{report, judged_report, label_report, reported_part, ReportsLabel}

-- Offset and length stand in slots 3 and 4, and zeros in the others.
judged_slots : (j : Judgement) → judged_report j ≡ report 0 0 0 (label_span j).at.0 (label_span j).length 0 0
judged_slots (Ok sound) = refl
judged_slots (Err refusal) = refl

pub label_reported : (text : List ℕ) (number : ℕ) → ReportsLabel text number (label_report text number)
label_reported text number = record {
  offset = (label_span_of text number).at.0;
  length = (label_span_of text number).length;
  slots = judged_slots (judge_of text number);
  hands_back = label_lies text number;
  refused = λ refusal f. ap (λ (s : Span). s.at.0) (refuses_span text number refusal f);
  zero_refused = zero_refused text number _ _ (label_lies text number);
}

-- No other report means this.
pub reports_label : (text : List ℕ) (number : ℕ) (numbers : List ℕ) → ReportsLabel text number numbers → numbers ≡ label_report text number
reports_label text number numbers q = q.slots ∙ go q.offset q.length q.hands_back q.refused ∙ sym (judged_slots (judge_of text number))
  where
    go : (at n : ℕ) → HandsBackPlace text number at n → ((refusal : Refusal) → Refuses text number refusal → at ≡ 0) → report 0 0 0 at n 0 0 ≡ report 0 0 0 (label_span_of text number).at.0 (label_span_of text number).length 0 0
    go at n (rows.stands g r p h) z = sym (ap (λ (s : Span). report 0 0 0 s.at.0 s.length 0 0) (passed_span text number g r p))
    go at n (rows.empty {refusal} f _) z = rw (z refusal f) (sym (ap (λ (s : Span). report 0 0 0 s.at.0 s.length 0 0) (refuses_span text number refusal f)))

-- The report of a label's part names the bytes that are handed back.
judged_part : (text : List ℕ) (j : Judgement) → label_in j text ≡ reported_part text (judged_report j)
judged_part text (Ok sound) = refl
judged_part text (Err refusal) = refl

pub report_hands_back : (text : List ℕ) (number : ℕ) → HandsBack text number (reported_part text (label_report text number))
report_hands_back text number = rw (← judged_part text (judge_of text number)) (label_means text number)
