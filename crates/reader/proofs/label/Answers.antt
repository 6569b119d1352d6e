-- The part is that of a sound judgement, or empty, and it is the text's own. Assumes nothing.
use Rattle.std.proofs.Common.{◌≡◌, ℕ, List, refl, sym, ap, subst, arith, ◌∙◌}
use denote.Ref.{Bor}
use Rattle.reading.specs.Parts.{OwnPart}
use Rattle.reading.specs.Meaning.{HandsBack, HandsBackPart}
use Rattle.reading.specs.Read.{Judgement, judge_of, label_in, label_of}
use Rattle.reading.specs.Label.{label_span}
use Rattle.reading.proofs.Meaning.{sound_fits, label_means, hands_back_part}
use Rattle.reader.proofs.label.Goals as goal

-- The label of a judgement is what is handed back.
label-judged : (text part : Bor (List ℕ)) (number : ℕ) (j : Judgement) → judge_of text.now number ≡ j → part.now ≡ label_in j text.now
    → OwnPart text (label_span j).at.0 (label_span j).length part
    → (part.now ≡ label_of text.now number) × HandsBack text.now number part.now × HandsBackPart text number part
label-judged text part number j judged e own =
    let same : part.now ≡ label_of text.now number = e ∙ sym (ap (λ (k : Judgement). label_in k text.now) judged) in (
      same,
      subst (HandsBack text.now number) (sym same) (label_means text.now number),
      hands_back_part text part number (label_span j) (sym (ap label_span judged)) own,
    )

pub part_at-requires : goal.part_at-requires
part_at-requires c =
    let lies = sound_fits _ c.args.grammar _ (sym c.in-Ok.ensures) in
    omega (arith, lies.0)

pub returns-in-Ok : goal.returns-in-Ok
returns-in-Ok c = label-judged c.args.text _ c.args.grammar _ (sym c.in-Ok.ensures) c.part_at.ensures.bytes c.part_at.ensures.place

pub returns-in-Err : goal.returns-in-Err
returns-in-Err c =
    label-judged c.args.text _ c.args.grammar _ (sym c.in-Err.ensures) refl
    record { within = omega arith; block = refl; address = omega arith; bytes = refl }
