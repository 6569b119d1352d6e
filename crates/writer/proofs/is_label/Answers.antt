-- A byte of the label at a time. Assumes nothing.
use Rattle.std.proofs.Common.{◌≡◌, ◌≢◌, ℕ, ◌+◌, ◌≤◌, ◌<◌, List, [], false, length, drop, get_or, refl, sym, ◌∙◌, arith, add-one, drop-cons}
use lib.ListN.{drop_of_length-le}
use Rattle.machine.proofs.Machine.{label_step, label_ends, label_onward, label_from}
use Rattle.machine.specs.declared.LabelPhase.{LabelPhase}
use Rattle.machine.specs.declared.LabelTarget.{LabelTarget}
use Rattle.machine.specs.declared.LabelTarget.TheVariants.{To, Whole, Refused}
use Rattle.writer.proofs.is_label.Goals as goal

-- A byte of a label, and those behind it.
label_next : (p : LabelPhase) (l : List ℕ) (i : ℕ) (t : LabelTarget) → i < length l → label_step p (get_or l i 0) ≡ t
    → label_from p (drop i l) ≡ label_onward t (λ m. label_from m (drop (i + 1) l))
unfolding label_from
label_next p l i t h e = rw (add-one, drop-cons l i 0, e)

label_end : (p : LabelPhase) → label_from p [] ≡ label_ends p
unfolding label_from
label_end p = refl

-- No way on.
label_stop : (p : LabelPhase) (l : List ℕ) (i : ℕ) (t : LabelTarget) → i < length l → label_step p (get_or l i 0) ≡ t → ((n : LabelPhase) → t ≢ To n)
    → label_from p (drop i l) ≡ false
label_stop p l i (To n) h e none = absurd (none n refl)
label_stop p l i Whole h e none = label_next p l i Whole h e
label_stop p l i Refused h e none = label_next p l i Refused h e

pub returns-in_default : goal.returns-in_default
returns-in_default c =
    sym (c.loop-b.invariant ∙ label_stop c.loop-b.phase c.args.label.now c.loop-b.b-index _ c.loop-b-test.true (sym c.label_step.ensures) c.in_default.not-To)

pub loop-b-preserved : goal.loop-b-preserved
loop-b-preserved c =
    c.loop-b.invariant ∙ label_next c.loop-b.phase c.args.label.now c.loop-b.b-index (To c.in-To.next) c.loop-b-test.true (sym c.in-To.ensures)

pub returns : goal.returns
returns c =
    let label = c.args.label.now in
    let past : length label ≤ c.loop-b.b-index = omega arith in
    c.label_ends.ensures ∙ sym (c.loop-b.invariant ∙ rw (drop_of_length-le label past) (label_end c.loop-b.phase))
