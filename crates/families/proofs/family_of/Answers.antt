-- A row that tells the label tells its family, and another is passed over. Assumes nothing.
use Rattle.std.proofs.Common.{sym, ◌∙◌}
use Rattle.families.proofs.Table.{row_found, row_passed, none_left}
use Rattle.families.proofs.family_of.Goals as goal

pub returns-then-is_label : goal.returns-then-is_label
returns-then-is_label c =
    row_found c.loop-known.known-index c.loop-known-test.true _ c.args.label.now (sym c.if-is_label.ensures) ∙ c.loop-known.invariant

pub loop-known-preserved : goal.loop-known-preserved
loop-known-preserved c =
    row_passed c.loop-known.known-index c.loop-known-test.true _ c.args.label.now (sym c.if-is_label.ensures) ∙ c.loop-known.invariant

pub returns : goal.returns
returns c = sym (none_left c.loop-known.known-index c.loop-known-test.false c.args.label.now) ∙ c.loop-known.invariant
