-- The constant is the table, which is computed here. Assumes nothing.
use Rattle.std.proofs.Common.{refl}
use Rattle.writer.specs.Spread.{entries_of}
use Rattle.writer.proofs.tables.ValuesTable.new.Goals as goal

pub invariant_of-result : goal.invariant_of-result
unfolding entries_of
invariant_of-result c = record { rule = refl }
