-- From the offset that is reached on, the walk gives what it gives from the start, and the numbers of the messages so far are in
-- the table. Assumes nothing.
use Rattle.std.proofs.Common.{◌≡◌, ◌-◌, length}
use Rattle.indexing.proofs.Walks.{Reached}
use Rattle.index.proofs.walk.Given as goal

abbrev pub invariant-loop-at : goal.invariant-loop-at
invariant-loop-at l = (length l.table ≡ length l.fn.table) × Reached l.grammar l.text l.first l.at l.count l.table

abbrev pub decreases-loop-at : goal.decreases-loop-at
decreases-loop-at l = length l.text - l.at
