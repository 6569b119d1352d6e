-- All that was passed are full lines. Assumes nothing.
use Rattle.std.proofs.Common.{◌-◌, length}
use Rattle.runs.proofs.Lined.{FullTo}
use Rattle.runs.proofs.full_lines.Given as goal

abbrev pub invariant-loop-end : goal.invariant-loop-end
invariant-loop-end l = FullTo l.text l.from l.end l.groups l.last

abbrev pub decreases-loop-end : goal.decreases-loop-end
decreases-loop-end l = length l.text - l.end
