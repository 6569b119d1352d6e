-- The bytes from the place on and before i are zero, and the others are as they were. Assumes nothing.
use Rattle.std.proofs.Common.{length, ◌-◌}
use Rattle.output.proofs.Zeros.{Cleared}
use Rattle.output.proofs.clear_from.Given as goal

abbrev pub invariant-loop-i : goal.invariant-loop-i
invariant-loop-i l = Cleared l.fn.out l.from l.i l.out

abbrev pub decreases-loop-i : goal.decreases-loop-i
decreases-loop-i l = length l.out - l.i
