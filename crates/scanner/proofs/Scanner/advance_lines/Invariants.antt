-- The lines up to the position were passed; and the next one may begin there. Assumes nothing.
use Rattle.std.proofs.Common.{length, ◌-◌}
use Rattle.scanner.proofs.Walks.{Walk}
use Rattle.scanner.proofs.Scanner.advance_lines.Given as goal

abbrev pub invariant-loop-position : goal.invariant-loop-position
invariant-loop-position l = Walk l.self.grammar l.self.text.now l.phases l.fn.from l.position

abbrev pub decreases-loop-position : goal.decreases-loop-position
decreases-loop-position l = length l.self.text.now - l.position.at
