-- The scan has advanced from where the loop began. Assumes nothing.
use Rattle.std.proofs.Common.{length, ◌-◌}
use Rattle.scanner.specs.Advances.{Advanced}
use Rattle.scanner.proofs.Scanner.scan_on.Given as goal

abbrev pub invariant-loop-position : goal.invariant-loop-position
invariant-loop-position l = Advanced l.self.grammar l.self.text.now l.initial.position l.position

abbrev pub decreases-loop-position : goal.decreases-loop-position
decreases-loop-position l = length l.self.text.now - l.position.at
