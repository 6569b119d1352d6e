-- `scanner::Scanner::scan_on` meets its contract. Assumes nothing.
use Rattle.scanner.proofs.Advances.{advanced_then}
use Rattle.scanner.proofs.Scanner.scan_on.Goals as goal

pub loop-position-preserved : goal.loop-position-preserved
loop-position-preserved c = advanced_then c.loop-position.invariant c.in-Some.ensures.0
