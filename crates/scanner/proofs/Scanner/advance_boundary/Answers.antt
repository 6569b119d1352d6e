-- `scanner::Scanner::advance_boundary` meets its contract. Assumes nothing.
use Rattle.scanner.proofs.Advances.{advanced_then}
use Rattle.scanner.proofs.Scanner.advance_boundary.Goals as goal

pub returns-in-Some : goal.returns-in-Some
returns-in-Some c = advanced_then c.in-Some.ensures.0 c.advance_label.ensures
