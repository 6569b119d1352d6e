-- `scanner::Scanner::advance_closing` meets its contract. Assumes nothing.
use Rattle.scanner.proofs.Advances.{advanced_then}
use Rattle.scanner.proofs.Boundaries.{closing_leap}
use Rattle.scanner.proofs.Scanner.advance_closing.Goals as goal

pub returns : goal.returns
returns c =
    let closing = closing_leap {g = c.args.self.now.grammar} c.args.position (c.closes.ensures c.if-not-closes.false) c.requires.1 c.requires.2 in
    advanced_then (rw (c.in_phase-closing.ensures, c.tally_boundary-tally.ensures) closing) c.advance_boundary.ensures
