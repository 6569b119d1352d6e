-- `scanner::Scanner::behind_boundary` meets its contract. Assumes nothing.
use Rattle.std.proofs.Common.{arith}
use Rattle.scanner.proofs.Boundaries.{ended_leap}
use Rattle.scanner.proofs.Scanner.behind_boundary.Goals as goal

pub returns-then-self-at-eq-LF : goal.returns-then-self-at-eq-LF
returns-then-self-at-eq-LF c =
    rw (c.in_phase.ensures, c.tally_ended-tally.ensures, c.ended_boundary-phase.ensures)
    (ended_leap c.args.self.now.grammar c.args.boundary c.args.position c.requires.1 (omega arith) c.if-self-at-eq-LF.true)
