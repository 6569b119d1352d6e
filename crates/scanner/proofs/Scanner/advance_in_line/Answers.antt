-- `scanner::Scanner::advance_in_line` meets its contract. Assumes nothing.
use Rattle.std.proofs.Common.{arith}
use Rattle.scanner.proofs.Advances.{strict_run}
use Rattle.scanner.proofs.Scanner.advance_in_line.Goals as goal

pub returns : goal.returns
returns c =
    let p = c.args.position in
    let end = c.short_run_end-end in
    rw (c.in_phase.ensures, c.tally_run.ensures) (strict_run p.state.cr p.tally p.at end.result (omega arith) (omega arith) end.ensures.2 c.requires.1 (omega arith))
