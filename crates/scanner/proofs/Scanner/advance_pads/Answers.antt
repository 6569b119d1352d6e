-- `scanner::Scanner::advance_pads` meets its contract. Assumes nothing.
use Rattle.scanner.proofs.Advances.{pads_line_end}
use Rattle.scanner.proofs.Scanner.advance_pads.Goals as goal

pub returns : goal.returns
returns c =
    let p = c.args.position in
    let pads = c.pads_at-pads.ensures in
    rw (c.in_phase.ensures, c.tally_width.ensures, c.tally_others-line.ensures, c.tally_pads.ensures)
    (pads_line_end (c.in-Some.ensures c.args.self.now.grammar) p.state.cr p.tally p.at _ pads.1 pads.2 (rw c.in-Some-line_end_at.is at c.line_end_at.ensures))
