-- One test over the values. Assumes nothing.
use Rattle.writer.proofs.Values.{sums}
use Rattle.writer.proofs.line.character.Goals as goal

pub returns : goal.returns
returns c =
    let sextet = c.get-value.ensures in
    rw (c.step_from-4.ensures, c.step_from-3.ensures, c.step_from-2.ensures, c.step_from.ensures, ← sextet.0) (sums c.get-value.result sextet.1)
