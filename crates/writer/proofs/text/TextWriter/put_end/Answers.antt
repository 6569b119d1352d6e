-- One byte and another. Assumes nothing.
use Rattle.std.proofs.Common.{[], ◌∷◌, ap, sym}
use Rattle.grammar.specs.LineEnds.{line_end}
use Rattle.writer.proofs.Steps.{puts_same, puts_then}
use Rattle.writer.proofs.text.TextWriter.put_end.Goals as goal

pub returns-in-CrLf : goal.returns-in-CrLf
returns-in-CrLf c =
    puts_same (ap line_end (sym c.in-CrLf.is)) (puts_then c.put_byte-in-CrLf.ensures.0 (10 ∷ []) (rw c.in-CrLf.is at c.requires) c.put_byte-in-CrLf-2.ensures.0)
