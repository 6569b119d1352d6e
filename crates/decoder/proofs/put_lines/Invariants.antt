-- What was passed are lines, and their data stands in the output. Assumes nothing.
use Rattle.std.proofs.Common.{false, ◌-◌, length}
use Rattle.runs.proofs.Lined.{LinesInside}
use Rattle.decoder.specs.Decoding.{DecodedLines}
use Rattle.decoder.proofs.put_lines.Given as goal

abbrev pub invariant-loop-lines : goal.invariant-loop-lines
invariant-loop-lines l =
    DecodedLines l.text false l.initial.out l.out l.from l.lines.end l.lines.groups l.lines.last l.lines.lf l.lines.crlf
    × LinesInside l.text l.from l.lines.end l.lines.groups l.lines.last l.lines.lf l.lines.crlf

abbrev pub decreases-loop-lines : goal.decreases-loop-lines
decreases-loop-lines l = length l.text - l.lines.end
