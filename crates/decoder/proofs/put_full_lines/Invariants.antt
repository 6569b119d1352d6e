-- What was passed are full lines, and their data stands in the output. Assumes nothing.
use Rattle.std.proofs.Common.{◌≡◌, ◌-◌, ◌*◌, length}
use Rattle.decoder.proofs.Decoding.{FullDecoded}
use Rattle.decoder.proofs.put_full_lines.Given as goal

abbrev pub invariant-loop-end : goal.invariant-loop-end
invariant-loop-end l = FullDecoded l.text l.fn.out l.out l.from l.end l.groups l.last × (l.written ≡ 3 * l.groups)

abbrev pub decreases-loop-end : goal.decreases-loop-end
decreases-loop-end l = length l.text - l.end
