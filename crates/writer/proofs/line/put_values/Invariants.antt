-- The values of so many groups stand in their place. Assumes nothing.
use Rattle.std.proofs.Common.{◌≡◌, ◌*◌, length, take}
use Rattle.base_64.specs.Groups.{to_values}
use Rattle.writing.proofs.Placed.{placed}
use Rattle.writer.proofs.line.put_values.Given as goal

abbrev pub invariant-loop-q : goal.invariant-loop-q
invariant-loop-q l = (length l.out ≡ length l.fn.out) × (l.out ≡ placed l.fn.out 0 (to_values (take (3 * l.q) l.line)))
