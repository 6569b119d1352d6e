-- So many groups were written. Assumes nothing.
use Rattle.std.proofs.Common.{◌*◌, ◌≤◌}
use Rattle.decoder.specs.Decoding.{Put}
use Rattle.decoder.proofs.put_groups.Given as goal

abbrev pub invariant-loop-k : goal.invariant-loop-k
invariant-loop-k g l = (l.sum ≤ l.k * 1073741824) × Put l.text l.fn.out l.out l.at l.i l.k l.sum
