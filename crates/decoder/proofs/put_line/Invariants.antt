-- So many groups were written. Assumes nothing.
use Rattle.std.proofs.Common.{◌*◌, ◌≤◌}
use Rattle.decoder.specs.Decoding.{Put}
use Rattle.decoder.proofs.put_line.Given as goal

abbrev pub invariant-loop-k : goal.invariant-loop-k
invariant-loop-k l = (l.sum ≤ l.k * 4294967296) × Put l.text l.fn.out l.out l.at l.i (4 * l.k) l.sum
