-- So many groups were written, and i and at are behind them. Assumes nothing.
use Rattle.std.proofs.Common.{◌≡◌, ◌+◌, ◌-◌, ◌*◌, length}
use Rattle.decoder.specs.Decoding.{Put}
use Rattle.decoder.proofs.run_of.Given as goal

abbrev pub invariant-loop-i : goal.invariant-loop-i
invariant-loop-i g l = (l.i ≡ l.from + 4 * l.groups) × (l.at ≡ l.to + 3 * l.groups) × Put l.text l.fn.out l.out l.to l.from l.groups 0

abbrev pub decreases-loop-i : goal.decreases-loop-i
decreases-loop-i g l = length l.text - l.i
