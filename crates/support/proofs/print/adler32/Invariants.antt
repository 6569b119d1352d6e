-- Both sums stay below the prime. Assumes nothing.
use Rattle.std.proofs.Common.{◌<◌}
use Rattle.support.proofs.print.adler32.Given as goal

abbrev pub invariant-loop-byte : goal.invariant-loop-byte
invariant-loop-byte l = (l.a < 65521) × (l.b < 65521)
