-- Four groups more, behind the others. Assumes nothing.
use Rattle.std.proofs.Common.{refl, arith}
use Rattle.decoder.proofs.Decoding.{put_then}
use Rattle.decoder.proofs.put_line.Goals as goal

pub loop-k-preserved : goal.loop-k-preserved
loop-k-preserved c = (omega arith, put_then c.loop-k.invariant.1 _ _ (omega arith) (omega arith) c.put_groups-sum.ensures.1 _ _ (omega arith) refl)
