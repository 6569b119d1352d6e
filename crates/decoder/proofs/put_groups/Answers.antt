-- A group more, behind the others. Assumes nothing.
use Rattle.std.proofs.Common.{refl, arith}
use Rattle.decoder.proofs.Decoding.{put_then}
use Rattle.decoder.proofs.put_groups.Goals as goal

pub loop-k-preserved : goal.loop-k-preserved
loop-k-preserved g c = (omega arith, put_then c.loop-k.invariant.1 _ _ refl refl c.put_group-sum.ensures.1 _ _ refl refl)
