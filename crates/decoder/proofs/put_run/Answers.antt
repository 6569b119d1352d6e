-- The single groups stand behind the fours. Assumes nothing.
use Rattle.std.proofs.Common.{refl, arith}
use Rattle.decoder.proofs.Decoding.{put_then}
use Rattle.decoder.proofs.put_run.Goals as goal

pub returns : goal.returns
returns c = put_then c.run_of-fours.ensures _ _ refl refl c.run_of-ones.ensures _ 0 (omega arith) (omega arith)
