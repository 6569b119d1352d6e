-- The groups of a turn stand behind those before it; those that were written in vain leave them as they were. Assumes nothing.
use Rattle.std.proofs.Common.{refl, arith}
use Rattle.decoder.proofs.Decoding.{put_known, put_then, put_kept}
use Rattle.decoder.proofs.run_of.Goals as goal
use Rattle.decoder.proofs.run_of.Goals.{then-ends_run-via-then-ends_run as ended, then-ends_run-via-else-ends_run+then-put_groups-ge-MARK as in_vain}

pub loop-i-preserved : goal.loop-i-preserved
loop-i-preserved g c =
    let inv = c.loop-i.invariant in
    (omega (arith, inv.0), omega (arith, inv.1), put_then inv.2 _ _ inv.1 inv.0 (put_known c.put_groups.ensures.1 (omega arith)) _ 0 refl (omega arith))

pub returns-then-ends_run : goal.returns-then-ends_run
returns-then-ends_run g c =
    let inv = c.loop-i.invariant in
    elim c.then-ends_run.branch [
      | ended w ↦ rw w.out-is inv.2
      | in_vain w ↦ rw w.out-is (put_kept inv.2 w.put_groups.ensures.1 inv.1)
    ]
