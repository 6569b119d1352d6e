-- A value more. Assumes nothing.
use Rattle.std.proofs.Common.{length-set}
use Rattle.writer.proofs.Values.{chars_more}
use Rattle.writer.proofs.line.make_chars.Goals as goal

pub loop-c-preserved : goal.loop-c-preserved
loop-c-preserved c = (
  simp length-set c.loop-c.auto.values,
  chars_more c.args.values.now c.loop-c.values c.loop-c.c-index c.character.result c.low.result c.loop-c-test.true c.loop-c.invariant.1 c.low.ensures c.character.ensures,
)
