-- Assumes nothing.
use Rattle.output.proofs.Zeros.{cleared_none, cleared_next, cleared_all}
use Rattle.output.proofs.clear_from.Goals as goal

pub loop-i-init : goal.loop-i-init
loop-i-init c = cleared_none _ _ c.requires

pub loop-i-preserved : goal.loop-i-preserved
loop-i-preserved c = cleared_next c.loop-i.invariant c.loop-i-test.true

pub returns : goal.returns
returns c = cleared_all c.loop-i.invariant c.loop-i-test.false
