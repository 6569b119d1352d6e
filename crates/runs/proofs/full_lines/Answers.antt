-- Lines are counted by their length, whichever of the tests ends the loop. Assumes nothing.
use Rattle.std.proofs.Common.{rules, arith}
use Rattle.runs.specs.Runs.{no_lines}
use Rattle.runs.proofs.Lined.{lines_inside, full_more, full_lengths, full_told}
use Rattle.runs.proofs.full_lines.Goals as goal

pub loop-end-init : goal.loop-end-init
loop-end-init c = record { lf = 0; crlf = 0; lines = no_lines }

pub overflow_sub-text : goal.overflow_sub-text
overflow_sub-text c = (lines_inside c.requires c.loop-end.invariant.lines).inside

pub overflow_add-groups : goal.overflow_add-groups
overflow_add-groups c =
    let h = lines_inside c.requires c.loop-end.invariant.lines in
    record { fits = omega (arith, h.few, h.inside) }

pub loop-end-preserved : goal.loop-end-preserved
loop-end-preserved c =
    let more = full_more c.loop-end.invariant.lines _ (search rules) (omega arith) c.in-Some.ensures in
    record { lf = _; crlf = _; lines = more }

pub counted_lines-requires : goal.counted_lines-requires
counted_lines-requires c = full_lengths c.loop-end.invariant

pub returns : goal.returns
returns c = full_told c.loop-end.invariant _ c.counted_lines.ensures
