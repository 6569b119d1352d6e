-- Each turn has one line more; the line ends that are counted are no more than the text has bytes. Assumes nothing.
use Rattle.std.proofs.Common.{sym, arith}
use Rattle.runs.proofs.Runs.{line_end_width}
use Rattle.runs.proofs.Lined.{lines_inside}
use Rattle.decoder.proofs.Decoding.{any_line_more, lines_since, full_decoded}
use Rattle.decoder.proofs.put_lines.Goals as goal

pub loop-lines-init : goal.loop-lines-init
loop-lines-init c =
    let put = c.put_full_lines-lines.ensures in
    (lines_since (full_decoded put) _ (sym put.size), lines_inside c.requires put.lines)

pub overflow_add-crlf : goal.overflow_add-crlf
overflow_add-crlf c =
    let h = c.loop-lines.invariant.1 in
    let width = line_end_width c.in-Some.ensures in
    record { fits = omega (arith, h.few, h.inside, width) }

pub loop-lines-preserved : goal.loop-lines-preserved
loop-lines-preserved c =
    let blanks = c.blanks_end-blanks in
    let more = any_line_more c.requires c.loop-lines.invariant.0 c.put_run-more.ensures (omega arith) blanks.result _ blanks.ensures.0 blanks.ensures.1 blanks.ensures.2 c.in-Some.ensures in
    (more, lines_inside c.requires more.lines)
