-- Lines are counted by their length, whichever test ends the loop; a line written in vain leaves them as they were. Assumes nothing.
use Rattle.std.proofs.Common.{true, arith}
use Rattle.runs.proofs.Runs.{line_end_inside}
use Rattle.runs.proofs.Lined.{lines_inside}
use Rattle.decoder.proofs.Decoding.{FullDecoded, lines_none, lines_kept, full_line_more, decoded_lengths, decoded_told}
use Rattle.decoder.proofs.put_full_lines.Goals as goal
use Rattle.decoder.proofs.put_full_lines.Goals.{then-loop-end-test+else-out-written-gt-LINE_BYTES as no_room, else-loop-end-test as no_line, then-loop-end-test+then-out-written-gt-LINE_BYTES+in_default as no_line_end, then-loop-end-test+then-out-written-gt-LINE_BYTES+in-Some+then-put_line-ge-MARK as no_groups}

pub loop-end-init : goal.loop-end-init
loop-end-init c = (record { lf = 0; crlf = 0; lines = lines_none c.args.text.now true c.args.out.now c.args.from }, omega arith)

pub overflow_sub-text : goal.overflow_sub-text
overflow_sub-text c = (lines_inside c.requires c.loop-end.invariant.0.lines.lines).inside

pub overflow_add-end-in-loop-end : goal.overflow_add-end-in-loop-end
overflow_add-end-in-loop-end c =
    let end = line_end_inside c.in-Some.ensures in
    record { fits = omega (arith, end) }

pub loop-end-preserved : goal.loop-end-preserved
loop-end-preserved c =
    let inv = c.loop-end.invariant in
    let put = rw inv.1 at c.put_line.ensures in
    let more = full_line_more c.requires inv.0.lines put (omega arith) _ c.in-Some.ensures in
    (record { lf = _; crlf = _; lines = more }, omega (arith, inv.1))

pub counted_lines-requires : goal.counted_lines-requires
counted_lines-requires c = decoded_lengths c.loop-end.invariant.0

pub returns : goal.returns
returns c =
    let inv = c.loop-end.invariant in
    let kept : FullDecoded c.args.text.now c.args.out.now c.loop-end-test.out c.args.from c.loop-end.end c.loop-end.groups c.loop-end.last =
    elim c.loop-end-test.branch [
      | no_room w ↦ rw w.out-is inv.0
      | no_line w ↦ rw w.out-is inv.0
      | no_line_end w ↦ rw w.out-is inv.0
      | no_groups w ↦
          let put = rw inv.1 at w.put_line.ensures in
          rw w.out-is record { lf = inv.0.lf; crlf = inv.0.crlf; lines = lines_kept inv.0.lines put }
    ] in
    decoded_told kept _ c.counted_lines.ensures
