-- At the end all data is written, and behind it the output is cleared. Assumes nothing.
use Rattle.std.proofs.Common.{◌∙◌}
use Rattle.decoder.proofs.Decoding.{decoding_end}
use Rattle.decoder.proofs.put_data.Goals as goal

pub returns : goal.returns
returns c =
    let inv = c.loop-done.invariant in
    let end = decoding_end inv.2 c.loop-done-test.false in
    let size = inv.1 ∙ c.put_blocks-done.ensures.1.size in
    c.clear_from.ensures ∙ rw (end.1, end.0, size)
