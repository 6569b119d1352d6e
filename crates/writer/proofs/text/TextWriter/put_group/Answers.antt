-- The line's end where it is full, and then the characters. Assumes nothing.
use Rattle.writer.proofs.Steps.{puts_then}
use Rattle.writer.proofs.text.TextWriter.put_group.Goals as goal

pub returns : goal.returns
returns c =
    let all = puts_then c.break_line.ensures.0 c.args.group c.requires.1 c.put_bytes.ensures.0 in
    (record { lent = all.lent; ending = all.ending; put = all.put }, rw (c.put_bytes.ensures.1, c.break_line.ensures.1))
