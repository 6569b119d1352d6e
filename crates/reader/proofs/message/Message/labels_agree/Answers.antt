-- Assumes nothing.
use Rattle.base_64.proofs.Lists.{same_slices}
use Rattle.reader.proofs.message.Message.labels_agree.Goals as goal

pub returns : goal.returns
returns c = rw (c.eq.ensures, same_slices c.part_at.result.now c.part_at-2.result.now, c.part_at.ensures.bytes, c.part_at-2.ensures.bytes)
