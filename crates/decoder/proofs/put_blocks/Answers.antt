-- First the bytes outside the alphabet are passed, then the groups are written. Assumes nothing.
use Rattle.std.proofs.Common.{refl, arith}
use Rattle.decoder.proofs.Decoding.{further_start, further_skip, further_put}
use Rattle.decoder.proofs.put_blocks.Goals as goal

pub returns : goal.returns
returns c =
    let skipped = c.skip_outside-start.ensures in
    let there = further_skip (further_start c.requires.0 c.requires.1) skipped.0 skipped.1 skipped.2 in
    (refl, further_put there c.put_run-groups.ensures (omega arith) _ _ refl refl)
