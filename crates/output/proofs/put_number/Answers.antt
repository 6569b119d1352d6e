-- The part that the bytes are copied to, byte by byte. Assumes nothing.
use Rattle.std.proofs.Common.{◌≡◌, ◌∙◌, ◌/◌, ◌%◌, arith}
use Rattle.std.proofs.lemmas.Slice.{put_mid-paste}
use Rattle.output.proofs.Numbers.{four_sets}
use Rattle.output.proofs.put_number.Goals as goal

pub returns : goal.returns
returns c =
    let a = c.args in
    let last : a.number / 16777216 % 256 ≡ a.number / 16777216 = omega arith in
    put_mid-paste a.at _ a.out.now _ _ 4 (rw last at (c.copy_from_slice.ensures.after ∙ c.to_le_bytes.ensures)) (omega arith) (omega arith)
    ∙ four_sets a.out.now a.at _ _ _ _ c.requires
