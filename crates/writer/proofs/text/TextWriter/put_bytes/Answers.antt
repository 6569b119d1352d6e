-- A byte behind those before it, and all of them in the end. Assumes nothing.
use Rattle.std.proofs.Common.{refl, arith, ◌∙◌, take_all}
use Rattle.writer.proofs.Steps.{puts_none, puts_same, byte_room, byte_puts}
use Rattle.writer.proofs.text.TextWriter.put_bytes.Goals as goal

pub loop-byte-init : goal.loop-byte-init
loop-byte-init c = (puts_none c.args.self.now, refl)

pub put_byte-requires : goal.put_byte-requires
put_byte-requires c = byte_room c.args.bytes.now c.loop-byte.byte-index c.loop-byte.invariant.0 c.requires c.loop-byte-test.true

pub loop-byte-preserved : goal.loop-byte-preserved
loop-byte-preserved c =
    (byte_puts c.args.bytes.now c.loop-byte.byte-index c.loop-byte.invariant.0 c.requires c.loop-byte-test.true c.put_byte.ensures.0, c.put_byte.ensures.1 ∙ c.loop-byte.invariant.1)

pub returns : goal.returns
returns c = (puts_same (take_all c.loop-byte.byte-index c.args.bytes.now (omega arith)) c.loop-byte.invariant.0, c.loop-byte.invariant.1)
