-- The first bytes are put. Assumes nothing.
use Rattle.std.proofs.Common.{◌≡◌, take}
use Rattle.writer.specs.Steps.{Puts}
use Rattle.writer.proofs.text.TextWriter.put_bytes.Given as goal

abbrev pub invariant-loop-byte : goal.invariant-loop-byte
invariant-loop-byte l = Puts l.fn.self (take l.byte-index l.bytes) l.self × (l.self.room ≡ l.fn.self.room)
