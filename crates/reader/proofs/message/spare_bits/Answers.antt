-- Assumes nothing.
use Rattle.std.proofs.Common.{sym}
use Rattle.base_64.proofs.Alphabet.{answer_none}
use Rattle.reading.proofs.Data.{spare_outside}
use Rattle.reader.proofs.message.spare_bits.Goals as goal

pub returns-in_default : goal.returns-in_default
returns-in_default c = rw (answer_none c.args.last (sym c.in_default.ensures)) (sym (spare_outside c.args.count))
