-- The rule of the decode table at this byte. Assumes nothing.
use Rattle.std.proofs.Common.{arith}
use Rattle.base_64.proofs.Values.{decode_value}
use Rattle.base_64.proofs.tables.DecodeTable.entry_of.Goals as goal

pub returns : goal.returns
returns c = decode_value c.args.self.now.rule c.args.c (omega (arith, c.ranges.c))
