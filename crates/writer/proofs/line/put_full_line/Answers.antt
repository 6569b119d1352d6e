-- The values of the line, and then their characters. Assumes nothing.
use Rattle.std.proofs.Common.{arith}
use Rattle.base_64.specs.Alphabet.{Octet}
use Rattle.base_64.proofs.Lists.{at_all}
use Rattle.writer.proofs.Values.{line_encoded}
use Rattle.writer.proofs.line.put_full_line.Goals as goal

pub returns : goal.returns
returns c =
    let line = c.args.line.now in
    line_encoded line c.put_values.new.out c.make_chars.new.values c.requires.0
    (at_all Octet line 0 (λ i h. omega (arith, c.type_inv.line i))) c.put_values.ensures c.make_chars.ensures
