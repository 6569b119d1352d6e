-- `scanner::Scanner::advance_byte` meets its contract. Assumes nothing.
use Rattle.std.proofs.Common.{sym, ◌∙◌, arith}
use Rattle.scanner.proofs.Advances.{advanced_byte}
use Rattle.scanner.proofs.Scanner.advance_byte.Goals as goal

pub returns : goal.returns
returns c =
    let p = c.args.position in (
      advanced_byte p.state p.tally p.at _ _ c.requires.0 (sym c.step-behind.ensures) (sym c.is_dead.ensures ∙ c.if-is_dead.false)
          (c.count_byte.ensures ∙ rw (c.byte_part-part.ensures, c.part_of.ensures, c.part_of-2.ensures)),
      omega arith,
    )
