-- `scanner::Scanner::advance_word` meets its contract. Assumes nothing.
use Rattle.std.proofs.Common.{refl}
use Rattle.machine.specs.declared.LabelPhase.TheVariants.{Start}
use Rattle.machine.specs.declared.Phase.TheVariants.{Label}
use Rattle.scanner.proofs.Boundaries.{continues, word_leap, boundary_countable}
use Rattle.scanner.proofs.Scanner.advance_word.Goals as goal

pub returns : goal.returns
returns c =
    let p = c.args.position in
    let there = rw (c.word-word.ensures, c.from-read.ensures) at (c.stands.ensures c.if-not-stands.false) in
    let some = rw (c.word-word.ensures, c.from-read.ensures) at c.if-word-read.false in
    rw (c.in_phase.ensures, c.tally_boundary-tally.ensures, c.word-word.ensures, c.from-read.ensures) (
      word_leap c.args.boundary c.args.read p c.requires.1 some there,
      boundary_countable c.args.self.now.text.now c.args.boundary _ p (Label c.args.boundary Start) c.requires.0 refl there.room,
      continues c.args.boundary Start refl,
    )
