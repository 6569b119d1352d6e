-- `scanner::Scanner::advance_label` meets its contract. Assumes nothing.
use Rattle.std.proofs.Common.{refl, arith}
use Rattle.machine.proofs.Machine.{behind}
use Rattle.scanner.proofs.Advances.{advanced_then}
use Rattle.scanner.proofs.Boundaries.{label_characters, label_through, boundary_countable}
use Rattle.scanner.proofs.Scanner.advance_label.Goals as goal

pub behind_boundary-requires : goal.behind_boundary-requires
behind_boundary-requires c =
    let ran = c.label_run_end-label_end in
    let there = c.stands.ensures c.if-stands.true in
    let phase = behind c.args.self.now.grammar c.args.boundary in
    rw (c.in_phase.ensures, c.tally_boundary-tally.ensures, c.behind_boundary-behind.ensures)
    (boundary_countable c.args.self.now.text.now c.args.boundary _ c.args.position phase c.requires.0 (omega (arith, ran.ensures.0)) (omega (arith, there.room)), refl)

pub returns-then-stands : goal.returns-then-stands
returns-then-stands c =
    let ran = c.label_run_end-label_end in
    let there = c.stands.ensures c.if-stands.true in
    let through = label_through {g = c.args.self.now.grammar} c.args.position c.requires.1 ran.result ran.ensures.1 ran.ensures.2 ran.ensures.0 there in
    advanced_then (rw (c.in_phase.ensures, c.tally_boundary-tally.ensures, c.behind_boundary-behind.ensures) through) c.behind_boundary.ensures

pub returns : goal.returns
returns c =
    let ran = c.label_run_end-label_end in
    rw (c.in_phase-2.ensures, c.tally_boundary-tally-2.ensures) (label_characters c.args.position c.requires.1 ran.result ran.ensures.1 ran.ensures.2 (omega arith))
