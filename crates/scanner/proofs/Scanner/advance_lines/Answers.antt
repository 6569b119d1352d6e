-- `scanner::Scanner::advance_lines` meets its contract. Assumes nothing.
use Rattle.std.proofs.Common.{◌<◌, arith}
use Rattle.std.proofs.lemmas.Bool.{not-false}
use Rattle.runs.proofs.Lined.{lines_inside}
use Rattle.scanner.proofs.Walks.{walk_lines, walk_open, walk_paused, walk_resumed, walk_ended, lines_fit}
use Rattle.scanner.proofs.Scanner.advance_lines.Goals as goal

pub behind_lines-position-requires : goal.behind_lines-position-requires
behind_lines-position-requires c = lines_fit c.args.self.now.text.now c.args.from c.full_lines-full.result c.requires.0 (lines_inside c.requires.0.0 c.full_lines-full.ensures)

pub loop-position-init : goal.loop-position-init
loop-position-init c = rw c.behind_lines-position.ensures (walk_lines c.args.from c.requires.0 c.requires.1 c.full_lines-full.result c.full_lines-full.ensures)

pub loop-position-preserved-in-Some : goal.loop-position-preserved-in-Some
loop-position-preserved-in-Some c =
    let line = c.line_at-line in
    let some : c.loop-position.position.at < line.result.characters = omega (arith, line.ensures.some) in
    rw (c.in_phase-position.ensures, c.tally_width.ensures, c.tally_others-others.ensures, c.tally_run-run.ensures)
    (walk_ended c.loop-position.invariant line.ensures some (rw c.in-Some.is at line.ensures.ended))

pub returns-then-line : goal.returns-then-line
returns-then-line c =
    let line = c.line_at-line in
    let some : c.loop-position.position.at < line.result.characters = omega (arith, line.ensures.some) in
    rw (c.in_phase.ensures, c.tally_run-run.ensures, c.if-line.true) (walk_open c.loop-position.invariant line.ensures some)

pub returns-then-not-phases : goal.returns-then-not-phases
returns-then-not-phases c =
    let line = c.line_at-line in
    let some : c.loop-position.position.at < line.result.characters = omega (arith, line.ensures.some) in
    rw (c.in_phase-position-else-line.ensures, c.tally_others-others-else-line.ensures, c.tally_run-run.ensures) (walk_paused c.loop-position.invariant line.ensures some (omega (arith, line.ensures.more)))

pub loop-position-preserved : goal.loop-position-preserved
loop-position-preserved c =
    let line = c.line_at-line in
    let some : c.loop-position.position.at < line.result.characters = omega (arith, line.ensures.some) in
    rw (c.in_phase-position-else-line.ensures, c.tally_others-others-else-line.ensures, c.tally_run-run.ensures)
    (walk_resumed c.loop-position.invariant line.ensures some (omega (arith, line.ensures.more)) (not-false _ c.if-not-phases.false))
