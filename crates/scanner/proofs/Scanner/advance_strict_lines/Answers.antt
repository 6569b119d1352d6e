-- `scanner::Scanner::advance_strict_lines` meets its contract. Assumes nothing.
use Rattle.leaps.specs.Phases.{OnCharacter}
use Rattle.leaps.proofs.Phases.{strict_line}
use Rattle.machine.specs.declared.Phase.TheVariants.{Strict}
use Rattle.machine.specs.declared.StrictPhase.TheVariants.{Line, Data}
use Rattle.runs.proofs.Lined.{lines_inside}
use Rattle.scanner.proofs.Advances.{advanced_then, strict_lines}
use Rattle.scanner.proofs.Walks.{full_line_from, lines_passed, lines_fit, behind_countable, behind_phase}
use Rattle.scanner.proofs.Scanner.advance_strict_lines.Goals as goal

pub behind_lines-requires : goal.behind_lines-requires
behind_lines-requires c = lines_fit c.args.self.now.text.now c.args.position c.full_lines-lines.result c.requires.0 (lines_inside c.requires.0.0 c.full_lines-lines.ensures)

pub advance_in_line-requires : goal.advance_in_line-requires
advance_in_line-requires c =
    let p = c.args.position in
    let lines = c.full_lines-lines in
    let g = c.args.self.now.grammar in
    rw c.behind_lines.ensures (
      behind_countable c.args.self.now.text.now p lines.result c.requires.0 (lines_inside c.requires.0.0 lines.ensures) (Strict Line),
      behind_phase (λ q. OnCharacter g q (Strict (Data 63))) p (Strict Line) lines.result c.requires.1 (strict_line g),
    )

pub returns : goal.returns
returns c =
    let lines = c.full_lines-lines in
    let all = strict_lines c.requires.1 in
    let passed = lines_passed c.args.position (full_line_from all.first) (full_line_from all.again) c.requires.0.0 lines.result lines.ensures in
    advanced_then (rw c.behind_lines.ensures passed) c.advance_in_line.ensures
