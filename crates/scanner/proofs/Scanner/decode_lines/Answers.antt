-- `scanner::Scanner::decode_lines` meets its contract. Assumes nothing.
use Rattle.std.proofs.Common.{◌≡◌, Bool, ℕ, List, ◌*◌, ◌<◌, ◌^◌, length, refl, arith}
use Rattle.runs.specs.Runs.{between}
use Rattle.runs.specs.declared.Lines.{Lines}
use Rattle.runs.proofs.Lined.{lines_inside}
use Rattle.decoder.specs.Decoding.{Decoded, DecodedLines}
use Rattle.decoder.proofs.Decoding.{decoded_none}
use Rattle.grammar.specs.declared.Grammar.{Grammar}
use Rattle.machine.specs.declared.Phase.{Phase}
use Rattle.scanner.specs.Advances.{Advanced, Countable, LinesFit, behind_lines}
use Rattle.scanner.specs.declared.Position.{Position}
use Rattle.scanner.proofs.Advances.{advanced_none, strict_lines}
use Rattle.scanner.proofs.Walks.{LineFrom, phases_behind, any_line_from, full_line_from, lines_passed, lines_fit, behind_at}
use Rattle.scanner.proofs.Scanner.decode_lines.Goals as goal

-- What decoded lines have room for, and what they are.
module _ {text old out : List ℕ} (p : Position) (l : Lines) {full : Bool} (put : DecodedLines text full old out p.at l.end l.groups l.last l.lf l.crlf) (h : Countable text p) where
  fit : length old < 2 ^ 64 → LinesFit p l × (3 * l.groups < 2 ^ 64)
  fit few = (lines_fit text p l h (lines_inside h.0 put.lines), omega (arith, put.room, put.size, few))

  passed : {g : Grammar} {q : Phase} → LineFrom g text full p.state.phase q → LineFrom g text full q q → (r : Position) (n : ℕ) → (r ≡ behind_lines p q l) × (n ≡ 3 * l.groups)
      → (length out ≡ length old) × Decoded (between text p.at r.at) out n × Advanced g text p r
  passed {q = q} first again r n e =
      let there = behind_at text p l h (lines_inside h.0 put.lines) q in
      (put.size, rw (e.0, there, e.1) put.written, rw e.0 (lines_passed p first again h.0 l put.lines))

pub behind_decoded-requires : goal.behind_decoded-requires
behind_decoded-requires c = fit c.args.position _ c.put_lines-lines.ensures c.requires (omega (arith, c.well_formed))

pub behind_decoded-requires-in-Some-Standard : goal.behind_decoded-requires-in-Some-Standard
behind_decoded-requires-in-Some-Standard c = fit c.args.position _ c.put_lines-lines-in-Some-Standard.ensures c.requires (omega (arith, c.well_formed))

pub behind_decoded-requires-in-Some-Strict : goal.behind_decoded-requires-in-Some-Strict
behind_decoded-requires-in-Some-Strict c = fit c.args.position _ c.put_full_lines-lines.ensures c.requires (omega (arith, c.well_formed))

pub returns-in-Some-Lax : goal.returns-in-Some-Lax
returns-in-Some-Lax c =
    let phases = (rw c.in-Some-Lax.field-0-is at c.in-Some-Lax.ensures) c.args.self.now.grammar in
    passed c.args.position _ c.put_lines-lines.ensures c.requires (any_line_from phases) (any_line_from (phases_behind phases)) _ _ c.behind_decoded.ensures

pub returns-in-Some-Standard : goal.returns-in-Some-Standard
returns-in-Some-Standard c =
    let phases = (rw c.in-Some-Standard.field-0-is at c.in-Some-Standard.ensures) c.args.self.now.grammar in
    passed c.args.position _ c.put_lines-lines-in-Some-Standard.ensures c.requires (any_line_from phases) (any_line_from (phases_behind phases)) _ _ c.behind_decoded-in-Some-Standard.ensures

pub returns-in-Some-Strict : goal.returns-in-Some-Strict
returns-in-Some-Strict c =
    let lines = strict_lines ((rw c.in-Some-Strict.field-0-is at c.in-Some-Strict.ensures) c.args.self.now.grammar) in
    passed c.args.position _ c.put_full_lines-lines.ensures c.requires (full_line_from lines.first) (full_line_from lines.again) _ _ c.behind_decoded-in-Some-Strict.ensures

pub returns-in-None : goal.returns-in-None
returns-in-None c = (refl, decoded_none c.args.self.now.text.now c.args.out.now c.args.position.at, advanced_none c.requires.0)
