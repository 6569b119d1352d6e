-- `leaps::body_line` meets its contract. Assumes nothing.
use Rattle.std.proofs.Common.{◌≡◌, Some, rules}
use Rattle.grammar.specs.declared.Grammar.TheVariants as grammar
use Rattle.leaps.proofs.Phases.{line_grammar, lines_from}
use Rattle.leaps.proofs.body_line.Goals as goal

pub returns-in-Lax-Data : goal.returns-in-Lax-Data
returns-in-Lax-Data c = let e : line_grammar c.args.phase ≡ Some grammar.Lax = search rules in rw e at (lines_from c.args.phase)

pub returns-in-Standard-Leading : goal.returns-in-Standard-Leading
returns-in-Standard-Leading c = let e : line_grammar c.args.phase ≡ Some grammar.Standard = search rules in rw e at (lines_from c.args.phase)

pub returns-in-Strict-First : goal.returns-in-Strict-First
returns-in-Strict-First c = let e : line_grammar c.args.phase ≡ Some grammar.Strict = search rules in rw e at (lines_from c.args.phase)

pub returns-in-Strict-Line : goal.returns-in-Strict-Line
returns-in-Strict-Line c = let e : line_grammar c.args.phase ≡ Some grammar.Strict = search rules in rw e at (lines_from c.args.phase)
