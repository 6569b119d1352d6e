-- Assumes nothing.
use Rattle.std.proofs.Common.{sym}
use Rattle.std.proofs.lemmas.Result.{err_from_is_err_and}
use Rattle.reading.specs.Meaning as rows
use Rattle.reading.proofs.Meaning.{refuses_judge}
use Rattle.reader.proofs.judge.Goals as goal

pub returns-in_err-grammar : goal.returns-in_err-grammar
returns-in_err-grammar c =
    let p = err_from_is_err_and c.from_residual.result c.from_residual.ensures.1 in
    let f = c.in_err-grammar.ensures in
    rw (p.1, p.2) (sym (refuses_judge c.args.text.now c.args.grammar _ (rows.not_admitted f)))
