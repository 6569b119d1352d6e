-- Assumes nothing.
use Rattle.std.proofs.Common.{◌≡◌, sym, ◌∙◌, arith}
use Rattle.std.proofs.lemmas.Result.{err_from_is_err_and}
use Rattle.reading.specs.Meaning as rows
use Rattle.reading.specs.declared.Refusal.TheVariants.{UnknownGrammar}
use Rattle.reader.proofs.admit.Goals as goal

pub returns-in_err-known : goal.returns-in_err-known
returns-in_err-known c =
    let p = err_from_is_err_and c.from_residual.result c.from_residual.ensures.1 in
    let given = c.in_err-known.ensures in
    let none = sym c.from_number.ensures ∙ given.ok_part in
    let same : c.in_err-known.field-0.0 ≡ UnknownGrammar = grind arith in
    rw (p.1, p.2, same) (rows.unknown_grammar none)

pub returns-then-text-gt-TEXT_LIMIT : goal.returns-then-text-gt-TEXT_LIMIT
returns-then-text-gt-TEXT_LIMIT c = rows.text_too_long _ (sym c.from_number.ensures ∙ c.in_ok-known.ensures.ok_part) (omega arith)
