-- The answer is that of the call, and the output what it wrote, or zeros. Assumes nothing.
use Rattle.std.proofs.Common.{◌≡◌, ℕ, false, List, Ok, Err, is_err, IfOk, length, replicate, sym, ap, ◌∙◌, arith}
use mathlib.Core.Bool.{false≢true}
use Rattle.base_64.specs.Lists.{All}
use Rattle.base_64.specs.Alphabet.{Octet}
use Rattle.base_64.proofs.Lists.{at_all}
use Rattle.writing.specs.Answers.{WriteAnswer}
use Rattle.writing.specs.Meaning.{Writes}
use Rattle.writing.specs.Write.{write_of, write_output}
use Rattle.writing.proofs.Meaning.{write_means, err_zeros}
use Rattle.writer.proofs.write.Goals as goal

answer_means : (label content : List ℕ) (number room : ℕ) (r : WriteAnswer) (out : List ℕ) → All Octet content → r ≡ write_of label content number room
    → out ≡ write_output label content number room
    → (r ≡ write_of label content number room) × (out ≡ write_output label content number room) × Writes label content number room r out
answer_means label content number room r out octets e f = (e, f, rw (e, f) (write_means label content number room octets))

ok_holds : (r : WriteAnswer) (P : Type 0) → is_err r ≡ false → IfOk r (λ _. P) → P
ok_holds (Ok x) P e h = h
ok_holds (Err x) P e h = absurd (false≢true (sym e))

pub returns-then-is_err : goal.returns-then-is_err
returns-then-is_err c =
    let args = c.args in
    let octets = at_all Octet args.content.now 0 (λ i h. omega (arith, c.type_inv.content i)) in
    let call = c.try_write-answer.ensures in
    let same : length c.try_write-answer.new.out ≡ length args.out.now = omega arith in
    let err = ap is_err (sym call.answer) ∙ sym c.is_err.ensures.value ∙ c.if-is_err.true in
    answer_means _ _ _ _ _ _ octets call.answer
    (c.clear.ensures ∙ ap (λ (n : ℕ). replicate n 0) same ∙ sym (err_zeros args.label.now args.content.now args.style (length args.out.now) err))

pub returns-else-is_err : goal.returns-else-is_err
returns-else-is_err c =
    let args = c.args in
    let octets = at_all Octet args.content.now 0 (λ i h. omega (arith, c.type_inv.content i)) in
    let call = c.try_write-answer.ensures in
    answer_means _ _ _ _ _ _ octets call.answer (ok_holds c.try_write-answer.result _ (sym c.is_err.ensures.value ∙ c.if-is_err.false) call.output)
