-- Where the call fails, its output is to be zeros. Assumes nothing.
use Rattle.std.proofs.Common.{◌≡◌, ℕ, ◌-◌, Bool, true, false, cond, List, ◌++◌, length, replicate, refl, sym, ap, ◌∙◌}
use Rattle.std.specs.Prelude.{Ok, Err}
use Rattle.std.specs.Result.{is_err}
use mathlib.Core.Bool.{true≢false}
use lib.Dec.{ltb}
use Rattle.base_64.specs.Groups.{decode}
use Rattle.grammar.specs.Message.{characters}
use Rattle.output.specs.declared.CallError.TheVariants.{TooSmall}
use Rattle.output.proofs.Calls.{ok_holds}
use Rattle.reading.specs.Answers.{ReadAnswer}
use Rattle.reading.specs.Meaning.{Reads}
use Rattle.reading.specs.Layouts.{spanned}
use Rattle.reading.specs.Read.{Judgement, judge_of, answered, read_of, written, output_of}
use Rattle.reading.specs.declared.Accepted.{Accepted}
use Rattle.reading.proofs.Meaning.{read_means}
use Rattle.reader.proofs.read.Goals as goal

failed-zeros : (text : List ℕ) (room : ℕ) (j : Judgement) → is_err (answered j room) ≡ true → written j text room ≡ replicate room 0
failed-zeros text room (Err refusal) e = refl
failed-zeros text room (Ok m) e = go (ltb room m.found.size.0) e
  where
    go : (small : Bool) → is_err {T = Accepted} (cond {A = ReadAnswer} small (Err (TooSmall m.found)) (Ok record { found = m.found; style = m.style })) ≡ true
        → cond small (replicate room 0) (decode (characters (spanned text m.layout.body)) ++ replicate (room - m.found.size.0) 0) ≡ replicate room 0
    go true e = refl
    go false e = absurd (true≢false (sym e))

reads-same : (text : List ℕ) (number room : ℕ) (a : ReadAnswer) (out : List ℕ) → a ≡ read_of text number room → out ≡ output_of text number room
    → (a ≡ read_of text number room) × (out ≡ output_of text number room) × Reads text number room a out
reads-same text number room a out e f = (e, f, rw (e, f) (read_means text number room))

pub returns-then-is_err : goal.returns-then-is_err
returns-then-is_err c =
    let answer = c.try_read-answer.ensures.answer in
    let failed = sym (ap is_err answer) ∙ sym c.if-is_err.ensures.value in
    let zeros = failed-zeros c.args.text.now (length c.args.out.now) (judge_of c.args.text.now c.args.grammar) failed in
    reads-same _ _ _ _ _ answer (c.clear.ensures ∙ rw c.try_read-answer.auto.out (sym zeros))

pub returns-else-is_err : goal.returns-else-is_err
returns-else-is_err c =
    reads-same _ _ _ _ _ c.try_read-answer.ensures.answer (ok_holds c.try_read-answer.result _ (sym c.if-is_err.ensures.value) c.try_read-answer.ensures.data)
