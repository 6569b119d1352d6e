-- Assumes nothing.
use Rattle.std.proofs.Common.{◌≡◌, ℕ, List, length, refl, sym, ap, ◌∙◌, arith}
use Rattle.std.proofs.lemmas.Result.{err_from_is_err_and}
use borrow.Author.Tests.{lt-ltb, le-ltb}
use Rattle.grammar.specs.declared.Grammar.{Grammar}
use Rattle.machine.proofs.Machine.{start}
use Rattle.reading.specs.Meaning as rows
use Rattle.reading.specs.Meaning.{Admitted}
use Rattle.reading.specs.Answers.{ReadAnswer}
use Rattle.reading.specs.Scan.{no_tally, scan_of}
use Rattle.reading.specs.Read.{Judgement, judged_scan, judge_of, answered, read_of, written, output_of}
use Rattle.reading.specs.declared.Scan.{Scan}
use Rattle.reading.proofs.Meaning.{refuses_judge, admitted_judge, sound_fits}
use Rattle.reader.proofs.try_read.Goals as goal

-- The judgement of a scan is that of the text.
judged : (text : List ℕ) (number : ℕ) (g : Grammar) (s : Scan) (j : Judgement) → Admitted text number g → s ≡ scan_of g (start g) 0 no_tally text
    → j ≡ judged_scan g text s → judge_of text number ≡ j
judged text number g s j a scanned same = admitted_judge text number g a ∙ sym (same ∙ ap (judged_scan g text) scanned)

-- The answer to a judgement is what the call gives.
answer-judged : (text : List ℕ) (number room : ℕ) (j : Judgement) (a : ReadAnswer) → judge_of text number ≡ j → a ≡ answered j room → a ≡ read_of text number room
answer-judged text number room j a e f = f ∙ sym (ap (λ (k : Judgement). answered k room) e)

-- And so is the output.
output-judged : (text : List ℕ) (number room : ℕ) (j : Judgement) (out : List ℕ) → judge_of text number ≡ j → out ≡ written j text room → out ≡ output_of text number room
output-judged text number room j out e f = f ∙ sym (ap (λ (k : Judgement). written k text room) e)

pub returns-in_err-grammar-clause-answer : goal.returns-in_err-grammar-clause-answer
returns-in_err-grammar-clause-answer c =
    let p = err_from_is_err_and c.from_residual.result c.from_residual.ensures.1 in
    let refused = refuses_judge c.args.text.now c.args.grammar _ (rows.not_admitted c.in_err-grammar.ensures) in
    rw (p.1, p.2) (answer-judged c.args.text.now c.args.grammar (length c.args.out.now) _ _ refused refl)

pub returns-in_err-layout-clause-answer : goal.returns-in_err-layout-clause-answer
returns-in_err-layout-clause-answer c =
    let p = err_from_is_err_and c.from_residual-in_err-layout.result c.from_residual-in_err-layout.ensures.1 in
    let j = judged c.args.text.now c.args.grammar _ _ _ c.in_ok-grammar.ensures c.scan_decoding-pass.ensures.0 c.in_err-layout.ensures in
    rw (p.1, p.2) (answer-judged c.args.text.now c.args.grammar (length c.args.out.now) _ _ j refl)

pub returns-then-out-found-clause-answer : goal.returns-then-out-found-clause-answer
returns-then-out-found-clause-answer c =
    let j = judged c.args.text.now c.args.grammar _ _ _ c.in_ok-grammar.ensures c.scan_decoding-pass.ensures.0 c.in_ok-layout.ensures in
    let small = lt-ltb (length c.args.out.now) c.in_ok-layout.field-0.found.size.0 (omega (arith, c.scan_decoding-pass.ensures.1)) in
    answer-judged c.args.text.now c.args.grammar (length c.args.out.now) _ _ j (rw small)

pub put_body-requires : goal.put_body-requires
put_body-requires c =
    let j = judged c.args.text.now c.args.grammar _ _ _ c.in_ok-grammar.ensures c.scan_decoding-pass.ensures.0 c.in_ok-layout.ensures in
    let sound = sound_fits c.args.text.now c.args.grammar _ j in
    let pass = c.scan_decoding-pass.ensures in
    (sound.1, omega (arith, sound.2), pass.2, pass.3)

pub returns-clause-answer : goal.returns-clause-answer
returns-clause-answer c =
    let j = judged c.args.text.now c.args.grammar _ _ _ c.in_ok-grammar.ensures c.scan_decoding-pass.ensures.0 c.in_ok-layout.ensures in
    let room = le-ltb (length c.args.out.now) c.in_ok-layout.field-0.found.size.0 (omega (arith, c.scan_decoding-pass.ensures.1)) in
    answer-judged c.args.text.now c.args.grammar (length c.args.out.now) _ _ j (rw room)

pub returns-clause-data : goal.returns-clause-data
returns-clause-data c =
    let j = judged c.args.text.now c.args.grammar _ _ _ c.in_ok-grammar.ensures c.scan_decoding-pass.ensures.0 c.in_ok-layout.ensures in
    let size = c.scan_decoding-pass.ensures.1 in
    let room = le-ltb (length c.args.out.now) c.in_ok-layout.field-0.found.size.0 (omega arith) in
    let sound = sound_fits c.args.text.now c.args.grammar _ j in
    output-judged c.args.text.now c.args.grammar (length c.args.out.now) _ _ j (c.put_body.ensures ∙ rw (room, size, sound.2))
