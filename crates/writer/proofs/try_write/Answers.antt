-- The text has the size that was judged. Assumes nothing.
use Rattle.std.proofs.Common.{◌≡◌, ◌∙◌, Ok, false, ltb, length, rules, arith}
use borrow.Author.Tests.{le-ltb}
use Rattle.writing.specs.Write.{judge_of}
use Rattle.writing.proofs.Meaning.{taken_size}
use Rattle.writer.proofs.try_write.Goals as goal

pub put_text-requires : goal.put_text-requires
put_text-requires c =
    let args = c.args in
    let judged : judge_of args.label.now args.content.now args.style ≡ Ok c.in_ok-taken.taken = search rules in
    omega (arith, c.if-out-taken.false, taken_size args.label.now args.content.now args.style c.in_ok-taken.taken judged)

pub returns-clause-output : goal.returns-clause-output
returns-clause-output c =
    let args = c.args in
    let judged : judge_of args.label.now args.content.now args.style ≡ Ok c.in_ok-taken.taken = search rules in
    let size = taken_size args.label.now args.content.now args.style c.in_ok-taken.taken judged in
    let room : ltb (length args.out.now) c.in_ok-taken.taken.size.0 ≡ false = le-ltb _ _ c.if-out-taken.false in
    c.put_text.ensures ∙ rw (judged, room, size)
