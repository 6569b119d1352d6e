-- A group more, and the last line. Assumes nothing.
use Rattle.std.proofs.Common.{◌≡◌, ◌++◌, ◌-◌, [], length, drop, ap, ◌∙◌, arith, append_assoc, length-append, length-drop, take-append-drop}
use lib.Seq.{take_all}
use Rattle.std.proofs.lemmas.List.{nil_from_length}
use Rattle.std.specs.Slice.Iter.{chunks_exact_rest, chunks_exact_size}
use Rattle.writer.proofs.Steps.{left_room, lines_all, next_room, next_lines}
use Rattle.writer.proofs.text.TextWriter.put_lines.Goals as goal

pub loop-group-init : goal.loop-group-init
loop-group-init c =
    let content = c.args.content.now in
    let full = c.full_bytes-full.result in
    let items = c.into_iter-group-iterator.ensures.into_iter_gives in
    let size : chunks_exact_size c.into_iter-group-iterator.result ≡ 3 = ap chunks_exact_size items ∙ c.chunks_exact-group-items.ensures.size in
    let rest : chunks_exact_rest c.into_iter-group-iterator.result ≡ c.split_at.result.0.now = ap chunks_exact_rest items ∙ c.chunks_exact-group-items.ensures.rest in
    let all : chunks_exact_rest c.into_iter-group-iterator.result ++ c.split_at.result.1.now ≡ drop full content =
    (λ j. (rest ∙ c.split_at.ensures.front) j ++ c.split_at.ensures.back j) ∙ take-append-drop _ _ ∙ take_all (length content - full) (drop full content) (omega (arith, length-drop full content)) in
    let whole = c.put_full_lines.ensures in
    record {
      can_next = omega (arith, size);
      is_finite = tt;
      size = size;
      whole = omega (arith, ap length rest, c.split_at.ensures.front_len);
      lines = rw all record { lent = whole.lent; ending = whole.ending; lined = whole.lined };
    }

pub put_group-requires : goal.put_group-requires
put_group-requires c =
    let inv = c.loop-group.invariant in
    let steps = c.in-Some.ensures.steps in
    let group = c.in-Some.group.now in
    let others = chunks_exact_rest c.next.new.self ++ c.split_at.result.1.now in
    let left = ap (λ l. l ++ c.split_at.result.1.now) steps.1.0 ∙ append_assoc group (chunks_exact_rest c.next.new.self) c.split_at.result.1.now in
    let sum = ap length left ∙ length-append group others in
    (inv.lines.lined.whole, next_room inv.lines c.requires group others _ left (omega (arith, sum, steps.1.1, inv.size)) (omega (arith, sum, steps.1.1, inv.size)) c.encode.ensures)

pub loop-group-preserved : goal.loop-group-preserved
loop-group-preserved c =
    let inv = c.loop-group.invariant in
    let steps = c.in-Some.ensures.steps in
    let group = c.in-Some.group.now in
    let others = chunks_exact_rest c.next.new.self ++ c.split_at.result.1.now in
    let left = ap (λ l. l ++ c.split_at.result.1.now) steps.1.0 ∙ append_assoc group (chunks_exact_rest c.next.new.self) c.split_at.result.1.now in
    let sum = ap length left ∙ length-append group others in
    record {
      can_next = omega (arith, steps.0, inv.size);
      is_finite = tt;
      size = steps.0 ∙ inv.size;
      whole = omega (arith, inv.whole, inv.size, steps.1.1, ap length steps.1.0 ∙ length-append group (chunks_exact_rest c.next.new.self));
      lines = next_lines inv.lines c.requires group others _ left (omega (arith, sum, steps.1.1, inv.size)) (omega (arith, sum, steps.1.1, inv.size)) c.encode.ensures c.put_group.ensures.0 c.put_group.ensures.1;
    }

pub put_last_line-requires : goal.put_last_line-requires
put_last_line-requires c =
    let inv = c.loop-group.invariant in
    let none : chunks_exact_rest c.loop-group.group-iterator ≡ [] = nil_from_length _ (omega (arith, inv.whole, inv.size, c.in-None.ensures.steps.1.0)) in
    (omega (arith, c.split_at.ensures.back_len), inv.lines.lined.whole, left_room (rw none at inv.lines) c.requires)

pub returns : goal.returns
returns c =
    let inv = c.loop-group.invariant in
    let none : chunks_exact_rest c.loop-group.group-iterator ≡ [] = nil_from_length _ (omega (arith, inv.whole, inv.size, c.in-None.ensures.steps.1.0)) in
    let all = lines_all (rw none at inv.lines) c.requires c.put_last_line.ensures in
    record { lent = all.lent; ending = all.ending; put = all.put }
