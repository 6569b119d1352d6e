-- A line more: a line's begin, and its characters. Assumes nothing.
use Rattle.std.proofs.Common.{◌≡◌, length, take, refl, ap, ◌∙◌, inl, inr, arith, length-append, length-take-le, take-append-drop}
use Rattle.std.specs.Slice.Iter.{chunks_exact_rest, chunks_exact_size}
use Rattle.writer.proofs.Steps.{lines_none, begin_fits, line_fits, part_length, next_line}
use Rattle.writer.proofs.text.TextWriter.put_full_lines.Goals as goal

pub returns-then-full-eq0 : goal.returns-then-full-eq0
returns-then-full-eq0 c = rw c.if-full-eq0.true (lines_none c.args.self.now c.args.content.now c.requires.2)

pub loop-line-init : goal.loop-line-init
loop-line-init c =
    let content = c.args.content.now in
    let items = c.into_iter-line-iterator.ensures.into_iter_gives in
    let size : chunks_exact_size c.into_iter-line-iterator.result ≡ 48 = ap chunks_exact_size items ∙ c.chunks_exact-line-items.ensures.size in
    let rest : chunks_exact_rest c.into_iter-line-iterator.result ≡ take c.args.full content = ap chunks_exact_rest items ∙ c.chunks_exact-line-items.ensures.rest in
    record {
      can_next = omega (arith, size);
      is_finite = tt;
      size = size;
      whole = omega (arith, c.requires.0, ap length rest, length-take-le c.args.full content c.requires.1);
      line = inr c.requires.2;
      lines = rw (rest, take-append-drop) (lines_none c.args.self.now content c.requires.2);
    }

pub break_line-requires : goal.break_line-requires
break_line-requires c =
    let inv = c.loop-line.invariant in
    let steps = c.in-Some.ensures.steps in
    begin_fits _ _ _ _ inv.lines c.requires.3 steps.1.0 (steps.1.1 ∙ inv.size) inv.line

pub slice_bounds-put_full_line-end : goal.slice_bounds-put_full_line-end
slice_bounds-put_full_line-end c =
    let inv = c.loop-line.invariant in
    let steps = c.in-Some.ensures.steps in
    let fits = line_fits _ _ _ _ inv.lines c.requires.3 steps.1.0 (steps.1.1 ∙ inv.size) inv.line c.break_line.ensures.0 in
    omega (arith, fits)

pub put_full_line-requires : goal.put_full_line-requires
put_full_line-requires c =
    let inv = c.loop-line.invariant in
    let steps = c.in-Some.ensures.steps in
    let size = steps.1.1 ∙ inv.size in
    (size, part_length _ _ _ _ inv.lines c.requires.3 steps.1.0 size inv.line c.break_line.ensures.0)

pub loop-line-preserved : goal.loop-line-preserved
loop-line-preserved c =
    let inv = c.loop-line.invariant in
    let steps = c.in-Some.ensures.steps in
    let size = steps.1.1 ∙ inv.size in
    record {
      can_next = omega (arith, steps.0, inv.size);
      is_finite = tt;
      size = steps.0 ∙ inv.size;
      whole = omega (arith, inv.whole, size, ap length steps.1.0 ∙ length-append c.in-Some.line.now (chunks_exact_rest c.next.new.self));
      line = inl refl;
      lines = next_line _ _ _ _ inv.lines c.requires.3 steps.1.0 size inv.line c.break_line.ensures.0 c.put_full_line.ensures refl refl refl refl refl;
    }
