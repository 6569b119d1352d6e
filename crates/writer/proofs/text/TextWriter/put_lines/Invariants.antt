-- The bytes of the groups that are left are to come, and the last ones. Assumes nothing.
use Rattle.std.proofs.Common.{◌≡◌, ◌++◌, ◌%◌, length}
use Rattle.std.specs.Slice.Iter.{chunks_exact_rest, chunks_exact_size}
use Rattle.writer.specs.Steps.{PutsLines}
use Rattle.writer.proofs.text.TextWriter.put_lines.Given as goal

abbrev pub invariant-loop-group : goal.invariant-loop-group
invariant-loop-group l = record {
  can_next : (goal.iterator-loop-group).can_next l.group-iterator;
  is_finite : (goal.iterator-loop-group).is_finite l.group-iterator;
  size : chunks_exact_size l.group-iterator ≡ 3;
  whole : length (chunks_exact_rest l.group-iterator) % 3 ≡ 0;
  lines : PutsLines l.fn.self l.content (chunks_exact_rest l.group-iterator ++ l.last) l.self;
}
