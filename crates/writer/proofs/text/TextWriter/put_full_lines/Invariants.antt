-- The bytes of the lines that are left are to come, and those behind all lines; a line has ended, or begins. Assumes nothing.
use Rattle.std.proofs.Common.{◌≡◌, ◌++◌, ◌%◌, length, drop, ◌⊎◌}
use Rattle.std.specs.Slice.Iter.{chunks_exact_rest, chunks_exact_size}
use Rattle.grammar.specs.Grammars.{line_chars}
use Rattle.writer.specs.Steps.{PutsLines}
use Rattle.writer.proofs.text.TextWriter.put_full_lines.Given as goal

abbrev pub invariant-loop-line : goal.invariant-loop-line
invariant-loop-line l = record {
  can_next : (goal.iterator-loop-line).can_next l.line-iterator;
  is_finite : (goal.iterator-loop-line).is_finite l.line-iterator;
  size : chunks_exact_size l.line-iterator ≡ 48;
  whole : length (chunks_exact_rest l.line-iterator) % 48 ≡ 0;
  line : (l.self.room ≡ 0) ⊎ (l.self.room ≡ line_chars);
  lines : PutsLines l.fn.self l.content (chunks_exact_rest l.line-iterator ++ drop l.full l.content) l.self;
}
