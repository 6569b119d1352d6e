-- So many values have become characters, and the others are as they were. Assumes nothing.
use Rattle.std.proofs.Common.{◌≡◌, ◌++◌, length, take, drop, map}
use Rattle.writer.specs.Values.{low_char}
use Rattle.writer.proofs.line.make_chars.Given as goal

abbrev pub invariant-loop-c : goal.invariant-loop-c
invariant-loop-c l = (length l.values ≡ length l.fn.values) × (l.values ≡ map low_char (take l.c-index l.fn.values) ++ drop l.c-index l.fn.values)
