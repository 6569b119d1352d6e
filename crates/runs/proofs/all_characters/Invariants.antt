-- All bytes so far are characters, unless one was found that is none. Assumes nothing.
use Rattle.std.proofs.Common.{◌≡◌, ◌+◌}
use Rattle.runs.specs.Runs.{Characters}
use Rattle.runs.proofs.all_characters.Given as goal

abbrev pub invariant-loop-k : goal.invariant-loop-k
invariant-loop-k g l = l.any ≡ 0 → Characters l.text l.at (l.at + l.k)
