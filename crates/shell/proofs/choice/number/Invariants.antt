-- The word is the number that the characters which are left make of the one so far. Assumes nothing.
use Rattle.std.proofs.Common.{◌≡◌, drop}
use Rattle.shell.specs.Words.{spelled_from, spelled}
use Rattle.shell.proofs.choice.number.Given as goal

abbrev pub invariant-loop-c : goal.invariant-loop-c
invariant-loop-c l = spelled l.word ≡ spelled_from l.number (drop l.c-index l.word)
