-- The known labels from this one on tell the family. Assumes nothing.
use Rattle.std.proofs.Common.{◌≡◌, drop}
use Rattle.grammar.specs.Families.{known_labels, family_in, family_of}
use Rattle.families.proofs.family_of.Given as goal

abbrev pub invariant-loop-known : goal.invariant-loop-known
invariant-loop-known l = family_in (drop l.known-index known_labels) l.label ≡ family_of l.label
