-- The constant is the alphabet. Assumes nothing.
use Rattle.std.proofs.Common.{refl}
use Rattle.base_64.specs.Alphabet.{alphabet}
use Rattle.base_64.proofs.tables.EncodeTable.new.Goals as goal

pub invariant_of-result : goal.invariant_of-result
unfolding alphabet
invariant_of-result c = record { rule = refl }
