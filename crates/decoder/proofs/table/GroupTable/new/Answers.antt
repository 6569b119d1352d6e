-- The constant is the table, which is computed here. Assumes nothing.
use Rattle.std.proofs.Common.{refl}
use Rattle.base_64.specs.Alphabet.{alphabet, place_in, value_of}
use Rattle.decoder.specs.Tables.{entries_of}
use Rattle.decoder.proofs.table.GroupTable.new.Goals as goal

pub invariant_of-result : goal.invariant_of-result
unfolding entries_of value_of place_in alphabet
invariant_of-result c = record { rule = refl }
