-- The test, computed here over the whole constant. Assumes nothing.
use Rattle.std.proofs.Common.{refl}
use Rattle.base_64.specs.Alphabet.{alphabet, place_in, value_of}
use Rattle.base_64.proofs.Values.{tested_table}
use Rattle.base_64.proofs.tables.DecodeTable.new.Goals as goal

pub invariant_of-result : goal.invariant_of-result
unfolding value_of place_in alphabet
invariant_of-result c = record { rule = tested_table _ refl tt }
