-- Demand 3 holds. Assumes nothing.
use Rattle.grammar.proofs.Message.{strict_standard, standard_lax}
use Rattle.grammar.proofs.Bundle.{bundle_unique, bundle_widens}
use Rattle.indexing.proofs.Claims.{alike, zero_exactly}
use Rattle.writing.proofs.Claims.{one_list}
use Rattle.zullifern.specs.Demand3.{Demand3}

pub demand3 : Demand3
demand3 = record {
  unique = λ g text list list' table table' b c. bundle_unique g g b c;
  strict_to_standard = λ text list table b. bundle_widens strict_standard b;
  standard_to_lax = λ text list table b. bundle_widens standard_lax b;
  alike = alike;
  zero_exactly = zero_exactly;
  one_list = one_list;
}
