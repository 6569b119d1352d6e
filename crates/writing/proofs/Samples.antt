-- The samples hold: what the call is defined to answer computes, and it means what the rows say. Assumes nothing.
use mathlib.Core.Path.{◌≡◌, refl}
use mathlib.Core.Bool.{Bool, true}
use mathlib.Core.List.{List, [], ◌∷◌}
use Prim.Native.Nat.{ℕ}
use lib.Dec.{T, ltb, ltb→lt}
use Rattle.base_64.specs.Lists.{All}
use Rattle.base_64.specs.Alphabet.{Octet, alphabet, place_in, value_of}
use Rattle.base_64.proofs.Lists.{all_imp}
use Rattle.base_64.proofs.Tests.{both, both_left, both_right}
use Rattle.machine.proofs.Machine.{label_from}
use Rattle.writing.specs.Text.{in_lines}
use Rattle.writing.specs.Write.{write_of, write_output}
use Rattle.writing.specs.Samples.{Row, Holds, rows, Samples}
use Rattle.writing.proofs.Meaning.{write_means}

abbrev octets_test : List ℕ → Bool
octets_test [] = true
octets_test (x ∷ l) = both (ltb x 256) (octets_test l)

octets_tested : (l : List ℕ) → T (octets_test l) → All Octet l
octets_tested [] t = tt
octets_tested (x ∷ l) t = (ltb→lt _ _ (both_left (ltb x 256) (octets_test l) t), octets_tested l (both_right (ltb x 256) (octets_test l) t))

-- What is computed of a row: its data are octets, and its answer and output are what the call is defined to give.
abbrev Computed : Row → Type 0
Computed r =
    T (octets_test r.content)
    × (write_of r.label r.content r.style r.room ≡ r.answer)
    × (write_output r.label r.content r.style r.room ≡ r.output)

computed_holds : (r : Row) → Computed r → Holds r
computed_holds r c = rw (c.1, c.2) at (write_means r.label r.content r.style r.room (octets_tested r.content c.0))

pub samples : Samples
unfolding in_lines label_from alphabet value_of place_in
samples =
    all_imp Computed Holds computed_holds rows
    ((tt, refl, refl), ((tt, refl, refl), ((tt, refl, refl), ((tt, refl, refl), ((tt, refl, refl), ((tt, refl, refl), ((tt, refl, refl), ((tt, refl, refl), ((tt, refl, refl), ((tt, refl, refl), ((tt, refl, refl), ((tt, refl, refl), ((tt, refl, refl), ((tt, refl, refl), ((tt, refl, refl), ((tt, refl, refl), ((tt, refl, refl), ((tt, refl, refl), ((tt, refl, refl), ((tt, refl, refl), ((tt, refl, refl), ((tt, refl, refl), tt))))))))))))))))))))))
