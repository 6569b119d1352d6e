-- The families of the labels in the samples, each tested by itself. Assumes nothing.
use mathlib.Core.Path.{◌≡◌, refl}
use mathlib.Core.Bool.{Bool}
use mathlib.Core.List.{List}
use lib.Dec.{T, eqb, eqb→eq}
use Rattle.base_64.specs.Lists.{same_bytes}
use Rattle.base_64.proofs.Lists.{all_test, all_tested}
use Rattle.grammar.specs.Families.{family_told, family_in, family_of}
use Rattle.grammar.specs.FamilySamples as samples
use Rattle.grammar.specs.FamilySamples.{Sample, Holds, FamilySamples}

abbrev sample_test : Sample → Bool
sample_test s = eqb (family_told (family_of s.label)) s.number

tested : (l : List Sample) → T (all_test sample_test l) → Holds l
tested l t = all_tested sample_test (λ s. family_told (family_of s.label) ≡ s.number) (λ s u. eqb→eq _ _ u) l t

pub family_samples : FamilySamples
unfolding family_in same_bytes
family_samples = record {
  named = tested samples.named tt;
  others = tested samples.others tt;
  changed = tested samples.changed tt;
  cut = tested samples.cut tt;
  lengthened = tested samples.lengthened tt;
  lower_case = tested samples.lower_case tt;
  longest = refl;
  zero = refl;
}
