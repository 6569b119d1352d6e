-- The families of labels: what `family_of` means, and that their numbers are small. Assumes nothing.
use mathlib.Core.Path.{◌≡◌, refl}
use mathlib.Core.Logic.{◌≢◌}
use mathlib.Core.Bool.{Bool, true, false, cond}
use mathlib.Core.List.{List, [], ◌∷◌, map}
use Prim.Native.Nat.{ℕ, ◌≤◌, ◌<◌}
use native.Mathlib.Omega.{arith}
use Rattle.std.specs.Prelude.{Option, Some, None}
use Rattle.base_64.specs.Lists.{All, same_bytes}
use Rattle.base_64.proofs.Lists.{same_true}
use Rattle.grammar.specs.declared.Family.{Family}
use Rattle.grammar.specs.declared.Family.TheVariants.{Certificate, X509Crl, CertificateRequest, Pkcs7, Cms, PrivateKey, EncryptedPrivateKey, AttributeCertificate, PublicKey}
use Rattle.grammar.specs.Families.{KnownLabel, known_labels, last_family, no_family, family_number, family_told, family_in, family_of, FamilyMeans}

-- A label that is none of them has no family.
other_in : (ks : List KnownLabel) (label : List ℕ) → All (λ k. k.label ≢ label) ks → family_in ks label ≡ None
unfolding family_in
other_in [] label h = refl
other_in (k ∷ ks) label h = go (same_bytes k.label label) refl (other_in ks label h.1)
  where
    go : (b : Bool) → same_bytes k.label label ≡ b → family_in ks label ≡ None → cond b (Some k.family) (family_in ks label) ≡ None
    go true e later = absurd (h.0 (same_true k.label label e))
    go false e later = later

-- Each known label, if all of them are looked up at once.
named_all : (ks : List KnownLabel) → map (λ k. family_of k.label) ks ≡ map (λ k. Some k.family) ks → All (λ k. family_of k.label ≡ Some k.family) ks
named_all [] e = tt
named_all (k ∷ ks) e = (cc, named_all ks (cc))

number_small : (family : Family) → (no_family < family_number family) × (family_number family ≤ last_family)
number_small Certificate = (omega arith, omega arith)
number_small X509Crl = (omega arith, omega arith)
number_small CertificateRequest = (omega arith, omega arith)
number_small Pkcs7 = (omega arith, omega arith)
number_small Cms = (omega arith, omega arith)
number_small PrivateKey = (omega arith, omega arith)
number_small EncryptedPrivateKey = (omega arith, omega arith)
number_small AttributeCertificate = (omega arith, omega arith)
number_small PublicKey = (omega arith, omega arith)

pub family_means : FamilyMeans
unfolding family_in same_bytes
family_means = record {
  named = named_all known_labels refl;
  numbers = number_small;
  other = other_in known_labels;
  told = refl;
}

pub told_small : (family : Option Family) → family_told family ≤ last_family
told_small None = omega arith
told_small (Some family) = (number_small family).1
