-- The families of labels, so that a caller need not compare labels.
-- (The requirements' change request K6; family is its term.) Assumes nothing.
use Rattle.std.specs.Prelude.{◌≡◌, ◌≢◌, cond, Option, Some, None, List, [], ◌∷◌, ℕ, ◌≤◌, ◌<◌}
use Prim.Native.String.{String}
use Rattle.base_64.specs.Lists.{All, same_bytes, ascii}
use Rattle.grammar.specs.declared.Family.{Family}
use Rattle.grammar.specs.declared.Family.TheVariants.{Certificate, X509Crl, CertificateRequest, Pkcs7, Cms, PrivateKey, EncryptedPrivateKey, AttributeCertificate, PublicKey}

-- A label that has a family, and the family.
pub record KnownLabel : Type 0 where
  pub label : List ℕ
  pub family : Family

abbrev pub known : String → Family → KnownLabel
known label family = record { label = ascii label; family = family }

-- The nine labels of RFC 7468, figure 4, in its order, and the older ones that its sections 5.1 and 7 tell of.
abbrev pub known_labels : List KnownLabel
known_labels =
    known "CERTIFICATE" Certificate
    ∷ known "X509 CRL" X509Crl
    ∷ known "CERTIFICATE REQUEST" CertificateRequest
    ∷ known "PKCS7" Pkcs7
    ∷ known "CMS" Cms
    ∷ known "PRIVATE KEY" PrivateKey
    ∷ known "ENCRYPTED PRIVATE KEY" EncryptedPrivateKey
    ∷ known "ATTRIBUTE CERTIFICATE" AttributeCertificate
    ∷ known "PUBLIC KEY" PublicKey
    ∷ known "X509 CERTIFICATE" Certificate
    ∷ known "X.509 CERTIFICATE" Certificate
    ∷ known "NEW CERTIFICATE REQUEST" CertificateRequest
    ∷ []

-- The family of a label among known ones: that of the one whose bytes it has, all of them and no more. Case counts.
unfoldable pub family_in : List KnownLabel → List ℕ → Option Family
family_in [] label = None
family_in (k ∷ ks) label = cond (same_bytes k.label label) (Some k.family) (family_in ks label)

abbrev pub family_of : List ℕ → Option Family
family_of label = family_in known_labels label

-- The families are told by number, 1 to 9, and 0 is told of every label that is in none.
abbrev pub last_family : ℕ
last_family = 9

abbrev pub no_family : ℕ
no_family = 0

abbrev pub family_number : Family → ℕ
family_number Certificate = 1
family_number X509Crl = 2
family_number CertificateRequest = 3
family_number Pkcs7 = 4
family_number Cms = 5
family_number PrivateKey = 6
family_number EncryptedPrivateKey = 7
family_number AttributeCertificate = 8
family_number PublicKey = 9

abbrev pub family_told : Option Family → ℕ
family_told None = no_family
family_told (Some family) = family_number family

-- The claim: each known label has the family that stands beside it, families have the numbers from 1 to 9, and each other label
-- has none, which is told as 0.
pub record FamilyMeans : Type 0 where
  pub named : All (λ k. family_of k.label ≡ Some k.family) known_labels
  pub numbers : (family : Family) → (no_family < family_number family) × (family_number family ≤ last_family)
  pub other : (label : List ℕ) → All (λ k. k.label ≢ label) known_labels → family_of label ≡ None
  pub told : family_told None ≡ no_family
