-- Labels and their families, spelled out: each known label, and what comes close to one. Assumes nothing.
use Rattle.std.specs.Prelude.{◌≡◌, List, [], ◌∷◌, ◌++◌, ℕ, replicate}
use Prim.Native.String.{String}
use Rattle.base_64.specs.Lists.{All, ascii}
use Rattle.grammar.specs.Families.{family_of, family_told}

-- A label, and the number of its family.
pub record Sample : Type 0 where
  pub label : List ℕ
  pub number : ℕ

-- Labels of one family.
abbrev pub family : ℕ → List String → List Sample
family n [] = []
family n (l ∷ ls) = record { label = ascii l; number = n } ∷ family n ls

abbrev pub named : List Sample
named =
    family 1 ("CERTIFICATE" ∷ "X509 CERTIFICATE" ∷ "X.509 CERTIFICATE" ∷ [])
    ++ (family 2 ("X509 CRL" ∷ [])
    ++ (family 3 ("CERTIFICATE REQUEST" ∷ "NEW CERTIFICATE REQUEST" ∷ [])
    ++ (family 4 ("PKCS7" ∷ [])
    ++ (family 5 ("CMS" ∷ [])
    ++ (family 6 ("PRIVATE KEY" ∷ [])
    ++ (family 7 ("ENCRYPTED PRIVATE KEY" ∷ [])
    ++ (family 8 ("ATTRIBUTE CERTIFICATE" ∷ [])
    ++ family 9 ("PUBLIC KEY" ∷ []))))))))

-- Others that are in use, and the empty label.
abbrev pub others : List Sample
others = family 0 ("CRL" ∷ "CERTIFICATE CHAIN" ∷ "TRUSTED CERTIFICATE" ∷ "RSA PRIVATE KEY" ∷ "" ∷ [])

-- One byte is another.
abbrev pub changed : List Sample
changed =
    family 0 (
    "CERTIFICATF" ∷ "X508 CRL" ∷ "CERTIFICATE-REQUEST" ∷ "PKCS8" ∷ "DMS" ∷ "PRIVATE KEX" ∷ "ENCRYPTED-PRIVATE KEY" ∷ "BTTRIBUTE CERTIFICATE"
    ∷ "PUBLIC-KEY" ∷ "X509-CERTIFICATE" ∷ "X,509 CERTIFICATE" ∷ "NEX CERTIFICATE REQUEST" ∷ [])

-- The last byte is cut off.
abbrev pub cut : List Sample
cut =
    family 0 (
    "CERTIFICAT" ∷ "X509 CR" ∷ "CERTIFICATE REQUES" ∷ "PKCS" ∷ "CM" ∷ "PRIVATE KE" ∷ "ENCRYPTED PRIVATE KE" ∷ "ATTRIBUTE CERTIFICAT"
    ∷ "PUBLIC KE" ∷ "X509 CERTIFICAT" ∷ "X.509 CERTIFICAT" ∷ "NEW CERTIFICATE REQUES" ∷ [])

-- A byte stands behind it.
abbrev pub lengthened : List Sample
lengthened =
    family 0 (
    "CERTIFICATES" ∷ "X509 CRLS" ∷ "CERTIFICATE REQUESTS" ∷ "PKCS77" ∷ "CMSS" ∷ "PRIVATE KEYS" ∷ "ENCRYPTED PRIVATE KEYS" ∷ "ATTRIBUTE CERTIFICATES"
    ∷ "PUBLIC KEYS" ∷ "X509 CERTIFICATES" ∷ "X.509 CERTIFICATES" ∷ "NEW CERTIFICATE REQUESTS" ∷ [])

abbrev pub lower_case : List Sample
lower_case =
    family 0 (
    "certificate" ∷ "x509 crl" ∷ "certificate request" ∷ "pkcs7" ∷ "cms" ∷ "private key" ∷ "encrypted private key" ∷ "attribute certificate"
    ∷ "public key" ∷ "x509 certificate" ∷ "x.509 certificate" ∷ "new certificate request" ∷ [])

abbrev pub Holds : List Sample → Type 0
Holds samples = All (λ s. family_told (family_of s.label) ≡ s.number) samples

-- The claim.
pub record FamilySamples : Type 0 where
  pub named : Holds named
  pub others : Holds others
  pub changed : Holds changed
  pub cut : Holds cut
  pub lengthened : Holds lengthened
  pub lower_case : Holds lower_case
  -- a label of 64 bytes that begins with a known one
  pub longest : family_told (family_of (ascii "CERTIFICATE" ++ replicate 53 65)) ≡ 0
  -- a zero behind a label counts, too
  pub zero : family_told (family_of (ascii "CMS" ++ (0 ∷ []))) ≡ 0
