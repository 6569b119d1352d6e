-- The table of known labels: its rows are those of `known_labels`, in arrays of one length. Assumes nothing.
use mathlib.Core.Path.{◌≡◌, sym, ap, ◌∙◌}
use mathlib.Core.Logic.{◌≢◌}
use mathlib.Core.Bool.{Bool, true, false, cond}
use mathlib.Core.List.{List, [], ◌∷◌, map}
use Prim.Native.Nat.{ℕ, zero, suc, ◌+◌, ◌≤◌, ◌<◌}
use native.Mathlib.Omega.{arith}
use lib.Dec.{T, ltb, ltb→lt}
use lib.ListN.{length, drop, get_or, drop_of_length-le}
use Rattle.std.specs.Prelude.{Some, None}
use Rattle.base_64.specs.Lists.{All, same_bytes}
use Rattle.base_64.proofs.Lists.{all_test, all_tested}
use Rattle.grammar.specs.Families.{KnownLabel, known_labels, family_in}
use Rattle.families.specs.Arrays.{padded, unpadded}
use Rattle.families.specs.declared.KnownLabel as declared
use Rattle.families.proofs.Arrays.{unpadded_padded}

abbrev pub row_of : KnownLabel → declared.KnownLabel
row_of k = record { padded = padded k.label; family = k.family }

-- A label without a zero.
abbrev NoZero : KnownLabel → Type 0
NoZero k = All (λ c. c ≢ 0) k.label

-- A row of the table: its array tells whether a label is the row's, whose family is then the label's.
record RowAt (ks : List KnownLabel) (i : ℕ) (row : declared.KnownLabel) : Type 0 where
  tells : (label : List ℕ) → family_in (drop i ks) label ≡ cond (same_bytes (unpadded row.padded) label) (Some row.family) (family_in (drop (i + 1) ks) label)

rows_at : (ks : List KnownLabel) → All NoZero ks → (i : ℕ) → i < length ks → (z : declared.KnownLabel) → RowAt ks i (get_or (map row_of ks) i z)
unfolding family_in
rows_at [] h i k z = absurd (omega arith)
rows_at (x ∷ ks) h zero k z = record {
  tells = λ label. rw (unpadded_padded x.label h.0);
}
rows_at (x ∷ ks) h (suc i) k z =
    let one : suc i + 1 ≡ suc (i + 1) = omega arith in
    let later : RowAt ks i (get_or (map row_of ks) i z) = rows_at ks h.1 i (omega arith) z in
    record { tells = λ label. rw one (later.tells label) }

-- No known label has one, by a test.
abbrev no_zero_test : KnownLabel → Bool
no_zero_test k = all_test (ltb 0) k.label

no_zero_tested : (k : KnownLabel) → T (no_zero_test k) → NoZero k
no_zero_tested k t = all_tested (ltb 0) (λ c. c ≢ 0) (λ c u e. absurd (omega (arith, ltb→lt 0 c u, e))) k.label t

row_at : (i : ℕ) → i < length known_labels → (z : declared.KnownLabel) → RowAt known_labels i (get_or (map row_of known_labels) i z)
row_at = rows_at known_labels (all_tested no_zero_test NoZero no_zero_tested known_labels tt)

-- The row at a place: the family of a label that is in it, or is not.
pub row_found : (i : ℕ) → i < length known_labels → (z : declared.KnownLabel) (label : List ℕ)
    → same_bytes (unpadded (get_or (map row_of known_labels) i z).padded) label ≡ true → Some (get_or (map row_of known_labels) i z).family ≡ family_in (drop i known_labels) label
row_found i h z label e = sym ((row_at i h z).tells label ∙ rw e)

pub row_passed : (i : ℕ) → i < length known_labels → (z : declared.KnownLabel) (label : List ℕ)
    → same_bytes (unpadded (get_or (map row_of known_labels) i z).padded) label ≡ false → family_in (drop (i + 1) known_labels) label ≡ family_in (drop i known_labels) label
row_passed i h z label e = sym ((row_at i h z).tells label ∙ rw e)

-- Behind the last of them there is none.
pub none_left : (i : ℕ) → length known_labels ≤ i → (label : List ℕ) → family_in (drop i known_labels) label ≡ None
unfolding family_in
none_left i h label = ap (λ ks. family_in ks label) (drop_of_length-le known_labels h)
