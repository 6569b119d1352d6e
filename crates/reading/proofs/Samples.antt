-- The samples hold: one test, computed over the rows, says that the definition answers them; and what it answers is what the
-- relations say. Assumes nothing.
use mathlib.Core.Path.{◌≡◌, refl, sym, ap, ◌∙◌}
use mathlib.Core.Bool.{Bool, true, false, cond}
use mathlib.Core.List.{List, [], ◌∷◌, ◌++◌}
use Prim.Native.Nat.{ℕ}
use lib.Dec.{T, eqb}
use lib.ListN.{get_or}
use Rattle.base_64.specs.Lists.{All, same_bytes}
use Rattle.base_64.specs.Alphabet.{alphabet, place_in, value_of}
use Rattle.base_64.proofs.Tests.{both, both_left, both_right}
use Rattle.base_64.proofs.Lists.{same_true}
use Rattle.grammar.specs.Families.{family_told, family_in}
use Rattle.grammar.specs.Grammars.{lax_number, standard_number, strict_number}
use Rattle.grammar.specs.LineEnds.{style_number}
use Rattle.grammar.specs.Message.{characters, pad_count}
use Rattle.grammar.specs.declared.Family.{Family}
use Rattle.grammar.specs.declared.Family.TheVariants.{Certificate, X509Crl, CertificateRequest, Pkcs7, Cms, PrivateKey, EncryptedPrivateKey, AttributeCertificate, PublicKey}
use Rattle.grammar.specs.declared.LineEnding.TheVariants.{Lf, CrLf, Cr}
use Rattle.grammar.specs.declared.LineStyle.{LineStyle}
use Rattle.grammar.specs.declared.LineStyle.TheVariants.{NoLineEnd, Only, Mixed}
use Rattle.reading.specs.Answers.{offset, byte_count, span, refusal_number, refusal_place, number_of, place_of, size_of, label_offset_of, label_length_of, label_family_of, line_style_of, ReadAnswer}
use Rattle.reading.specs.Read.{read_of, output_of}
use Rattle.reading.specs.Rows.{Row, RowHolds, Outcome, room, answer_for, output_for, Holds}
use Rattle.reading.specs.Samples.{rows, split_pads, spare_bits, line_ends, families, Samples}
use Rattle.reading.specs.declared.Found.{Found}
use Rattle.std.specs.Prelude.{Option, Some, None, Ok, Err}
use Rattle.output.specs.declared.CallError.TheVariants.{Refused, TooSmall}
use Rattle.reading.specs.declared.Refusal.{Refusal}
use Rattle.reading.specs.declared.Refusal.TheVariants.{UnknownGrammar, TextTooLong, BadOpening, BadBody, BadClosing, LabelTooLong, LabelsDiffer, BadCounts, SpareBits}
use Rattle.reading.proofs.Meaning.{read_means}

-- ---- An answer is settled by its numbers

abbrev refusal_by : ℕ → ℕ → Refusal
refusal_by n at =
    cond (eqb n 1) UnknownGrammar
    (cond (eqb n 2) TextTooLong
    (cond (eqb n 3) (BadOpening (offset at))
    (cond (eqb n 4) (BadBody (offset at))
    (cond (eqb n 5) (BadClosing (offset at))
    (cond (eqb n 6) (LabelTooLong (offset at))
    (cond (eqb n 7) (LabelsDiffer (offset at))
    (cond (eqb n 8) (BadCounts (offset at))
    (SpareBits (offset at)))))))))

abbrev pub settled : {A : Type 0} → A → A → (Refusal → A) → ℕ → ℕ → A
settled accepted small refuse n at = cond (eqb n 0) accepted (cond (eqb n 10) small (refuse (refusal_by n at)))

pub refusal_settled : {A : Type 0} (accepted small : A) (refuse : Refusal → A) (r : Refusal)
    → settled accepted small refuse (refusal_number r) (refusal_place r) ≡ refuse r
refusal_settled accepted small refuse UnknownGrammar = refl
refusal_settled accepted small refuse TextTooLong = refl
refusal_settled accepted small refuse (BadOpening at) = refl
refusal_settled accepted small refuse (BadBody at) = refl
refusal_settled accepted small refuse (BadClosing at) = refl
refusal_settled accepted small refuse (LabelTooLong at) = refl
refusal_settled accepted small refuse (LabelsDiffer at) = refl
refusal_settled accepted small refuse (BadCounts at) = refl
refusal_settled accepted small refuse (SpareBits at) = refl

abbrev code_of : ReadAnswer → List ℕ
code_of a = number_of a ∷ place_of a ∷ size_of a ∷ label_offset_of a ∷ label_length_of a ∷ label_family_of a ∷ line_style_of a ∷ []

abbrev family_by : ℕ → Option Family
family_by n =
    cond (eqb n 0) None
    (cond (eqb n 1) (Some Certificate)
    (cond (eqb n 2) (Some X509Crl)
    (cond (eqb n 3) (Some CertificateRequest)
    (cond (eqb n 4) (Some Pkcs7)
    (cond (eqb n 5) (Some Cms)
    (cond (eqb n 6) (Some PrivateKey)
    (cond (eqb n 7) (Some EncryptedPrivateKey)
    (cond (eqb n 8) (Some AttributeCertificate)
    (Some PublicKey)))))))))

family_coded : (family : Option Family) → family_by (family_told family) ≡ family
family_coded None = refl
family_coded (Some Certificate) = refl
family_coded (Some X509Crl) = refl
family_coded (Some CertificateRequest) = refl
family_coded (Some Pkcs7) = refl
family_coded (Some Cms) = refl
family_coded (Some PrivateKey) = refl
family_coded (Some EncryptedPrivateKey) = refl
family_coded (Some AttributeCertificate) = refl
family_coded (Some PublicKey) = refl

abbrev found_by : List ℕ → Found
found_by l = record { size = byte_count (get_or l 2 0); label = span (get_or l 3 0) (get_or l 4 0); family = family_by (get_or l 5 0) }

abbrev style_by : ℕ → LineStyle
style_by n = cond (eqb n 0) NoLineEnd (cond (eqb n 1) (Only Lf) (cond (eqb n 2) (Only CrLf) (cond (eqb n 3) (Only Cr) Mixed)))

style_coded : (e : LineStyle) → style_by (style_number e) ≡ e
style_coded NoLineEnd = refl
style_coded (Only Lf) = refl
style_coded (Only CrLf) = refl
style_coded (Only Cr) = refl
style_coded Mixed = refl

abbrev answer_by : List ℕ → ReadAnswer
answer_by l = settled (Ok record { found = found_by l; style = style_by (get_or l 6 0) }) (Err (TooSmall (found_by l))) (λ r. Err (Refused r)) (get_or l 0 0) (get_or l 1 0)

found_coded : (f : Found) → record { size = f.size; label = f.label; family = family_by (family_told f.family) } ≡ f
found_coded f = λ i. record { size = f.size; label = f.label; family = family_coded f.family i }

answer_coded : (a : ReadAnswer) → answer_by (code_of a) ≡ a
answer_coded (Ok a) = λ i. Ok record { found = found_coded a.found i; style = style_coded a.style i }
answer_coded (Err (TooSmall found)) = λ i. Err (TooSmall (found_coded found i))
answer_coded (Err (Refused r)) = refusal_settled _ _ (λ q. Err (Refused q)) r

answer_unique : (a b : ReadAnswer) → code_of a ≡ code_of b → a ≡ b
answer_unique a b e = sym (answer_coded a) ∙ ap answer_by e ∙ answer_coded b

-- ---- Rows are tested one by one

-- Two lists that the test finds equal.
pub tested_same : (a b : List ℕ) → T (same_bytes a b) → a ≡ b
tested_same a b t = same_true a b (test_true (same_bytes a b) t)
  where
    test_true : (b : Bool) → T b → b ≡ true
    test_true true t = refl
    test_true false t = absurd t

abbrev row_test : {Outcome : Type 0} → (ℕ → List ℕ → Outcome → Bool) → Row Outcome → Bool
row_test test r =
    both (test lax_number r.text r.lax) (both (test standard_number r.text r.standard) (test strict_number r.text r.strict))

abbrev pub rows_test : {Outcome : Type 0} → (ℕ → List ℕ → Outcome → Bool) → List (Row Outcome) → Bool
rows_test test [] = true
rows_test test (r ∷ rs) = both (row_test test r) (rows_test test rs)

-- Where the test of an outcome tells that it holds, that of a list of rows tells that they do.
pub rows_hold : {Outcome : Type 0} (test : ℕ → List ℕ → Outcome → Bool) (Has : ℕ → List ℕ → Outcome → Type 0)
    → ((number : ℕ) (text : List ℕ) (o : Outcome) → T (test number text o) → Has number text o) → (rs : List (Row Outcome)) → T (rows_test test rs)
    → All (RowHolds Has) rs
rows_hold test Has sound [] t = tt
rows_hold test Has sound (r ∷ rs) t =
    let u : T (row_test test r) = both_left (row_test test r) (rows_test test rs) t in
    let lax = test lax_number r.text r.lax in
    let standard = test standard_number r.text r.standard in
    let strict = test strict_number r.text r.strict in
    let v : T (both standard strict) = both_right lax (both standard strict) u in (
      (
        sound lax_number r.text r.lax (both_left lax (both standard strict) u),
        sound standard_number r.text r.standard (both_left standard strict v),
        sound strict_number r.text r.strict (both_right standard strict v),
      ),
      rows_hold test Has sound rs (both_right (row_test test r) (rows_test test rs) t),
    )

-- ---- The samples of the read call

abbrev outcome_test : ℕ → List ℕ → Outcome → Bool
outcome_test number text o =
    both (same_bytes (code_of (read_of text number room)) (code_of (answer_for o))) (same_bytes (output_of text number room) (output_for o))

outcome_holds : (number : ℕ) (text : List ℕ) (o : Outcome) → T (outcome_test number text o) → Holds number text o
outcome_holds number text o t =
    let codes : Bool = same_bytes (code_of (read_of text number room)) (code_of (answer_for o)) in
    let outputs : Bool = same_bytes (output_of text number room) (output_for o) in
    let a : read_of text number room ≡ answer_for o = answer_unique _ _ (tested_same _ _ (both_left codes outputs t)) in
    let p : output_of text number room ≡ output_for o = tested_same _ _ (both_right codes outputs t) in
    rw (a, p) at (read_means text number room)

pub samples : Samples
unfolding family_in value_of place_in alphabet characters pad_count same_bytes
samples = rows_hold outcome_test Holds outcome_holds (rows ++ (split_pads ++ (spare_bits ++ (line_ends ++ families)))) tt
