-- The samples hold: one test, computed over the rows, says that the definition answers them; and what it answers is what the
-- relations say. Assumes nothing.
use mathlib.Core.Path.{◌≡◌, refl, sym, ap, ◌∙◌}
use mathlib.Core.Bool.{Bool}
use mathlib.Core.List.{List, [], ◌∷◌}
use Prim.Native.Nat.{ℕ}
use lib.Dec.{T}
use lib.ListN.{get_or}
use Rattle.base_64.specs.Lists.{same_bytes}
use Rattle.base_64.specs.Alphabet.{alphabet, place_in, value_of}
use Rattle.base_64.proofs.Tests.{both, both_left, both_right}
use Rattle.grammar.specs.Families.{family_in}
use Rattle.grammar.specs.Message.{characters, pad_count}
use Rattle.reading.proofs.Samples.{settled, refusal_settled, tested_same, rows_hold}
use Rattle.indexing.specs.Answers.{table_size, number_of, place_of, size_of, IndexAnswer}
use Rattle.indexing.specs.Index.{index_of, lent_table}
use Rattle.indexing.specs.Samples.{Outcome, room, answer_for, table_for, Holds, rows, Samples}
use Rattle.std.specs.Prelude.{Ok, Err}
use Rattle.output.specs.declared.CallError.TheVariants.{Refused, TooSmall}
use Rattle.indexing.proofs.Meaning.{index_means}

-- An answer is settled by its three numbers.
abbrev code_of : IndexAnswer → List ℕ
code_of a = number_of a ∷ place_of a ∷ size_of a ∷ []

abbrev answer_by : List ℕ → IndexAnswer
answer_by l = settled (Ok (table_size (get_or l 2 0))) (Err (TooSmall (table_size (get_or l 2 0)))) (λ r. Err (Refused r)) (get_or l 0 0) (get_or l 1 0)

answer_coded : (a : IndexAnswer) → answer_by (code_of a) ≡ a
answer_coded (Ok size) = refl
answer_coded (Err (TooSmall size)) = refl
answer_coded (Err (Refused r)) = refusal_settled _ _ (λ q. Err (Refused q)) r

answer_unique : (a b : IndexAnswer) → code_of a ≡ code_of b → a ≡ b
answer_unique a b e = sym (answer_coded a) ∙ ap answer_by e ∙ answer_coded b

abbrev outcome_test : ℕ → List ℕ → Outcome → Bool
outcome_test number text o =
    both (same_bytes (code_of (index_of text number room)) (code_of (answer_for o))) (same_bytes (lent_table text number room) (table_for o))

outcome_holds : (number : ℕ) (text : List ℕ) (o : Outcome) → T (outcome_test number text o) → Holds number text o
outcome_holds number text o t =
    let codes : Bool = same_bytes (code_of (index_of text number room)) (code_of (answer_for o)) in
    let tables : Bool = same_bytes (lent_table text number room) (table_for o) in
    let a : index_of text number room ≡ answer_for o = answer_unique _ _ (tested_same _ _ (both_left codes tables t)) in
    let p : lent_table text number room ≡ table_for o = tested_same _ _ (both_right codes tables t) in
    rw (a, p) at (index_means text number room)

pub samples : Samples
unfolding family_in value_of place_in alphabet characters pad_count same_bytes
samples = rows_hold outcome_test Holds outcome_holds rows tt
