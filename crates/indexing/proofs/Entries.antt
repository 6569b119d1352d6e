-- The entries of messages end to end hold the numbers of their index table. Assumes nothing.
use mathlib.Core.Path.{◌≡◌, refl, sym, ap, ◌∙◌}
use mathlib.Core.List.{List, [], ◌∷◌, ◌++◌}
use Prim.Native.Nat.{ℕ, suc, ◌+◌, ◌*◌}
use lib.ListN.{length, length-append}
use native.Mathlib.Omega.{arith}
use native.Mathlib.Nat.{add-zero}
use Rattle.grammar.specs.Message.{Reading, text_of}
use Rattle.grammar.specs.Bundle.{joined_text, entry_of, entries_from, table_of}
use Rattle.reading.proofs.Judgements.{reading_found}
use Rattle.indexing.specs.Answers.{entry_numbers, size_for}
use Rattle.indexing.specs.Index.{numbers_of_all, entry_in}
use Rattle.indexing.specs.declared.Entry.{Entry}

-- The entry of a message that starts at an offset, and those of messages end to end.
abbrev pub entry_at : ℕ → Reading → Entry
entry_at from r = entry_in from (length (text_of r)) (reading_found from r)

abbrev pub entries_at : ℕ → List Reading → List Entry
entries_at from [] = []
entries_at from (r ∷ rs) = entry_at from r ∷ entries_at (from + length (text_of r)) rs

pub entries_length : (from : ℕ) (rs : List Reading) → length (entries_at from rs) ≡ length rs
entries_length from [] = refl
entries_length from (r ∷ rs) = ap suc (entries_length (from + length (text_of r)) rs)

pub entries_numbers : (from : ℕ) (rs : List Reading) → numbers_of_all (entries_at from rs) ≡ entries_from from rs
entries_numbers from [] = refl
entries_numbers from (r ∷ rs) = ap (λ l. entry_of from r ++ l) (entries_numbers (from + length (text_of r)) rs)

-- One message more.
pub entries_more : (from : ℕ) (rs : List Reading) (r : Reading)
    → entries_at from (rs ++ (r ∷ [])) ≡ entries_at from rs ++ (entry_at (from + length (joined_text rs)) r ∷ [])
entries_more from [] r = ap (λ n. entry_at n r ∷ []) (sym (add-zero from))
entries_more from (s ∷ rs) r =
    let n : from + length (text_of s) + length (joined_text rs) ≡ from + length (text_of s ++ joined_text rs) = omega (arith, length-append (text_of s) (joined_text rs)) in
    ap (λ l. entry_at from s ∷ l) (entries_more (from + length (text_of s)) rs r ∙ ap (λ k. entries_at (from + length (text_of s)) rs ++ (entry_at k r ∷ [])) n)

-- A message has six numbers, so the table has the size that the count asks for.
pub numbers_length : (es : List Entry) → length (numbers_of_all es) ≡ entry_numbers * length es
numbers_length [] = refl
numbers_length (e ∷ es) = omega (arith, numbers_length es)

pub table_size_lem : (rs : List Reading) → length (table_of rs) ≡ size_for (length rs)
table_size_lem rs = omega (arith, ap length (entries_numbers 0 rs), numbers_length (entries_at 0 rs), entries_length 0 rs)
