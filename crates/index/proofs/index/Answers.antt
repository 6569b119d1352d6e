-- Where the call fails, its table is to be zeros. Assumes nothing.
use Rattle.std.proofs.Common.{◌≡◌, ℕ, ◌-◌, Bool, true, false, cond, List, ◌∷◌, ◌++◌, length, replicate, refl, sym, ap, ◌∙◌}
use Rattle.std.specs.Prelude.{Ok, Err}
use Rattle.std.specs.Result.{is_err}
use mathlib.Core.Bool.{true≢false}
use lib.Dec.{ltb}
use Rattle.grammar.specs.Grammars.{grammar_of}
use Rattle.output.specs.declared.CallError.TheVariants.{TooSmall}
use Rattle.output.proofs.Calls.{ok_holds}
use Rattle.indexing.specs.Answers.{size_for, table_size, IndexAnswer}
use Rattle.indexing.specs.declared.TableSize.{TableSize}
use Rattle.indexing.specs.Index.{numbers_of_all, Walk, walk_by, answered, tabled, index_of, lent_table}
use Rattle.indexing.specs.Meaning.{Indexes}
use Rattle.indexing.proofs.Meaning.{index_means}
use Rattle.index.proofs.index.Goals as goal

failed-zeros : (room : ℕ) (w : Walk) → is_err (answered w room) ≡ true → tabled w room ≡ replicate room 0
failed-zeros room (Err refusal) e = refl
failed-zeros room (Ok es) e = go (ltb room (size_for (length es))) e
  where
    go : (small : Bool) → is_err {T = TableSize} (cond {A = IndexAnswer} small (Err (TooSmall (table_size (size_for (length es))))) (Ok (table_size (size_for (length es))))) ≡ true
        → cond small (replicate room 0) (length es ∷ (numbers_of_all es ++ replicate (room - size_for (length es)) 0)) ≡ replicate room 0
    go true e = refl
    go false e = absurd (true≢false (sym e))

indexes-same : (text : List ℕ) (number room : ℕ) (a : IndexAnswer) (table : List ℕ) → a ≡ index_of text number room → table ≡ lent_table text number room
    → (a ≡ index_of text number room) × (table ≡ lent_table text number room) × Indexes text number room a table
indexes-same text number room a table e f = (e, f, rw (e, f) (index_means text number room))

pub returns-then-is_err : goal.returns-then-is_err
returns-then-is_err c =
    let answer = c.try_index-answer.ensures.answer in
    let failed = sym (ap is_err answer) ∙ sym c.if-is_err.ensures.value in
    let zeros = failed-zeros (length c.args.table.now) (walk_by (grammar_of c.args.grammar) c.args.text.now) failed in
    indexes-same _ _ _ _ _ answer (c.fill.ensures.after (λ y e. e) ∙ rw c.try_index-answer.auto.table (sym zeros))

pub returns-else-is_err : goal.returns-else-is_err
returns-else-is_err c =
    indexes-same _ _ _ _ _ c.try_index-answer.ensures.answer (ok_holds c.try_index-answer.result _ (sym c.if-is_err.ensures.value) c.try_index-answer.ensures.numbers)
