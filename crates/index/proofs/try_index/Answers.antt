-- Assumes nothing.
use Rattle.std.proofs.Common.{◌≡◌, ℕ, ◌≤◌, List, length, refl, sym, arith}
use Rattle.std.specs.Prelude.{Ok, Err}
use Rattle.grammar.specs.Grammars.{grammar_of}
use Rattle.reading.specs.Limits.{text_limit}
use Rattle.indexing.specs.Index.{Walk, walk_by, surveyed}
use Rattle.indexing.proofs.Walks.{walk_few}
use Rattle.index.proofs.try_index.Goals as goal

-- The count of a walk is small.
count-few : (number : ℕ) (text : List ℕ) (n : ℕ) → surveyed (walk_by (grammar_of number) text) ≡ Ok n → n ≤ text_limit
count-few number text n = go (walk_by (grammar_of number) text) refl
  where
    go : (w : Walk) → walk_by (grammar_of number) text ≡ w → surveyed w ≡ Ok n → n ≤ text_limit
    go (Ok es) e h = let same : length es ≡ n = cc in omega (arith, walk_few number text es e)
    go (Err refusal) e h = let never : ◌≡◌ {A = ℕ} 0 1 = cc in omega arith

pub size_for-size-requires : goal.size_for-size-requires
size_for-size-requires c = omega (arith, count-few c.args.grammar c.args.text.now _ (sym c.in_ok-count.ensures.0))

pub overflow_cast-table : goal.overflow_cast-table
overflow_cast-table c = omega (arith, count-few c.args.grammar c.args.text.now _ (sym c.in_ok-count.ensures.0))
