-- Demand 3 of the requirements, as one claim about whole texts and lists of any number of messages. What it says of the calls is
-- said of the definitions that their promises equal. Assumes nothing.
use Rattle.std.specs.Prelude.{◌≡◌, List, ℕ}
use Rattle.grammar.specs.Bundle.{Item, Bundle}
use Rattle.grammar.specs.declared.Grammar.{Grammar}
use Rattle.grammar.specs.declared.Grammar.TheVariants.{Lax, Standard, Strict}
use Rattle.indexing.specs.Claims.{Alike, ZeroExactly}
use Rattle.writing.specs.Claims.{OneList}

pub record Demand3 : Type 0 where
  -- Every text of any length, read as a bundle, has under each grammar at most one list of labels and data and at most one index
  -- table.
  pub unique : (g : Grammar) (text : List ℕ) (list list' : List Item) (table table' : List ℕ) → Bundle g text list table
      → Bundle g text list' table' → (list ≡ list') × (table ≡ table')
  -- If strict accepts it, standard accepts it, with the same list and the same table, number for number (six for each message, K6);
  pub strict_to_standard : (text : List ℕ) (list : List Item) (table : List ℕ) → Bundle Strict text list table → Bundle Standard text list table
  -- and if standard does, lax does.
  pub standard_to_lax : (text : List ℕ) (list : List Item) (table : List ℕ) → Bundle Standard text list table → Bundle Lax text list table
  -- Whatever the text, the index call answers alike under all grammars that accept it, given the same room.
  pub alike : Alike
  -- It answers 0, with the text's index table, exactly when its grammar accepts the text, no label is over 64 bytes, the text is
  -- within the limit and the table fits.
  pub zero_exactly : ZeroExactly
  -- Whatever two lists of labels and data the writer takes, if their written texts joined are equal, they are the same list,
  -- whichever of the three styles each item is written in (K7).
  pub one_list : OneList
