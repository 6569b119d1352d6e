-- What demands 2 and 3 say of the index call, on the definitions that the call's promise equals. Assumes nothing.
use Rattle.std.specs.Prelude.{◌≡◌, List, ◌++◌, ℕ, ◌-◌, ◌≤◌, length, replicate, Some}
use Rattle.base_64.specs.Lists.{All}
use Rattle.grammar.specs.Grammars.{grammar_of}
use Rattle.grammar.specs.Message.{Reading}
use Rattle.grammar.specs.Bundle.{Item, Bundle}
use Rattle.grammar.specs.Starts.{BundleParse, LongestStart}
use Rattle.grammar.specs.declared.Grammar.{Grammar}
use Rattle.reading.specs.Limits.{text_limit, label_limit}
use Rattle.reading.specs.Meaning.{Admitted}
use Rattle.reading.specs.Claims.{GrammarRefusalNumber}
use Rattle.indexing.specs.Answers.{number_of, place_of, size_of}
use Rattle.indexing.specs.Meaning.{Broken}
use Rattle.indexing.specs.Index.{index_of, lent_table}

-- ---- Demand 2

-- Checks 1 and 2 pass, the text is no bundle of the grammar alone, and the place is the length of the longest start that some bundle
-- begins with.
pub record BrokenBundle (text : List ℕ) (number place : ℕ) : Type 0 where
  pub grammar : Grammar
  pub admitted : Admitted text number grammar
  pub none : ¬ BundleParse grammar text
  pub longest : LongestStart (BundleParse grammar) text place

-- It answers 3, 4 or 5 to such a text only, and names that place; and always where the whole messages before that place have passed
-- the checks 6 to 9, by which they are judged first.
pub record BundlePlace : Type 0 where
  pub only : (text : List ℕ) (number room : ℕ) → GrammarRefusalNumber (number_of (index_of text number room))
      → BrokenBundle text number (place_of (index_of text number room))
  pub always : (text : List ℕ) (number room : ℕ) (g : Grammar) (rs : List Reading) (rest : List ℕ) (k : ℕ) → Broken text number g rs rest k
      → GrammarRefusalNumber (number_of (index_of text number room))

-- ---- Demand 3

-- The grammar of this number accepts the text: it has a list under it as a bundle. No limit plays a part.
pub record Accepts (number : ℕ) (text : List ℕ) : Type 0 where
  pub grammar : Grammar
  pub known : grammar_of number ≡ Some grammar
  pub list : List Item
  pub table : List ℕ
  pub bundle : Bundle grammar text list table

-- Whatever the text, the index call answers alike under all grammars that accept it, given the same room: the same answer,
-- with its number, place and size, and the same numbers in the whole lent table.
abbrev pub Alike : Type 0
Alike =
    (text : List ℕ) (m n room : ℕ) → Accepts m text → Accepts n text
    → (index_of text m room ≡ index_of text n room) × (lent_table text m room ≡ lent_table text n room)

-- It answers 0 with this table: so many numbers, and then zeros.
pub record AnswersZero (text : List ℕ) (number room : ℕ) (table : List ℕ) : Type 0 where
  pub zero : number_of (index_of text number room) ≡ 0
  pub size : size_of (index_of text number room) ≡ length table
  pub held : lent_table text number room ≡ table ++ replicate (room - length table) 0

-- The grammar accepts the text with this index table, no label is over 64 bytes, the text is within the limit and the table
-- fits.
pub record Indexable (text : List ℕ) (number room : ℕ) (table : List ℕ) : Type 0 where
  pub grammar : Grammar
  pub known : grammar_of number ≡ Some grammar
  pub list : List Item
  pub bundle : Bundle grammar text list table
  pub short_labels : All (λ i. length i.label ≤ label_limit) list
  pub short : length text ≤ text_limit
  pub fits : length table ≤ room

-- It answers 0 with a table only where the text is indexable with it, and always there; and where it answers 0, it is with a
-- table.
pub record ZeroExactly : Type 0 where
  pub only : (text : List ℕ) (number room : ℕ) (table : List ℕ) → AnswersZero text number room table → Indexable text number room table
  pub always : (text : List ℕ) (number room : ℕ) (table : List ℕ) → Indexable text number room table → AnswersZero text number room table
  pub some : (text : List ℕ) (number room : ℕ) → number_of (index_of text number room) ≡ 0
      → (table : List ℕ) × AnswersZero text number room table
