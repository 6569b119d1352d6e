-- The starts of texts: how far a text could still have become one of the grammar. Labels that differ or are too long, counts,
-- spare bits and limits play no part here; what a label may be does. Assumes nothing.
use Rattle.std.specs.Prelude.{◌≡◌, List, ◌∷◌, ◌++◌, ℕ, ◌≤◌, ◌<◌, length, take}
use Rattle.grammar.specs.Marks.{hyphen, opening, Label}
use Rattle.grammar.specs.Grammars.{Before, Body}
use Rattle.grammar.specs.Message.{Reading, text_of, Shape}
use Rattle.grammar.specs.Bundle.{joined_text, Shapes}
use Rattle.grammar.specs.declared.Grammar.{Grammar}

-- The text is one message of the grammar alone.
pub record Parse (g : Grammar) (text : List ℕ) : Type 0 where
  pub reading : Reading
  pub joined : text ≡ text_of reading
  pub shape : Shape g reading

-- The text is messages of the grammar alone, end to end.
pub record BundleParse (g : Grammar) (text : List ℕ) : Type 0 where
  pub readings : List Reading
  pub joined : text ≡ joined_text readings
  pub shapes : Shapes g readings

-- Some text of a kind begins with this start.
pub record Begins (Text : List ℕ → Type 0) (start : List ℕ) : Type 0 where
  pub rest : List ℕ
  pub whole : Text (start ++ rest)

-- The length of the longest start of the text that some text of a kind begins with. (Longest start is the requirements' term.)
pub record LongestStart (Text : List ℕ → Type 0) (text : List ℕ) (n : ℕ) : Type 0 where
  pub within : n ≤ length text
  pub begins : Begins Text (take n text)
  pub longest : (m : ℕ) → n < m → m ≤ length text → ¬ Begins Text (take m text)

-- A start that has the whole opening.
pub record HasOpening (g : Grammar) (start : List ℕ) : Type 0 where
  pub before : List ℕ
  pub label : List ℕ
  pub rest : List ℕ
  pub joined : start ≡ before ++ (opening label ++ rest)
  pub is_before : Before g before
  pub is_label : Label label

-- A start that has at least the first hyphen of the closing.
pub record HasClosing (g : Grammar) (start : List ℕ) : Type 0 where
  pub before : List ℕ
  pub label : List ℕ
  pub body : List ℕ
  pub rest : List ℕ
  pub joined : start ≡ before ++ (opening label ++ (body ++ (hyphen ∷ rest)))
  pub is_before : Before g before
  pub is_label : Label label
  pub is_body : Body g body
