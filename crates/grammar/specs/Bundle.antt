-- A bundle: zero or more messages of one grammar, end to end, filling the text; its list and its index table.
-- Assumes nothing.
use Rattle.std.specs.Prelude.{◌≡◌, List, [], ◌∷◌, ◌++◌, map, ℕ, ◌+◌, length}
use Rattle.base_64.specs.Lists.{All}
use Rattle.grammar.specs.Marks.{begin}
use Rattle.grammar.specs.Families.{family_of, family_told}
use Rattle.grammar.specs.Message.{Reading, text_of, Shape, Consistent, data_of}
use Rattle.grammar.specs.declared.Grammar.{Grammar}

-- The messages joined.
abbrev pub joined_text : List Reading → List ℕ
joined_text [] = []
joined_text (r ∷ rs) = text_of r ++ joined_text rs

-- White between two messages belongs to the earlier, so nothing stands before a later opening.
pub record Later (g : Grammar) (r : Reading) : Type 0 where
  pub shape : Shape g r
  pub none_before : r.before ≡ []

-- White before the first message belongs to the first.
abbrev pub Shapes : Grammar → List Reading → Type 0
Shapes g [] = Unit {0}
Shapes g (r ∷ rs) = Shape g r × All (Later g) rs

-- An item of the list: a label and its data.
pub record Item : Type 0 where
  pub label : List ℕ
  pub content : List ℕ

abbrev pub item_of : Reading → Item
item_of r = record { label = r.opening_label; content = data_of r }

-- The numbers of a message that starts at an offset of the text: start, length, label offset, label length, data size and
-- family. (The requirements' tables have five numbers for a message; change request K6 adds the sixth.)
abbrev pub entry_of : ℕ → Reading → List ℕ
entry_of start r =
    start
    ∷ length (text_of r)
    ∷ (start + (length r.before + length begin))
    ∷ length r.opening_label
    ∷ length (data_of r)
    ∷ family_told (family_of r.opening_label)
    ∷ []

-- The numbers of messages end to end, of which the first starts at an offset of the text.
abbrev pub entries_from : ℕ → List Reading → List ℕ
entries_from start [] = []
entries_from start (r ∷ rs) = entry_of start r ++ entries_from (start + length (text_of r)) rs

-- The index table: the count, then the numbers of each message. The first message starts at 0.
abbrev pub table_of : List Reading → List ℕ
table_of rs = length rs ∷ entries_from 0 rs

-- Under the grammar the text, read as a bundle, has this list and this index table.
pub record Bundle (g : Grammar) (text : List ℕ) (list : List Item) (table : List ℕ) : Type 0 where
  pub readings : List Reading
  pub joined : text ≡ joined_text readings
  pub shapes : Shapes g readings
  pub consistent : All (Consistent g) readings
  pub has_list : list ≡ map item_of readings
  pub has_table : table ≡ table_of readings
