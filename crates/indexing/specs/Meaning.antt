-- What the numbers 0 to 10 of the index call mean, in the requirements' order and in the grammars' relations. The rows 1 to 9
-- are the reader's, said of the text, of the messages' longest start, or of one message. Assumes nothing.
use Rattle.std.specs.Prelude.{◌≡◌, ◌≢◌, List, [], ◌∷◌, ◌++◌, ℕ, ◌+◌, ◌-◌, ◌≤◌, ◌<◌, length, take, replicate, Ok, Err}
use Rattle.base_64.specs.Lists.{All}
use Rattle.grammar.specs.Message.{Reading, text_of, Shape}
use Rattle.grammar.specs.Bundle.{joined_text, Shapes, table_of}
use Rattle.grammar.specs.Starts.{Parse, BundleParse, Begins, LongestStart}
use Rattle.grammar.specs.declared.Grammar.{Grammar}
use Rattle.reading.specs.Meaning.{Admitted, Sound, NotAdmitted, GrammarFails, MessageFails}
use Rattle.reading.specs.declared.Refusal.{Refusal}
use Rattle.indexing.specs.Answers.{size_for, table_size, IndexAnswer}
use Rattle.output.specs.declared.CallError.TheVariants.{Refused, TooSmall}

-- A message is whole: nothing stands behind it, or a byte that cannot extend it.
abbrev pub Whole : Grammar → Reading → List ℕ → Type 0
Whole g r [] = Unit {0}
Whole g r (c ∷ rest) = ¬ Begins (Parse g) (text_of r ++ (c ∷ []))

-- Each of the messages is whole, with the others and the rest behind it.
abbrev pub AllWhole : Grammar → List Reading → List ℕ → Type 0
AllWhole g [] rest = Unit {0}
AllWhole g (r ∷ rs) rest = Whole g r (joined_text rs ++ rest) × AllWhole g rs rest

-- Messages from the left that were judged before the next: each is whole and has passed. The rest of the text is behind them.
pub record Judged (text : List ℕ) (number : ℕ) (g : Grammar) (rs : List Reading) (rest : List ℕ) : Type 0 where
  pub admitted : Admitted text number g
  pub joined : text ≡ joined_text rs ++ rest
  pub shapes : Shapes g rs
  pub whole : AllWhole g rs rest
  pub sound : All (Sound g) rs

-- Checks 3 to 5 of the next message: the text is no bundle, its longest start has k bytes behind the judged messages, and in
-- them no message is whole.
pub record Broken (text : List ℕ) (number : ℕ) (g : Grammar) (rs : List Reading) (rest : List ℕ) (k : ℕ) : Type 0 where
  pub judged : Judged text number g rs rest
  pub none : ¬ BundleParse g text
  pub longest : LongestStart (BundleParse g) text (length (joined_text rs) + k)
  pub unfinished : (r : Reading) (x : List ℕ) → Shape g r → take k rest ≢ text_of r ++ x

-- The rows 1 to 9 of a text that is to be a bundle. Places are offsets in the whole text.
pub data Refuses (text : List ℕ) (number : ℕ) : Refusal → Type 0 where
  -- 1 and 2 come first
  not_admitted : {refusal : Refusal} → NotAdmitted text number refusal → Refuses text number refusal
  -- 3 to 5 of the next message
  grammar_fails : {refusal : Refusal} (g : Grammar) (rs : List Reading) (rest : List ℕ) (k : ℕ) → Broken text number g rs rest k
      → GrammarFails g (take k rest) (length (joined_text rs) + k) refusal → Refuses text number refusal
  -- 6 to 9 of the next message, which is whole
  message_fails : {refusal : Refusal} (g : Grammar) (rs : List Reading) (r : Reading) (rest : List ℕ)
      → Judged text number g rs (text_of r ++ rest) → Shapes g (rs ++ (r ∷ [])) → Whole g r rest
      → MessageFails g (length (joined_text rs)) r refusal → Refuses text number refusal

-- Checks 1 to 9 pass: the text is these messages, end to end.
pub record Passed (text : List ℕ) (number : ℕ) (g : Grammar) (rs : List Reading) : Type 0 where
  pub admitted : Admitted text number g
  pub joined : text ≡ joined_text rs
  pub shapes : Shapes g rs
  pub sound : All (Sound g) rs

-- The answer of the index call, and its table of `room` numbers.
pub data Indexes (text : List ℕ) (number room : ℕ) : IndexAnswer → List ℕ → Type 0 where
  -- 0: accepted; the messages' index table, and then zeros
  accepted : (g : Grammar) (rs : List Reading) → Passed text number g rs → size_for (length rs) ≤ room
      → Indexes text number room (Ok (table_size (size_for (length rs)))) (table_of rs ++ replicate (room - size_for (length rs)) 0)
  -- 1 to 9: zeros only
  refused : {refusal : Refusal} → Refuses text number refusal → Indexes text number room (Err (Refused refusal)) (replicate room 0)
  -- 10: lent table too small; zeros only
  table_too_small : (g : Grammar) (rs : List Reading) → Passed text number g rs → room < size_for (length rs)
      → Indexes text number room (Err (TooSmall (table_size (size_for (length rs))))) (replicate room 0)
