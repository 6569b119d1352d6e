-- What demand 2 says of the read call and the label call, on the definitions that their promises equal. Assumes nothing.
use Rattle.std.specs.Prelude.{◌≡◌, List, ◌++◌, ℕ, ◌-◌, ◌≤◌, length, take, drop, replicate, Some}
use Rattle.grammar.specs.Grammars.{grammar_of}
use Rattle.grammar.specs.Message.{Message}
use Rattle.grammar.specs.Starts.{Parse}
use Rattle.grammar.specs.declared.Grammar.{Grammar}
use Rattle.reading.specs.Limits.{text_limit, label_limit}
use Rattle.reading.specs.Answers.{span, number_of, place_of, size_of, label_offset_of, label_length_of}
use Rattle.reading.specs.Meaning.{label_start, Admitted, Broken, Refuses}
use Rattle.reading.specs.Read.{read_of, output_of, label_of}
use Rattle.reading.specs.Label.{label_span_of}
use Rattle.reading.specs.declared.Refusal.{Refusal}

-- ---- Texts that are accepted

-- It answers 0 with this label, which is that part of the text, and this data: so many bytes, and then zeros.
pub record AnswersZero (text : List ℕ) (number room at : ℕ) (label content : List ℕ) : Type 0 where
  pub zero : number_of (read_of text number room) ≡ 0
  pub size : size_of (read_of text number room) ≡ length content
  pub label_offset : label_offset_of (read_of text number room) ≡ at
  pub label_length : label_length_of (read_of text number room) ≡ length label
  pub label_bytes : take (length label) (drop at text) ≡ label
  pub held : output_of text number room ≡ content ++ replicate (room - length content) 0

-- The grammar of this number gives the text this label, which the opening boundary has at this offset, and this data; the label is
-- not over 64 bytes, the text is within the limit and the data fits.
pub record Readable (text : List ℕ) (number room at : ℕ) (label content : List ℕ) : Type 0 where
  pub grammar : Grammar
  pub known : grammar_of number ≡ Some grammar
  pub message : Message grammar text label content
  pub opens : at ≡ label_start message.reading
  pub short_label : length label ≤ label_limit
  pub short : length text ≤ text_limit
  pub fits : length content ≤ room

-- It answers 0 with a label and data only where the text is readable with them, and always there; and where it answers 0, it is
-- with a label and data.
pub record ZeroExactly : Type 0 where
  pub only : (text : List ℕ) (number room at : ℕ) (label content : List ℕ) → AnswersZero text number room at label content
      → Readable text number room at label content
  pub always : (text : List ℕ) (number room at : ℕ) (label content : List ℕ) → Readable text number room at label content
      → AnswersZero text number room at label content
  pub some : (text : List ℕ) (number room : ℕ) → number_of (read_of text number room) ≡ 0
      → (at : ℕ) × ((label : List ℕ) × ((content : List ℕ) × AnswersZero text number room at label content))

-- The label call hands back that label, at that offset, whatever room the data would need, and no bytes where checks 1 to 9 refuse.
pub record LabelExactly : Type 0 where
  pub found : (text : List ℕ) (number room at : ℕ) (label content : List ℕ) → Readable text number room at label content
      → (label_span_of text number ≡ span at (length label)) × (label_of text number ≡ label)
  pub refused : (text : List ℕ) (number : ℕ) (refusal : Refusal) → Refuses text number refusal → (label_span_of text number).length ≡ 0

-- ---- Texts that the grammar refuses

-- The numbers of a grammar refusal.
abbrev pub GrammarRefusalNumber : ℕ → Type 0
GrammarRefusalNumber n = (3 ≤ n) × (n ≤ 5)

-- It answers 3, 4 or 5 only where checks 1 and 2 pass and the text is none of the grammar, and always there. The place is the length
-- of the longest start that some text of the grammar begins with, which for a text cut short is its whole length. Labels that differ,
-- counts, spare bits and the label's limit play no part in it.
pub record PlaceExactly : Type 0 where
  pub only : (text : List ℕ) (number room : ℕ) → GrammarRefusalNumber (number_of (read_of text number room))
      → (g : Grammar) × Broken text number g (place_of (read_of text number room))
  pub always : (text : List ℕ) (number room : ℕ) (g : Grammar) → Admitted text number g → ¬ Parse g text
      → GrammarRefusalNumber (number_of (read_of text number room))
