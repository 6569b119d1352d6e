-- What the numbers 0 to 10 of the read call mean, row by row in the requirements' order and in the grammars' relations.
-- Assumes nothing.
use Rattle.std.specs.Prelude.{◌≡◌, ◌≢◌, List, [], ◌∷◌, ◌++◌, ℕ, ◌+◌, ◌-◌, ◌≤◌, ◌<◌, length, take, drop, replicate, Some, None, Ok, Err}
use Rattle.std.specs.Borrow.{Bor}
use Rattle.base_64.specs.Lists.{All}
use Rattle.base_64.specs.Alphabet.{AlphabetChar}
use Rattle.base_64.specs.Groups.{CountsFit}
use Rattle.grammar.specs.Marks.{begin, end, opening}
use Rattle.grammar.specs.LineEnds.{LineEnds, style_of}
use Rattle.grammar.specs.Families.{family_of}
use Rattle.grammar.specs.Grammars.{grammar_of}
use Rattle.grammar.specs.Message as message
use Rattle.grammar.specs.Message.{Reading, text_of, Shape, characters, pad_count, Consistent, data_of}
use Rattle.grammar.specs.Starts.{Parse, LongestStart, HasOpening, HasClosing}
use Rattle.grammar.specs.declared.LineEnding.{LineEnding}
use Rattle.grammar.specs.declared.Grammar.{Grammar}
use Rattle.output.specs.declared.CallError.TheVariants.{Refused, TooSmall}
use Rattle.reading.specs.Limits.{text_limit, label_limit}
use Rattle.reading.specs.Answers.{offset, byte_count, span, ReadAnswer}
use Rattle.reading.specs.Parts.{OwnPart}
use Rattle.reading.specs.declared.Found.{Found}
use Rattle.reading.specs.declared.Refusal.{Refusal}
use Rattle.reading.specs.declared.Refusal.TheVariants.{UnknownGrammar, TextTooLong, BadOpening, BadBody, BadClosing, LabelTooLong, LabelsDiffer, BadCounts, SpareBits}

-- Where the parts of a reading start in its text.
abbrev pub label_start : Reading → ℕ
label_start r = length r.before + length begin

abbrev pub body_start : Reading → ℕ
body_start r = length r.before + length (opening r.opening_label)

abbrev pub closing_start : Reading → ℕ
closing_start r = body_start r + length r.body

abbrev pub closing_label_start : Reading → ℕ
closing_label_start r = closing_start r + length end

-- Checks 1 and 2 pass: the number is that of a grammar, and the text is within the limit.
pub record Admitted (text : List ℕ) (number : ℕ) (g : Grammar) : Type 0 where
  pub known : grammar_of number ≡ Some g
  pub short : length text ≤ text_limit

-- Checks 1 to 5 pass: the text has this reading under the grammar.
pub record Parsed (text : List ℕ) (number : ℕ) (g : Grammar) (r : Reading) : Type 0 where
  pub admitted : Admitted text number g
  pub joined : text ≡ text_of r
  pub shape : Shape g r

-- Checks 3 to 5: the text is none of the grammar, and n is the length of its longest start.
pub record Broken (text : List ℕ) (number : ℕ) (g : Grammar) (n : ℕ) : Type 0 where
  pub admitted : Admitted text number g
  pub none : ¬ Parse g text
  pub longest : LongestStart (Parse g) text n

-- Checks 6 to 9 pass.
pub record Sound (g : Grammar) (r : Reading) : Type 0 where
  pub short_label : length r.opening_label ≤ label_limit
  pub consistent : Consistent g r

-- Checks 1 to 9 pass.
pub record Passed (text : List ℕ) (number : ℕ) (g : Grammar) (r : Reading) : Type 0 where
  pub parsed : Parsed text number g r
  pub sound : Sound g r

-- The list has no alphabet character.
abbrev pub NoCharacter : List ℕ → Type 0
NoCharacter l = All (λ c. ¬ AlphabetChar c) l

-- The rows 1 and 2.
pub data NotAdmitted (text : List ℕ) (number : ℕ) : Refusal → Type 0 where
  -- 1: grammar number not 1, 2 or 3
  unknown_grammar : grammar_of number ≡ None → NotAdmitted text number UnknownGrammar
  -- 2: text over 16,777,216 bytes (K4; before it, "text over 65,536 bytes")
  text_too_long : (g : Grammar) → grammar_of number ≡ Some g → text_limit < length text → NotAdmitted text number TextTooLong

-- The rows 3 to 5, of a message that was begun: its longest start, and the place where that ends.
pub data GrammarFails (g : Grammar) (start : List ℕ) (place : ℕ) : Refusal → Type 0 where
  -- 3: that start lacks the whole opening
  bad_opening : ¬ HasOpening g start → GrammarFails g start place (BadOpening (offset place))
  -- 4: between
  bad_body : HasOpening g start → ¬ HasClosing g start → GrammarFails g start place (BadBody (offset place))
  -- 5: that start has at least the first hyphen of the closing
  bad_closing : HasClosing g start → GrammarFails g start place (BadClosing (offset place))

-- The rows 6 to 9, of a message that starts at an offset of the text.
pub data MessageFails (g : Grammar) (from : ℕ) (r : Reading) : Refusal → Type 0 where
  -- 6: opening label over 64 bytes; its first byte
  label_too_long : label_limit < length r.opening_label → MessageFails g from r (LabelTooLong (offset (from + label_start r)))
  -- 7: labels differ; where the closing label starts
  labels_differ : length r.opening_label ≤ label_limit → r.opening_label ≢ r.closing_label
      → MessageFails g from r (LabelsDiffer (offset (from + closing_label_start r)))
  -- 8: n and p do not fit; first hyphen of the closing
  bad_counts : length r.opening_label ≤ label_limit → r.opening_label ≡ r.closing_label
      → ¬ CountsFit (length (characters r.body)) (pad_count r.body) → MessageFails g from r (BadCounts (offset (from + closing_start r)))
  -- 9: spare bits not zero, grammars 2 and 3 (K8; before it, "grammar 3"); last alphabet character
  spare_bits : length r.opening_label ≤ label_limit → r.opening_label ≡ r.closing_label
      → CountsFit (length (characters r.body)) (pad_count r.body) → ¬ message.SpareBits g (characters r.body)
      → (a : List ℕ) (c : ℕ) (b : List ℕ) → r.body ≡ a ++ (c ∷ b) → AlphabetChar c → NoCharacter b
      → MessageFails g from r (SpareBits (offset (from + body_start r + length a)))

-- The rows 1 to 9 of a text that is to be one message.
pub data Refuses (text : List ℕ) (number : ℕ) : Refusal → Type 0 where
  not_admitted : {refusal : Refusal} → NotAdmitted text number refusal → Refuses text number refusal
  grammar_fails : {refusal : Refusal} (g : Grammar) (n : ℕ) → Broken text number g n → GrammarFails g (take n text) n refusal
      → Refuses text number refusal
  message_fails : {refusal : Refusal} (g : Grammar) (r : Reading) → Parsed text number g r → MessageFails g 0 r refusal
      → Refuses text number refusal

-- What is reported of a reading: the data's length, the label's offset and length, and its family (K6).
abbrev pub found_of : Reading → Found
found_of r =
    record {
      size = byte_count (length (data_of r));
      label = span (label_start r) (length r.opening_label);
      family = family_of r.opening_label;
    }

-- The answer of the read call, and its output of `room` bytes.
pub data Reads (text : List ℕ) (number room : ℕ) : ReadAnswer → List ℕ → Type 0 where
  -- 0: accepted; the data, and then zeros; the style of all line ends of the text (K7)
  accepted : (g : Grammar) (r : Reading) → Passed text number g r → length (data_of r) ≤ room → (ss : List LineEnding) → LineEnds text ss
      → Reads text number room (Ok record { found = found_of r; style = style_of ss }) (data_of r ++ replicate (room - length (data_of r)) 0)
  -- 1 to 9: zeros only, no family and no style
  refused : {refusal : Refusal} → Refuses text number refusal → Reads text number room (Err (Refused refusal)) (replicate room 0)
  -- 10: lent output too small; zeros only, and no style
  output_too_small : (g : Grammar) (r : Reading) → Passed text number g r → room < length (data_of r)
      → Reads text number room (Err (TooSmall (found_of r))) (replicate room 0)

-- The part that the label call hands back.
pub data HandsBack (text : List ℕ) (number : ℕ) : List ℕ → Type 0 where
  -- the opening label, as that part of the text where it stands
  label : (g : Grammar) (r : Reading) → Passed text number g r → take (length r.opening_label) (drop (label_start r) text) ≡ r.opening_label
      → HandsBack text number (take (length r.opening_label) (drop (label_start r) text))
  -- where checks 1 to 9 refuse, the empty part; where it starts is left free
  none : {refusal : Refusal} → Refuses text number refusal → HandsBack text number []

-- The same part by its offset and its length.
pub data HandsBackPlace (text : List ℕ) (number : ℕ) : (at n : ℕ) → Type 0 where
  -- the opening label, where it stands
  stands : (g : Grammar) (r : Reading) → Passed text number g r → take (length r.opening_label) (drop (label_start r) text) ≡ r.opening_label
      → HandsBackPlace text number (label_start r) (length r.opening_label)
  -- where checks 1 to 9 refuse, an empty part; where it starts is left free
  empty : {refusal : Refusal} → Refuses text number refusal → (at : ℕ) → HandsBackPlace text number at 0

-- What the label call hands back: that part of the lent text itself, with its address.
pub record HandsBackPart (text : Bor (List ℕ)) (number : ℕ) (part : Bor (List ℕ)) : Type 0 where
  pub at : ℕ
  pub hands_back : HandsBackPlace text.now number at (length part.now)
  pub is_part : OwnPart text at (length part.now) part
