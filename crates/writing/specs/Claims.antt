-- What demands 2 and 3 say of the write call, on the definitions that the promises of the write, read and label calls equal.
-- Assumes nothing.
use Rattle.std.specs.Prelude.{◌≡◌, List, [], ◌∷◌, ◌++◌, ℕ, ◌-◌, ◌≤◌, length, take, replicate, Some, Ok}
use Rattle.base_64.specs.Lists.{All}
use Rattle.base_64.specs.Alphabet.{Octet}
use Rattle.grammar.specs.Marks.{begin}
use Rattle.grammar.specs.LineEnds.{line_ending_number, line_ending_of}
use Rattle.grammar.specs.Families.{family_of}
use Rattle.grammar.specs.Grammars.{grammar_of, strict_number}
use Rattle.grammar.specs.Bundle.{Item}
use Rattle.grammar.specs.declared.LineEnding.{LineEnding}
use Rattle.grammar.specs.declared.LineEnding.TheVariants.{Lf, CrLf, Cr}
use Rattle.grammar.specs.declared.Grammar.{Grammar}
use Rattle.grammar.specs.declared.LineStyle.TheVariants.{Only}
use Rattle.reading.specs.Limits.{text_limit, label_limit}
use Rattle.reading.specs.Answers as reader
use Rattle.reading.specs.Answers.{byte_count, span}
use Rattle.reading.specs.Read.{read_of, output_of, label_of}
use Rattle.writing.specs.Limits.{data_limit}
use Rattle.writing.specs.Answers.{text_size, number_of, size_of}
use Rattle.writing.specs.Text.{written_size}
use Rattle.writing.specs.Meaning.{Refuses, Takes, StrictText}
use Rattle.writing.specs.Write.{write_of, write_output}
use Rattle.writing.specs.declared.WriteRefusal.{WriteRefusal}

-- ---- One message

-- The writer takes a label and data, and the number is that of a style, exactly where none of 11 to 14 and 20 applies.
pub record TakesExactly : Type 0 where
  pub only : (label content : List ℕ) (number : ℕ) (s : LineEnding) → Takes label content → line_ending_of number ≡ Some s → (refusal : WriteRefusal)
      → ¬ Refuses label content number refusal
  pub always : (label content : List ℕ) (number : ℕ) → ((refusal : WriteRefusal) → ¬ Refuses label content number refusal)
      → Takes label content × ((s : LineEnding) × (line_ending_of number ≡ Some s))

-- It answers 0 with this text: so many bytes, and then zeros.
pub record AnswersZero (label content : List ℕ) (number room : ℕ) (text : List ℕ) : Type 0 where
  pub zero : number_of (write_of label content number room) ≡ 0
  pub size : size_of (write_of label content number room) ≡ length text
  pub held : write_output label content number room ≡ text ++ replicate (room - length text) 0

-- The label is a label of at most 64 bytes, the data has 1 to 8,388,608 bytes, the number is that of a style, the text is the strict
-- text of this label and data in that style, and it fits.
pub record Writable (label content : List ℕ) (number room : ℕ) (text : List ℕ) : Type 0 where
  pub takes : Takes label content
  pub style : LineEnding
  pub known : line_ending_of number ≡ Some style
  pub strict : StrictText style text label content
  pub fits : length text ≤ room

-- It answers 0 with a text only where that can be written of this label and data, and always there; and where it answers 0, it is with
-- a text. So it does for each label and data that it takes, in each style, given room for 32 + 2L + 4⌈n/3⌉ + ⌈n/48⌉ bytes (under CRLF
-- more, K7). Data is bytes.
pub record ZeroExactly : Type 0 where
  pub only : (label content : List ℕ) (number room : ℕ) (text : List ℕ) → All Octet content → AnswersZero label content number room text
      → Writable label content number room text
  pub always : (label content : List ℕ) (number room : ℕ) (text : List ℕ) → Writable label content number room text
      → AnswersZero label content number room text
  pub some : (label content : List ℕ) (number room : ℕ) → number_of (write_of label content number room) ≡ 0
      → (text : List ℕ) × AnswersZero label content number room text
  pub each : (label content : List ℕ) (number room : ℕ) (s : LineEnding) → Takes label content → line_ending_of number ≡ Some s
      → written_size s (length label) (length content) ≤ room → number_of (write_of label content number room) ≡ 0

-- The text is the writer's result for the label and data in a style, given room: the call answers 0, and the text is the first
-- bytes of its output, as many as its size says.
pub record Written (s : LineEnding) (label content text : List ℕ) : Type 0 where
  pub room : ℕ
  pub zero : number_of (write_of label content (line_ending_number s) room) ≡ 0
  pub result : text ≡ take (size_of (write_of label content (line_ending_number s) room)) (write_output label content (line_ending_number s) room)

-- The length of the writer's result: 32 + 2L + 4⌈n/3⌉ + ⌈n/48⌉ for a label of L and data of n bytes, and under CRLF a byte more for each line end (K7).
abbrev pub WrittenLength : Type 0
WrittenLength = (s : LineEnding) (label content text : List ℕ) → Written s label content text → length text ≡ written_size s (length label) (length content)

-- Reading what was written returns label, data and style under each of the three grammars, given room, and the label's family:
-- the read call's output holds the data and then zeros, and the label call hands back the label.
abbrev pub ReadsBack : Type 0
ReadsBack =
    (s : LineEnding) (label content text : List ℕ) → All Octet content → Written s label content text
    → (number : ℕ) (g : Grammar) → grammar_of number ≡ Some g → (room : ℕ) → length content ≤ room
    → (read_of text number room ≡ Ok record { found = record { size = byte_count (length content); label = span (length begin) (length label); family = family_of label }; style = Only s })
    × (output_of text number room ≡ content ++ replicate (room - length content) 0)
    × (label_of text number ≡ label)

-- The data that the read call has found in a strict text: the first bytes of its output, as many as its size says.
abbrev pub data_read : List ℕ → ℕ → List ℕ
data_read text room = take (reader.size_of (read_of text strict_number room)) (output_of text strict_number room)

-- Writing what was read, in the style read, restores every accepted strict text of one style whose data is within the writer's
-- limit, given room: the output holds the text and then zeros. (A strict text has line ends, so its style is a kind of them or mixed.
-- Before K7: "every accepted strict LF text".)
abbrev pub Restores : Type 0
Restores =
    (text : List ℕ) (room : ℕ) (s : LineEnding) → reader.number_of (read_of text strict_number room) ≡ 0
    → reader.line_style_of (read_of text strict_number room) ≡ line_ending_number s
    → reader.size_of (read_of text strict_number room) ≤ data_limit → (out_room : ℕ) → length text ≤ out_room
    → (write_of (label_of text strict_number) (data_read text room) (line_ending_number s) out_room ≡ Ok (text_size (length text)))
    × (write_output (label_of text strict_number) (data_read text room) (line_ending_number s) out_room ≡ text ++ replicate (out_room - length text) 0)

-- The largest text that is written. (44,535 bytes in the requirements, before their change request K4; under CRLF each of its
-- 174,765 line ends has a byte more.)
abbrev pub largest : LineEnding → ℕ
largest Lf = 11359735
largest CrLf = 11534500
largest Cr = 11359735

pub record Largest : Type 0 where
  pub most : (s : LineEnding) (label content text : List ℕ) → Written s label content text → length text ≤ largest s
  pub reached : (s : LineEnding) (label content text : List ℕ) → Written s label content text → length label ≡ label_limit → length content ≡ data_limit
      → length text ≡ largest s
  -- so a reader can take it back
  pub readable : (s : LineEnding) → largest s ≤ text_limit

-- ---- Lists of labels and data

-- An item of bytes that the writer takes.
pub record TakesItem (i : Item) : Type 0 where
  pub octets : All Octet i.content
  pub takes : Takes i.label i.content

-- The written texts of the items, each in a style of its own, joined in the list's order.
pub data WrittenList : List Item → List LineEnding → List ℕ → Type 0 where
  none : WrittenList [] [] []
  next : (i : Item) (is : List Item) (s : LineEnding) (ss : List LineEnding) (text rest : List ℕ) → Written s i.label i.content text
      → WrittenList is ss rest → WrittenList (i ∷ is) (s ∷ ss) (text ++ rest)

-- Each list that the writer takes, the empty one included, has its written texts joined, whichever of the three styles each item is
-- written in; and whatever two lists it takes, if their written texts joined are equal, they are the same list.
pub record OneList : Type 0 where
  pub some : (is : List Item) (ss : List LineEnding) → length ss ≡ length is → All TakesItem is → (text : List ℕ) × WrittenList is ss text
  pub same : (is js : List Item) (ss ts : List LineEnding) → All TakesItem is → All TakesItem js → (text : List ℕ)
      → WrittenList is ss text → WrittenList js ts text → is ≡ js
