-- Samples of the write call, as one list under one claim: M of the requirements, lines at their limit, each style, and the refusals
-- 10 to 13 and 20.
-- Assumes nothing.
use Rattle.std.specs.Prelude.{List, [], ◌∷◌, ◌++◌, ℕ, replicate, Ok, Err}
use Rattle.output.specs.declared.CallError.TheVariants.{Refused, TooSmall}
use Rattle.base_64.specs.Lists.{All}
use Rattle.grammar.specs.Samples.{begin_a, end_a, around, M}
use Rattle.writing.specs.Answers.{WriteAnswer, text_size}
use Rattle.writing.specs.Meaning.{Writes}
use Rattle.writing.specs.declared.WriteRefusal.TheVariants.{LabelTooLong, NotALabel, NoData, UnknownStyle}

-- A row: a label and data, the number of a style, the room of the output, the answer and the output.
pub record Row : Type 0 where
  pub label : List ℕ
  pub content : List ℕ
  pub style : ℕ
  pub room : ℕ
  pub answer : WriteAnswer
  pub output : List ℕ

abbrev pub row : List ℕ → List ℕ → ℕ → ℕ → WriteAnswer → List ℕ → Row
row label content style room answer output = record { label = label; content = content; style = style; room = room; answer = answer; output = output }

abbrev pub Holds : Row → Type 0
Holds r = Writes r.label r.content r.style r.room r.answer r.output

-- "A".
abbrev pub A : List ℕ
A = 65 ∷ []

-- Two line ends, and M's boundaries with one of them around lines.
abbrev pub crlf : List ℕ
crlf = 13 ∷ 10 ∷ []

abbrev pub cr : List ℕ
cr = 13 ∷ []

abbrev pub framed : List ℕ → List ℕ → List ℕ
framed e lines = begin_a ++ (e ++ (lines ++ (end_a ++ e)))

abbrev pub rows : List Row
rows =
    -- M, with room for a byte more and with just its room; the data is 66 hex
    row A (102 ∷ []) 1 40 (Ok (text_size 39)) (M ++ (0 ∷ []))
    ∷ row A (102 ∷ []) 1 39 (Ok (text_size 39)) M
    -- two bytes and three
    ∷ row A (102 ∷ 111 ∷ []) 1 39 (Ok (text_size 39)) (around (10 ∷ 90 ∷ 109 ∷ 56 ∷ 61 ∷ 10 ∷ []))
    ∷ row A (102 ∷ 111 ∷ 111 ∷ []) 1 39 (Ok (text_size 39)) (around (10 ∷ 90 ∷ 109 ∷ 57 ∷ 118 ∷ 10 ∷ []))
    -- 48 bytes fill a line, and no other line follows it; one byte more starts another
    ∷ row A (replicate 48 0) 1 99 (Ok (text_size 99)) (around (10 ∷ (replicate 64 65 ++ (10 ∷ []))))
    ∷ row A (replicate 49 0) 1 104 (Ok (text_size 104)) (around (10 ∷ (replicate 64 65 ++ (10 ∷ 65 ∷ 65 ∷ 61 ∷ 61 ∷ 10 ∷ []))))
    -- 10: one byte less than M needs
    ∷ row A (102 ∷ []) 1 38 (Err (TooSmall (text_size 39))) (replicate 38 0)
    -- 11 before 12: 65 hyphens; 12 before 13: "A-" and no data; 13
    ∷ row (replicate 65 45) (102 ∷ []) 1 2 (Err (Refused LabelTooLong)) (0 ∷ 0 ∷ [])
    ∷ row (65 ∷ 45 ∷ []) [] 1 2 (Err (Refused NotALabel)) (0 ∷ 0 ∷ [])
    ∷ row A [] 1 2 (Err (Refused NoData)) (0 ∷ 0 ∷ [])
    -- CRLF and CR: one byte, 48 and 49
    ∷ row A (102 ∷ []) 2 43 (Ok (text_size 42)) (framed crlf (90 ∷ 103 ∷ 61 ∷ 61 ∷ crlf) ++ (0 ∷ []))
    ∷ row A (102 ∷ []) 3 40 (Ok (text_size 39)) (framed cr (90 ∷ 103 ∷ 61 ∷ 61 ∷ cr) ++ (0 ∷ []))
    ∷ row A (replicate 48 0) 2 102 (Ok (text_size 102)) (framed crlf (replicate 64 65 ++ crlf))
    ∷ row A (replicate 48 0) 3 99 (Ok (text_size 99)) (framed cr (replicate 64 65 ++ cr))
    ∷ row A (replicate 49 0) 2 108 (Ok (text_size 108)) (framed crlf (replicate 64 65 ++ (crlf ++ (65 ∷ 65 ∷ 61 ∷ 61 ∷ crlf))))
    ∷ row A (replicate 49 0) 3 104 (Ok (text_size 104)) (framed cr (replicate 64 65 ++ (cr ++ (65 ∷ 65 ∷ 61 ∷ 61 ∷ cr))))
    -- 10: one byte less than M needs under CRLF
    ∷ row A (102 ∷ []) 2 41 (Err (TooSmall (text_size 42))) (replicate 41 0)
    -- 20: other numbers; 13 before it, and it before 10
    ∷ row A (102 ∷ []) 0 40 (Err (Refused UnknownStyle)) (replicate 40 0)
    ∷ row A (102 ∷ []) 4 40 (Err (Refused UnknownStyle)) (replicate 40 0)
    ∷ row A (102 ∷ []) 257 2 (Err (Refused UnknownStyle)) (0 ∷ 0 ∷ [])
    ∷ row A (102 ∷ []) 4294967295 2 (Err (Refused UnknownStyle)) (0 ∷ 0 ∷ [])
    ∷ row A [] 4 2 (Err (Refused NoData)) (0 ∷ 0 ∷ [])
    ∷ []

-- The claim.
abbrev pub Samples : Type 0
Samples = All Holds rows
