-- The line ends of a text, whatever else it holds: their kinds, what they say together, and the numbers of both.
-- (The requirements' change request K7; style is its term.) Assumes nothing.
use Rattle.std.specs.Prelude.{◌≡◌, ◌≢◌, cond, List, [], ◌∷◌, ◌++◌, ℕ, eqb, Option, Some, None}
use Rattle.base_64.specs.Lists.{All}
use Rattle.grammar.specs.Marks.{CR, LF, LineEnd}
use Rattle.grammar.specs.declared.LineEnding.{LineEnding}
use Rattle.grammar.specs.declared.LineEnding.TheVariants.{Lf, CrLf, Cr}
use Rattle.grammar.specs.declared.LineStyle.{LineStyle}
use Rattle.grammar.specs.declared.LineStyle.TheVariants.{NoLineEnd, Only, Mixed}

-- The bytes of a line end of each kind.
abbrev pub line_end : LineEnding → List ℕ
line_end Lf = LF ∷ []
line_end CrLf = CR ∷ LF ∷ []
line_end Cr = CR ∷ []

-- The line ends of a text, by their kinds and in their order: every CR and every LF is of one, wherever it stands, and CR
-- followed by LF is one (`LineEnd`). VT and FF are none.
pub data LineEnds : List ℕ → List LineEnding → Type 0 where
  none : LineEnds [] []
  other : {c : ℕ} {l : List ℕ} {ss : List LineEnding} → c ≢ CR → c ≢ LF → LineEnds l ss → LineEnds (c ∷ l) ss
  ended : {rest : List ℕ} {ss : List LineEnding} (s : LineEnding) → LineEnd (line_end s) rest → LineEnds rest ss → LineEnds (line_end s ++ rest) (s ∷ ss)

-- The claim: each text has one list of line ends.
pub record OneListOfLineEnds : Type 0 where
  pub some : (text : List ℕ) → (ss : List LineEnding) × LineEnds text ss
  pub one : (text : List ℕ) (ss ts : List LineEnding) → LineEnds text ss → LineEnds text ts → ss ≡ ts

-- ---- Numbers

-- The kinds are called by number, and an unknown number is an ordinary input.
abbrev pub line_ending_number : LineEnding → ℕ
line_ending_number Lf = 1
line_ending_number CrLf = 2
line_ending_number Cr = 3

abbrev pub line_ending_of : ℕ → Option LineEnding
line_ending_of n =
    cond (eqb n (line_ending_number Lf)) (Some Lf)
    (cond (eqb n (line_ending_number CrLf)) (Some CrLf)
    (cond (eqb n (line_ending_number Cr)) (Some Cr)
    None))

-- 0 none, 1 LF, 2 CRLF, 3 CR, 4 mixed.
abbrev pub style_number : LineStyle → ℕ
style_number NoLineEnd = 0
style_number (Only s) = line_ending_number s
style_number Mixed = 4

-- ---- The style of a list of line ends

-- Behind one of this kind: that kind where all agree with it.
abbrev pub agreeing : LineEnding → List LineEnding → LineStyle
agreeing s [] = Only s
agreeing s (t ∷ ts) = cond (eqb (line_ending_number t) (line_ending_number s)) (agreeing s ts) Mixed

-- None, the kind where all agree, mixed otherwise.
abbrev pub style_of : List LineEnding → LineStyle
style_of [] = NoLineEnd
style_of (s ∷ ss) = agreeing s ss

-- The claim: it is none of the empty list and of no other, and a kind where there are line ends and each is of that kind, and only
-- there.
pub record StyleMeans : Type 0 where
  pub empty : style_of [] ≡ NoLineEnd
  pub none : (ss : List LineEnding) → style_of ss ≡ NoLineEnd → ss ≡ []
  pub only : (s : LineEnding) (ss : List LineEnding) → style_of ss ≡ Only s → All (λ t. t ≡ s) ss
  pub alike : (s : LineEnding) (ss : List LineEnding) → ss ≢ [] → All (λ t. t ≡ s) ss → style_of ss ≡ Only s
