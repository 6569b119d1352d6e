-- The three grammars: what stands before, between and behind the boundaries of a message. Each part of a body is put in front
-- of the rest of the body, so that a line end can speak of what follows it. Behind the last line end of a body stands the
-- hyphen of the closing, and behind a message nothing or the hyphen of the next opening: there the rest is empty.
-- Assumes nothing.
use Rattle.std.specs.Prelude.{◌≡◌, ◌≢◌, ◌⊎◌, List, [], ◌∷◌, ◌++◌, cond, ℕ, suc, ◌≤◌, eqb, length, replicate, Option, Some, None}
use Rattle.base_64.specs.Lists.{All}
use Rattle.base_64.specs.Alphabet.{AlphabetChar, pad}
use Rattle.grammar.specs.Marks.{Blank, White, LineEnd}
use Rattle.grammar.specs.declared.Grammar.{Grammar}
use Rattle.grammar.specs.declared.Grammar.TheVariants.{Lax, Standard, Strict}

-- They are called by number, and an unknown number is an ordinary input.
abbrev pub lax_number : ℕ
lax_number = 1

abbrev pub standard_number : ℕ
standard_number = 2

abbrev pub strict_number : ℕ
strict_number = 3

abbrev pub grammar_of : ℕ → Option Grammar
grammar_of n =
    cond (eqb n lax_number) (Some Lax)
    (cond (eqb n standard_number) (Some Standard)
    (cond (eqb n strict_number) (Some Strict)
    None))

-- ---- 1, lax
-- Any white; opening; any mixture of white and alphabet characters; then at most two pads, each followed by any white;
-- closing; any white.
--     RFC 7468, figure 2:  laxbase64text = *(W / base64char) [base64pad *W [base64pad *W]]

abbrev pub Mixed : ℕ → Type 0
Mixed c = White c ⊎ AlphabetChar c

pub data LaxPads : List ℕ → Type 0 where
  none : LaxPads []
  one : (w : List ℕ) → All White w → LaxPads (pad ∷ w)
  two : (v w : List ℕ) → All White v → All White w → LaxPads (pad ∷ (v ++ (pad ∷ w)))

pub data LaxBody : List ℕ → Type 0 where
  lax : (m p : List ℕ) → All Mixed m → LaxPads p → LaxBody (m ++ p)

-- ---- 2, standard
-- Opening, blanks, line end; then any run of blanks and line ends; then zero or more data lines; then a final line; closing,
-- blanks, at most one line end. The final line is always present, so one empty line may follow unpadded data.
--     RFC 7468, figure 1:  textualmsg = preeb *WSP eol *eolWSP base64text posteb *WSP [eol]
--                          base64text = *base64line base64finl

-- A final line: zero or more alphabet characters; then zero to two pads standing together, or one pad, blanks, a line end and the
-- second pad; then blanks, line end. (K9; before it, "zero to two pads standing together" only.)
--     base64finl = *base64char (base64pad *WSP eol base64pad / *2base64pad) *WSP eol
--                                           ; ...AB= <EOL> = <EOL> is not good, but is valid
pub data FinalLine : List ℕ → Type 0 where
  final : (a : List ℕ) (p : ℕ) (b e : List ℕ) → All AlphabetChar a → p ≤ 2 → All Blank b → LineEnd e []
      → FinalLine (a ++ (replicate p pad ++ (b ++ e)))
  split : (a b e c f : List ℕ) → All AlphabetChar a → All Blank b → LineEnd e (pad ∷ (c ++ f)) → All Blank c → LineEnd f []
      → FinalLine (a ++ (pad ∷ (b ++ (e ++ (pad ∷ (c ++ f))))))

-- Data lines, each of one or more alphabet characters, blanks and a line end; then the final line.
--     base64line = 1*base64char *WSP eol
pub data StandardLines : List ℕ → Type 0 where
  final : {f : List ℕ} → FinalLine f → StandardLines f
  line : (a b e rest : List ℕ) → a ≢ [] → All AlphabetChar a → All Blank b → LineEnd e rest → StandardLines rest
      → StandardLines (a ++ (b ++ (e ++ rest)))

-- A run of blanks and line ends; then the lines.
--     *eolWSP base64text
pub data BlankLines : List ℕ → Type 0 where
  lines : {l : List ℕ} → StandardLines l → BlankLines l
  blank : {c : ℕ} {rest : List ℕ} → Blank c → BlankLines rest → BlankLines (c ∷ rest)
  line_end_lem : (e rest : List ℕ) → LineEnd e rest → BlankLines rest → BlankLines (e ++ rest)

-- The blanks and the line end of the opening; then that run.
--     *WSP eol *eolWSP base64text
pub data StandardBody : List ℕ → Type 0 where
  standard : (b e rest : List ℕ) → All Blank b → LineEnd e rest → BlankLines rest → StandardBody (b ++ (e ++ rest))

-- Behind the closing: blanks, at most one line end.
--     *WSP [eol]
pub data StandardAfter : List ℕ → Type 0 where
  no_end : {b : List ℕ} → All Blank b → StandardAfter b
  one_end : (b e : List ℕ) → All Blank b → LineEnd e [] → StandardAfter (b ++ e)

-- ---- 3, strict
-- Opening, line end; zero or more lines of 64 alphabet characters; then a final line of 1 to 16 groups of four, of which only
-- the last may be three characters and one pad or two characters and two pads; closing, line end. Each line has its line end
-- and no blanks.
--     RFC 7468, figure 3:  stricttextualmsg = preeb eol strictbase64text posteb eol
--                          strictbase64text = *base64fullline strictbase64finl

abbrev pub line_chars : ℕ
line_chars = 64

abbrev pub line_groups : ℕ
line_groups = 16

-- So many groups of four.
--     *15(4base64char) (4base64char / 3base64char base64pad / 2base64char 2base64pad)
pub data Groups : ℕ → List ℕ → Type 0 where
  four : {a b c d : ℕ} → AlphabetChar a → AlphabetChar b → AlphabetChar c → AlphabetChar d → Groups 1 (a ∷ b ∷ c ∷ d ∷ [])
  three : {a b c : ℕ} → AlphabetChar a → AlphabetChar b → AlphabetChar c → Groups 1 (a ∷ b ∷ c ∷ pad ∷ [])
  two : {a b : ℕ} → AlphabetChar a → AlphabetChar b → Groups 1 (a ∷ b ∷ pad ∷ pad ∷ [])
  more : {a b c d n : ℕ} {rest : List ℕ} → AlphabetChar a → AlphabetChar b → AlphabetChar c → AlphabetChar d → Groups n rest
      → Groups (suc n) (a ∷ b ∷ c ∷ d ∷ rest)

-- Full lines; then the final line.
--     base64fullline = 64base64char eol
pub data StrictLines : List ℕ → Type 0 where
  final : (n : ℕ) (g e : List ℕ) → Groups n g → n ≤ line_groups → LineEnd e [] → StrictLines (g ++ e)
  line : (a e rest : List ℕ) → All AlphabetChar a → length a ≡ line_chars → LineEnd e rest → StrictLines rest
      → StrictLines (a ++ (e ++ rest))

-- The line end of the opening; then those lines.
pub data StrictBody : List ℕ → Type 0 where
  strict : (e rest : List ℕ) → LineEnd e rest → StrictLines rest → StrictBody (e ++ rest)

-- ---- By grammar: what stands before the opening, between the boundaries, and behind the closing

abbrev pub Before : Grammar → List ℕ → Type 0
Before Lax l = All White l
Before Standard l = l ≡ []
Before Strict l = l ≡ []

abbrev pub Body : Grammar → List ℕ → Type 0
Body Lax l = LaxBody l
Body Standard l = StandardBody l
Body Strict l = StrictBody l

abbrev pub After : Grammar → List ℕ → Type 0
After Lax l = All White l
After Standard l = StandardAfter l
After Strict l = LineEnd l []
