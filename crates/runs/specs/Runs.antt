-- Runs of bytes of one kind, lines and words, by the places in a text at which they begin and end. Assumes nothing.
use Rattle.std.specs.Prelude.{◌≡◌, Bool, true, false, Option, Some, None, List, ℕ, ◌+◌, ◌-◌, ◌*◌, ◌≤◌, ◌<◌, ltb, length, take, drop, get_or}
use Rattle.base_64.specs.Alphabet.{radix, pad, value_of, AlphabetChar}
use Rattle.grammar.specs.Marks.{CR, LF, Blank, LabelChar}

-- The bytes from i on and before j are of one kind.
pub record Run (Kind : ℕ → Type 0) (text : List ℕ) (i j : ℕ) : Type 0 where
  pub all : (k : ℕ) → i ≤ k → k < j → Kind (get_or text k 0)

-- They are alphabet characters.
abbrev pub Characters : List ℕ → ℕ → ℕ → Type 0
Characters = Run AlphabetChar

-- They are outside the alphabet, by the test that leaves a body's characters.
abbrev pub NoCharacter : ℕ → Type 0
NoCharacter c = ltb (value_of c) radix ≡ false

abbrev pub Outside : List ℕ → ℕ → ℕ → Type 0
Outside = Run NoCharacter

-- They are blanks.
abbrev pub Blanks : List ℕ → ℕ → ℕ → Type 0
Blanks = Run Blank

-- They are pads.
abbrev pub Pads : List ℕ → ℕ → ℕ → Type 0
Pads = Run (λ c. c ≡ pad)

-- They are label characters.
abbrev pub LabelRun : List ℕ → ℕ → ℕ → Type 0
LabelRun = Run LabelChar

-- What stands from i on and before j.
abbrev pub between : List ℕ → ℕ → ℕ → List ℕ
between text i j = take (j - i) (drop i text)

-- A line end of so many bytes at a place: LF, or CR and LF. A single CR is not looked for.
pub data LfOrCrlf (text : List ℕ) (i : ℕ) : ℕ → Type 0 where
  lf : i < length text → get_or text i 0 ≡ LF → LfOrCrlf text i 1
  crlf : i + 1 < length text → get_or text i 0 ≡ CR → get_or text (i + 1) 0 ≡ LF → LfOrCrlf text i 2

-- A line end as it is looked for: nothing is said where none is told.
abbrev pub LineEndAt : List ℕ → ℕ → Option ℕ → Type 0
LineEndAt text i None = Unit {0}
LineEndAt text i (Some n) = LfOrCrlf text i n

-- From i on characters up to j, blanks up to k, and there a line end or none.
pub record IsLine (text : List ℕ) (i j k : ℕ) (line_end : Option ℕ) : Type 0 where
  pub some : i ≤ j
  pub characters : Characters text i j
  pub more : j ≤ k
  pub blanks : Blanks text j k
  pub inside : k ≤ length text
  pub ended : LineEndAt text k line_end

-- Lines of whole groups from i on up to j: so many groups in all, the last line's characters end at m, and so many of them end with
-- LF and with CRLF, which the width of a line end tells. Full lines have 64 characters and no blanks.
pub data LinesTo (text : List ℕ) (full : Bool) (i : ℕ) : (j groups m lf crlf : ℕ) → Type 0 where
  no_lines : LinesTo text full i i 0 i 0 0
  a_line : {j groups m lf crlf : ℕ} → LinesTo text full i j groups m lf crlf → (n a b w : ℕ) → a ≡ j + 4 * n → 0 < n → IsLine text j a b (Some w)
      → (full ≡ true → (n ≡ 16) × (b ≡ a)) → LinesTo text full i (b + w) (groups + n) a (lf + (2 - w)) (crlf + (w - 1))

-- Full lines of so many groups from i up to j, of which so many end with LF and so many with CRLF: what their lengths say.
abbrev pub OfLength : (i j groups lf crlf : ℕ) → Type 0
OfLength i j groups a b = (groups ≡ 16 * (a + b)) × (j ≡ i + 65 * a + 66 * b)

-- There are such numbers.
pub record FullLength (i j groups : ℕ) : Type 0 where
  pub lf : ℕ
  pub crlf : ℕ
  pub length : OfLength i j groups lf crlf

-- From the place i on stands what is left of a word behind its first n bytes.
pub record Stands (text : List ℕ) (i : ℕ) (word : List ℕ) (n : ℕ) : Type 0 where
  pub room : i + (length word - n) ≤ length text
  pub there : (k : ℕ) → n ≤ k → k < length word → get_or text (i + (k - n)) 0 ≡ get_or word k 0
