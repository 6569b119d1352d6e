-- What may still come from each phase behind the opening: the bodies, and what stands behind the closing. Assumes nothing.
use mathlib.Core.Path.{◌≡◌}
use mathlib.Core.Logic.{◌⊎◌}
use mathlib.Core.Bool.{Bool, true, false, cond}
use mathlib.Core.List.{List, [], ◌∷◌, ◌++◌}
use Prim.Native.Nat.{ℕ, ◌+◌, ◌*◌, ◌≤◌}
use lib.Dec.{eqb}
use lib.ListN.{length, replicate}
use Rattle.base_64.specs.Lists.{All}
use Rattle.base_64.specs.Alphabet.{AlphabetChar, pad}
use Rattle.grammar.specs.Marks.{LF, hyphen, Blank, White, LineEnd}
use Rattle.grammar.specs.Grammars.{LaxBody, StandardLines, BlankLines, StandardBody, StandardAfter, StrictLines, StrictBody}
use Rattle.grammar.specs.declared.Grammar.{Grammar}
use Rattle.machine.proofs.Machine.{state, run, part_of}
use Rattle.machine.specs.declared.Boundary.TheVariants.{Closing}
use Rattle.machine.specs.declared.LaxPhase.{LaxPhase}
use Rattle.machine.specs.declared.LaxPhase.TheVariants as lax
use Rattle.machine.specs.declared.StandardPhase.{StandardPhase}
use Rattle.machine.specs.declared.StandardPhase.TheVariants as standard
use Rattle.machine.specs.declared.StrictPhase.{StrictPhase}
use Rattle.machine.specs.declared.StrictPhase.TheVariants as strict
use Rattle.machine.specs.declared.Part.TheVariants as part
use Rattle.machine.specs.declared.Phase.{Phase}
use Rattle.machine.specs.declared.Phase.TheVariants.{Before, Word, Label, Lax, Standard, Strict, Dead}

-- The list without the LF that it starts with; behind CR, that LF is of the same line end.
abbrev pub after_lF : List ℕ → List ℕ
after_lF [] = []
after_lF (c ∷ l) = cond (eqb c LF) l (c ∷ l)

-- What the machine sees of a list behind a byte, which was CR or not.
abbrev pub seen_behind : Bool → List ℕ → List ℕ
seen_behind true l = after_lF l
seen_behind false l = l

-- ---- Lax

-- Behind a pad: white; or white, a pad and white.
pub data LaxPad : List ℕ → Type 0 where
  last : {w : List ℕ} → All White w → LaxPad w
  more : (v w : List ℕ) → All White v → All White w → LaxPad (v ++ (pad ∷ w))

abbrev pub LaxRest : LaxPhase → List ℕ → Type 0
LaxRest lax.Data l = LaxBody l
LaxRest lax.OnePad l = LaxPad l
LaxRest lax.TwoPads l = All White l
LaxRest lax.Closed l = ⊥

-- ---- Standard

-- Blanks, a line end and a P behind it.
pub data EndThen (P : List ℕ → Type 0) : List ℕ → Type 0 where
  end_then : (b e rest : List ℕ) → All Blank b → LineEnd e rest → P rest → EndThen P (b ++ (e ++ rest))

-- The end of the final line.
abbrev pub Ending : List ℕ → Type 0
Ending l = EndThen (λ r. r ≡ []) l

-- The end of a line that has alphabet characters: the final line, or another.
abbrev pub Trailing : List ℕ → Type 0
Trailing l = EndThen (λ r. (r ≡ []) ⊎ StandardLines r) l

-- The second pad, and the end of the final line.
pub data SecondPad : List ℕ → Type 0 where
  second : {l : List ℕ} → Ending l → SecondPad (pad ∷ l)

-- The end of a line that has one pad: that of the final line, or the second pad stands on the next.
abbrev pub PadTrailing : List ℕ → Type 0
PadTrailing l = EndThen (λ r. (r ≡ []) ⊎ SecondPad r) l

-- Behind the first pad.
abbrev pub Padded : List ℕ → Type 0
Padded l = PadTrailing l ⊎ SecondPad l

-- Behind an alphabet character: more of them; then the rest of the line, or pads and the rest of the final line.
pub data Chars : List ℕ → Type 0 where
  line : (a l : List ℕ) → All AlphabetChar a → Trailing l → Chars (a ++ l)
  padded : (a l : List ℕ) → All AlphabetChar a → Padded l → Chars (a ++ (pad ∷ l))

abbrev pub StandardRest : StandardPhase → List ℕ → Type 0
StandardRest standard.Opened l = StandardBody l
StandardRest standard.Leading l = BlankLines l
StandardRest standard.BlankLine l = (l ≡ []) ⊎ BlankLines l
StandardRest standard.Data l = Chars l
StandardRest standard.Trailing l = Trailing l
StandardRest standard.Line l = (l ≡ []) ⊎ StandardLines l
StandardRest standard.OnePad l = Padded l
StandardRest standard.PadTrailing l = PadTrailing l
StandardRest standard.PadLine l = (l ≡ []) ⊎ SecondPad l
StandardRest standard.Ending l = Ending l
StandardRest standard.Final l = l ≡ []
StandardRest standard.Closed l = ⊥
StandardRest standard.Ended l = ⊥

-- ---- Strict

-- Behind characters of a line that has room for so many more: the rest of a full line and further lines; or the rest of the
-- final line, up to two pads at its end, which leaves room for whole groups only.
pub data StrictLine (room : ℕ) : List ℕ → Type 0 where
  full : (a e rest : List ℕ) → All AlphabetChar a → length a ≡ room → LineEnd e rest → StrictLines rest → StrictLine room (a ++ (e ++ rest))
  final : (a : List ℕ) (n p : ℕ) (e : List ℕ) → All AlphabetChar a → p ≤ 2 → length a + p + 4 * n ≡ room → LineEnd e []
      → StrictLine room (a ++ (replicate p pad ++ e))

-- Behind the first of two pads.
pub data StrictPad : List ℕ → Type 0 where
  last : {e : List ℕ} → LineEnd e [] → StrictPad (pad ∷ e)

abbrev pub StrictRest : StrictPhase → List ℕ → Type 0
StrictRest strict.Opened l = StrictBody l
StrictRest strict.First l = StrictLines l
StrictRest strict.Line l = (l ≡ []) ⊎ StrictLines l
StrictRest (strict.Data room) l = StrictLine room l
StrictRest strict.OnePad l = StrictPad l
StrictRest strict.Padded l = LineEnd l []
StrictRest strict.Final l = l ≡ []
StrictRest strict.Closed l = ⊥
StrictRest strict.Ended l = ⊥

-- ---- By phase

-- What may still come of a body.
abbrev pub BodyRest : Phase → List ℕ → Type 0
BodyRest Before l = ⊥
BodyRest (Word b n) l = ⊥
BodyRest (Label b p) l = ⊥
BodyRest (Lax p) l = LaxRest p l
BodyRest (Standard p) l = StandardRest p l
BodyRest (Strict p) l = StrictRest p l
BodyRest Dead l = ⊥

-- What may still come behind the closing.
abbrev pub LaxAfter : LaxPhase → List ℕ → Type 0
LaxAfter lax.Data l = ⊥
LaxAfter lax.OnePad l = ⊥
LaxAfter lax.TwoPads l = ⊥
LaxAfter lax.Closed l = All White l

abbrev pub StandardAfterRest : StandardPhase → List ℕ → Type 0
StandardAfterRest standard.Opened l = ⊥
StandardAfterRest standard.Leading l = ⊥
StandardAfterRest standard.BlankLine l = ⊥
StandardAfterRest standard.Data l = ⊥
StandardAfterRest standard.Trailing l = ⊥
StandardAfterRest standard.Line l = ⊥
StandardAfterRest standard.OnePad l = ⊥
StandardAfterRest standard.PadTrailing l = ⊥
StandardAfterRest standard.PadLine l = ⊥
StandardAfterRest standard.Ending l = ⊥
StandardAfterRest standard.Final l = ⊥
StandardAfterRest standard.Closed l = StandardAfter l
StandardAfterRest standard.Ended l = l ≡ []

abbrev pub StrictAfterRest : StrictPhase → List ℕ → Type 0
StrictAfterRest strict.Opened l = ⊥
StrictAfterRest strict.First l = ⊥
StrictAfterRest strict.Line l = ⊥
StrictAfterRest (strict.Data room) l = ⊥
StrictAfterRest strict.OnePad l = ⊥
StrictAfterRest strict.Padded l = ⊥
StrictAfterRest strict.Final l = ⊥
StrictAfterRest strict.Closed l = LineEnd l []
StrictAfterRest strict.Ended l = l ≡ []

abbrev pub AfterRest : Phase → List ℕ → Type 0
AfterRest Before l = ⊥
AfterRest (Word b n) l = ⊥
AfterRest (Label b p) l = ⊥
AfterRest (Lax p) l = LaxAfter p l
AfterRest (Standard p) l = StandardAfterRest p l
AfterRest (Strict p) l = StrictAfterRest p l
AfterRest Dead l = ⊥

-- From the phase the machine reads the list and the hyphen behind it, and is then in the closing, whatever follows.
abbrev pub Closes : Grammar → Phase → List ℕ → Type 0
Closes g p l = (z : List ℕ) → run g (state p false) (l ++ (hyphen ∷ z)) ≡ run g (state (Word Closing 1) false) z

-- Where a byte takes the machine from a body: nowhere, on in the body, or into the closing, where the body may end here.
pub data Way (p q : Phase) (c : ℕ) : Type 0 where
  dies : q ≡ Dead → Way p q c
  stays : part_of q ≡ part.Body → Way p q c
  closes : q ≡ Word Closing 1 → c ≡ hyphen → BodyRest p [] → Way p q c

-- A way on into the closing.
pub record ToClosing (g : Grammar) (p : Phase) : Type 0 where
  pub bytes : List ℕ
  pub closes : Closes g p bytes
