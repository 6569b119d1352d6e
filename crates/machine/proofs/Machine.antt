-- The machine: its phases, and where each byte takes it. Assumes nothing.
-- None of this has to be believed: the theorems of proofs/ say what it accepts in terms of the grammars' relations.
use mathlib.Core.Bool.{Bool, true, false, cond}
use mathlib.Core.List.{List, [], ◌∷◌}
use Prim.Native.Nat.{ℕ, suc, ◌-◌, ◌%◌}
use lib.Dec.{eqb, ltb}
use lib.ListN.{length, get_or}
use Rattle.grammar.specs.Marks.{CR, LF, begin, end}
use Rattle.grammar.specs.declared.Grammar.{Grammar}
use Rattle.grammar.specs.declared.Grammar.TheVariants as grammar
use Rattle.machine.proofs.ByteKinds.{kind_of}
use Rattle.machine.specs.declared.Kind.{Kind}
use Rattle.machine.specs.declared.Kind.TheVariants as kind
use Rattle.machine.specs.declared.Boundary.{Boundary}
use Rattle.machine.specs.declared.Boundary.TheVariants.{Opening, Closing}
use Rattle.machine.specs.declared.LabelPhase.{LabelPhase}
use Rattle.machine.specs.declared.LabelPhase.TheVariants.{Start, Char, Space, Hyphen, One, Two, Three, Four}
use Rattle.machine.specs.declared.LabelTarget.{LabelTarget}
use Rattle.machine.specs.declared.LabelTarget.TheVariants.{To, Whole, Refused}
use Rattle.machine.specs.declared.LabelRow.{LabelRow}
use Rattle.machine.specs.declared.LaxPhase.{LaxPhase}
use Rattle.machine.specs.declared.LaxPhase.TheVariants as lax
use Rattle.machine.specs.declared.StandardPhase.{StandardPhase}
use Rattle.machine.specs.declared.StandardPhase.TheVariants as standard
use Rattle.machine.specs.declared.StrictPhase.{StrictPhase}
use Rattle.machine.specs.declared.StrictPhase.TheVariants as strict
use Rattle.machine.specs.declared.Phase.{Phase}
use Rattle.machine.specs.declared.Phase.TheVariants.{Before, Word, Label, Lax, Standard, Strict, Dead}
use Rattle.machine.specs.declared.Row.{Row}
use Rattle.machine.specs.declared.State.{State}
use Rattle.machine.specs.declared.Part.{Part}
use Rattle.machine.specs.declared.Part.TheVariants as part

-- ---- "-----BEGIN " and "-----END "

abbrev pub word_of : Boundary → List ℕ
word_of Opening = begin
word_of Closing = end

-- A byte behind so many of the word.
abbrev pub word_step : Boundary → ℕ → ℕ → Phase
word_step b n c =
    cond (ltb n (length (word_of b)))
    (cond (eqb c (get_or (word_of b) n 0)) (cond (ltb (suc n) (length (word_of b))) (Word b (suc n)) (Label b Start)) Dead)
    Dead

-- ---- A label and the five hyphens behind it

abbrev pub label_ways : LabelTarget → LabelTarget → LabelTarget → LabelRow
label_ways hyphen space char = record { hyphen = hyphen; space = space; char = char }

-- For each phase the ways on: a hyphen, a space, a character.
abbrev pub label_row : LabelPhase → LabelRow
label_row Start = label_ways (To One) Refused (To Char)
label_row Char = label_ways (To Hyphen) (To Space) (To Char)
label_row Space = label_ways Refused Refused (To Char)
label_row Hyphen = label_ways (To Two) Refused (To Char)
label_row One = label_ways (To Two) Refused Refused
label_row Two = label_ways (To Three) Refused Refused
label_row Three = label_ways (To Four) Refused Refused
label_row Four = label_ways Whole Refused Refused

abbrev pub label_target : LabelRow → Kind → LabelTarget
label_target r kind.Tab = Refused
label_target r kind.Space = r.space
label_target r kind.Cr = Refused
label_target r kind.Lf = Refused
label_target r kind.Feed = Refused
label_target r kind.Hyphen = r.hyphen
label_target r kind.Alphabet = r.char
label_target r kind.Pad = r.char
label_target r kind.Mark = r.char
label_target r kind.Other = Refused

-- Where a byte takes a label.
abbrev pub label_step : LabelPhase → ℕ → LabelTarget
label_step l c = label_target (label_row l) (kind_of c)

-- A label may end here.
abbrev pub label_ends : LabelPhase → Bool
label_ends Start = true
label_ends Char = true
label_ends Space = false
label_ends Hyphen = false
label_ends One = false
label_ends Two = false
label_ends Three = false
label_ends Four = false

abbrev pub label_onward : LabelTarget → (LabelPhase → Bool) → Bool
label_onward (To l) onward = onward l
label_onward Whole onward = false
label_onward Refused onward = false

-- The bytes are what may still come of a label, without its hyphens.
unfoldable pub label_from : LabelPhase → List ℕ → Bool
label_from l [] = label_ends l
label_from l (c ∷ cs) = label_onward (label_step l c) (λ m. label_from m cs)

-- The phase right behind a boundary.
abbrev pub behind : Grammar → Boundary → Phase
behind grammar.Lax Opening = Lax lax.Data
behind grammar.Standard Opening = Standard standard.Opened
behind grammar.Strict Opening = Strict strict.Opened
behind grammar.Lax Closing = Lax lax.Closed
behind grammar.Standard Closing = Standard standard.Closed
behind grammar.Strict Closing = Strict strict.Closed

abbrev pub labelled : Grammar → Boundary → LabelTarget → Phase
labelled g b (To l) = Label b l
labelled g b Whole = behind g b
labelled g b Refused = Dead

-- ---- Behind the opening: for each phase the ways on

abbrev pub row : (blank feed end alphabet pad hyphen : Phase) → Row
row blank feed end alphabet pad hyphen = record { blank = blank; feed = feed; end = end; alphabet = alphabet; pad = pad; hyphen = hyphen }

abbrev pub lax_row : LaxPhase → Row
lax_row lax.Data = row (Lax lax.Data) (Lax lax.Data) (Lax lax.Data) (Lax lax.Data) (Lax lax.OnePad) (Word Closing 1)
lax_row lax.OnePad = row (Lax lax.OnePad) (Lax lax.OnePad) (Lax lax.OnePad) Dead (Lax lax.TwoPads) (Word Closing 1)
lax_row lax.TwoPads = row (Lax lax.TwoPads) (Lax lax.TwoPads) (Lax lax.TwoPads) Dead Dead (Word Closing 1)
lax_row lax.Closed = row (Lax lax.Closed) (Lax lax.Closed) (Lax lax.Closed) Dead Dead Dead

abbrev pub standard_row : StandardPhase → Row
standard_row standard.Opened = row (Standard standard.Opened) Dead (Standard standard.Leading) Dead Dead Dead
standard_row standard.Leading = row (Standard standard.Leading) Dead (Standard standard.BlankLine) (Standard standard.Data) (Standard standard.OnePad) Dead
standard_row standard.BlankLine = row (Standard standard.Leading) Dead (Standard standard.BlankLine) (Standard standard.Data) (Standard standard.OnePad) (Word Closing 1)
standard_row standard.Data = row (Standard standard.Trailing) Dead (Standard standard.Line) (Standard standard.Data) (Standard standard.OnePad) Dead
standard_row standard.Trailing = row (Standard standard.Trailing) Dead (Standard standard.Line) Dead Dead Dead
standard_row standard.Line = row (Standard standard.Ending) Dead (Standard standard.Final) (Standard standard.Data) (Standard standard.OnePad) (Word Closing 1)
standard_row standard.OnePad = row (Standard standard.PadTrailing) Dead (Standard standard.PadLine) Dead (Standard standard.Ending) Dead
standard_row standard.PadTrailing = row (Standard standard.PadTrailing) Dead (Standard standard.PadLine) Dead Dead Dead
standard_row standard.PadLine = row Dead Dead Dead Dead (Standard standard.Ending) (Word Closing 1)
standard_row standard.Ending = row (Standard standard.Ending) Dead (Standard standard.Final) Dead Dead Dead
standard_row standard.Final = row Dead Dead Dead Dead Dead (Word Closing 1)
standard_row standard.Closed = row (Standard standard.Closed) Dead (Standard standard.Ended) Dead Dead Dead
standard_row standard.Ended = row Dead Dead Dead Dead Dead Dead

-- The room of a strict line behind its first character.
abbrev pub line_room : ℕ
line_room = 63

-- A line that has room for so many characters more: its line end, a character, a pad.
abbrev pub line_end : ℕ → Phase
line_end room = cond (eqb room 0) (Strict strict.Line) (cond (eqb (room % 4) 0) (Strict strict.Final) Dead)

abbrev pub line_char : ℕ → Phase
line_char room = cond (eqb room 0) Dead (Strict (strict.Data (room - 1)))

abbrev pub line_pad : ℕ → Phase
line_pad room = cond (eqb (room % 4) 1) (Strict strict.Padded) (cond (eqb (room % 4) 2) (Strict strict.OnePad) Dead)

abbrev pub strict_row : StrictPhase → Row
strict_row strict.Opened = row Dead Dead (Strict strict.First) Dead Dead Dead
strict_row strict.First = row Dead Dead Dead (Strict (strict.Data line_room)) Dead Dead
strict_row strict.Line = row Dead Dead Dead (Strict (strict.Data line_room)) Dead (Word Closing 1)
strict_row (strict.Data room) = row Dead Dead (line_end room) (line_char room) (line_pad room) Dead
strict_row strict.OnePad = row Dead Dead Dead Dead (Strict strict.Padded) Dead
strict_row strict.Padded = row Dead Dead (Strict strict.Final) Dead Dead Dead
strict_row strict.Final = row Dead Dead Dead Dead Dead (Word Closing 1)
strict_row strict.Closed = row Dead Dead (Strict strict.Ended) Dead Dead Dead
strict_row strict.Ended = row Dead Dead Dead Dead Dead Dead

abbrev pub target : Row → Kind → Phase
target r kind.Tab = r.blank
target r kind.Space = r.blank
target r kind.Cr = r.end
target r kind.Lf = r.end
target r kind.Feed = r.feed
target r kind.Hyphen = r.hyphen
target r kind.Alphabet = r.alphabet
target r kind.Pad = r.pad
target r kind.Mark = Dead
target r kind.Other = Dead

-- ---- The whole

-- Before the opening, under lax.
abbrev pub before_step : Kind → Phase
before_step kind.Tab = Before
before_step kind.Space = Before
before_step kind.Cr = Before
before_step kind.Lf = Before
before_step kind.Feed = Before
before_step kind.Hyphen = Word Opening 1
before_step kind.Alphabet = Dead
before_step kind.Pad = Dead
before_step kind.Mark = Dead
before_step kind.Other = Dead

abbrev pub next : Grammar → Phase → ℕ → Phase
next g Before c = before_step (kind_of c)
next g (Word b n) c = word_step b n c
next g (Label b l) c = labelled g b (label_step l c)
next g (Lax p) c = target (lax_row p) (kind_of c)
next g (Standard p) c = target (standard_row p) (kind_of c)
next g (Strict p) c = target (strict_row p) (kind_of c)
next g Dead c = Dead

abbrev pub state : Phase → Bool → State
state phase cr = record { phase = phase; cr = cr }

-- LF behind CR is of the same line end and moves nothing.
abbrev pub step : Grammar → State → ℕ → State
step g s c = cond (cond s.cr (eqb c LF) false) (state s.phase false) (state (next g s.phase c) (eqb c CR))

abbrev pub run : Grammar → State → List ℕ → State
run g s [] = s
run g s (c ∷ l) = run g (step g s c) l

-- Where a single message or the first of a bundle starts.
abbrev pub start : Grammar → State
start grammar.Lax = state Before false
start grammar.Standard = state (Word Opening 0) false
start grammar.Strict = state (Word Opening 0) false

-- ---- What a phase tells

abbrev pub boundary_part : Boundary → Part
boundary_part Opening = part.Opening
boundary_part Closing = part.Closing

abbrev pub lax_part : LaxPhase → Part
lax_part lax.Data = part.Body
lax_part lax.OnePad = part.Body
lax_part lax.TwoPads = part.Body
lax_part lax.Closed = part.After

abbrev pub standard_part : StandardPhase → Part
standard_part standard.Opened = part.Body
standard_part standard.Leading = part.Body
standard_part standard.BlankLine = part.Body
standard_part standard.Data = part.Body
standard_part standard.Trailing = part.Body
standard_part standard.Line = part.Body
standard_part standard.OnePad = part.Body
standard_part standard.PadTrailing = part.Body
standard_part standard.PadLine = part.Body
standard_part standard.Ending = part.Body
standard_part standard.Final = part.Body
standard_part standard.Closed = part.After
standard_part standard.Ended = part.After

abbrev pub strict_part : StrictPhase → Part
strict_part strict.Opened = part.Body
strict_part strict.First = part.Body
strict_part strict.Line = part.Body
strict_part (strict.Data room) = part.Body
strict_part strict.OnePad = part.Body
strict_part strict.Padded = part.Body
strict_part strict.Final = part.Body
strict_part strict.Closed = part.After
strict_part strict.Ended = part.After

-- The part of a message that a phase is in; a dead phase is in none, and counts as behind the message.
abbrev pub part_of : Phase → Part
part_of Before = part.Before
part_of (Word b n) = boundary_part b
part_of (Label b l) = boundary_part b
part_of (Lax p) = lax_part p
part_of (Standard p) = standard_part p
part_of (Strict p) = strict_part p
part_of Dead = part.After

-- The part that a byte belongs to, which took the machine from one part to another: the first hyphen of a boundary is the
-- boundary's, and so is its last.
abbrev pub byte_part : Part → Part → Part
byte_part part.Before part.Before = part.Before
byte_part part.Before part.Opening = part.Opening
byte_part part.Before part.Body = part.Opening
byte_part part.Before part.Closing = part.Opening
byte_part part.Before part.After = part.Opening
byte_part part.Opening to = part.Opening
byte_part part.Body part.Before = part.Closing
byte_part part.Body part.Opening = part.Closing
byte_part part.Body part.Body = part.Body
byte_part part.Body part.Closing = part.Closing
byte_part part.Body part.After = part.Closing
byte_part part.Closing to = part.Closing
byte_part part.After to = part.After

-- The parts of the bytes of a list.
abbrev pub trace : Grammar → State → List ℕ → List Part
trace g s [] = []
trace g s (c ∷ l) = byte_part (part_of s.phase) (part_of (step g s c).phase) ∷ trace g (step g s c) l

-- No text of the grammar starts with what has been read.
abbrev pub dead : Phase → Bool
dead Before = false
dead (Word b n) = false
dead (Label b l) = false
dead (Lax p) = false
dead (Standard p) = false
dead (Strict p) = false
dead Dead = true

abbrev pub is_after : Part → Bool
is_after part.Before = false
is_after part.Opening = false
is_after part.Body = false
is_after part.Closing = false
is_after part.After = true

abbrev pub strict_accepting : StrictPhase → Bool
strict_accepting strict.Opened = false
strict_accepting strict.First = false
strict_accepting strict.Line = false
strict_accepting (strict.Data room) = false
strict_accepting strict.OnePad = false
strict_accepting strict.Padded = false
strict_accepting strict.Final = false
strict_accepting strict.Closed = false
strict_accepting strict.Ended = true

-- What has been read is a text of the grammar.
abbrev pub accepting : Phase → Bool
accepting Before = false
accepting (Word b n) = false
accepting (Label b l) = false
accepting (Lax p) = is_after (lax_part p)
accepting (Standard p) = is_after (standard_part p)
accepting (Strict p) = strict_accepting p
accepting Dead = false

-- Where a later message of a bundle starts.
abbrev pub later : State
later = state (Word Opening 0) false
