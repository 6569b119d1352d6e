-- Where characters, blanks, pads, line ends and hyphens lead from the phases of a body. None of this has to be believed.
-- Assumes nothing.
use Rattle.std.specs.Prelude.{◌≡◌, Bool, true, false, ℕ, Option, Some, None}
use Rattle.base_64.specs.Alphabet.{pad}
use Rattle.grammar.specs.Marks.{HT, SP, CR, LF, hyphen}
use Rattle.grammar.specs.declared.Grammar.{Grammar}
use Rattle.grammar.specs.declared.Grammar.TheVariants as grammar
use Rattle.machine.proofs.Machine.{next, part_of, dead}
use Rattle.machine.proofs.Runs.{Takes}
use Rattle.machine.specs.declared.Boundary.TheVariants.{Closing}
use Rattle.machine.specs.declared.Part.TheVariants as part
use Rattle.machine.specs.declared.LaxPhase.TheVariants as lax
use Rattle.machine.specs.declared.StandardPhase.TheVariants as standard
use Rattle.machine.specs.declared.StrictPhase.TheVariants as strict
use Rattle.machine.specs.declared.Phase.{Phase}
use Rattle.machine.specs.declared.Phase.TheVariants.{Word, Lax, Standard, Strict}
use Rattle.leaps.specs.declared.LinePhases.{LinePhases}

-- Each alphabet character leads from one phase of the body to another.
pub record OnCharacter (g : Grammar) (p q : Phase) : Type 0 where
  pub from : part_of p ≡ part.Body
  pub to : part_of q ≡ part.Body
  pub alive : dead q ≡ false
  pub takes : Takes g p q

-- So does each line end.
pub record OnLineEnd (g : Grammar) (p q : Phase) : Type 0 where
  pub from : part_of p ≡ part.Body
  pub to : part_of q ≡ part.Body
  pub alive : dead q ≡ false
  pub lf : next g p LF ≡ q
  pub cr : next g p CR ≡ q

-- So does each blank.
pub record OnBlank (g : Grammar) (p q : Phase) : Type 0 where
  pub from : part_of p ≡ part.Body
  pub to : part_of q ≡ part.Body
  pub alive : dead q ≡ false
  pub ht : next g p HT ≡ q
  pub sp : next g p SP ≡ q

-- So does a pad.
pub record OnPad (g : Grammar) (p q : Phase) : Type 0 where
  pub from : part_of p ≡ part.Body
  pub to : part_of q ≡ part.Body
  pub alive : dead q ≡ false
  pub takes : next g p pad ≡ q

-- One or two pads and a line end lead from one phase to another.
pub data OnPads (g : Grammar) : (p : Phase) (n : ℕ) (q : Phase) → Type 0 where
  one_pad : {p a q : Phase} → OnPad g p a → OnLineEnd g a q → OnPads g p 1 q
  two_pads : {p a b q : Phase} → OnPad g p a → OnPad g a b → OnLineEnd g b q → OnPads g p 2 q

-- Lines of any length are read from a first phase on, in these phases.
pub record Lined (g : Grammar) (first : Phase) (ps : LinePhases) : Type 0 where
  pub begins : OnCharacter g first ps.within
  pub goes_on : OnCharacter g ps.within ps.within
  pub ends : OnLineEnd g ps.within ps.behind
  pub again : OnCharacter g ps.behind ps.within
  pub pauses : OnBlank g ps.within ps.trailing
  pub stays : OnBlank g ps.trailing ps.trailing
  pub closes : OnLineEnd g ps.trailing ps.behind
  pub resumed : ps.resumes ≡ true → OnCharacter g ps.trailing ps.within

abbrev line_phases : (within behind trailing : Phase) (resumes : Bool) → LinePhases
line_phases within behind trailing resumes = record { within = within; behind = behind; trailing = trailing; resumes = resumes }

abbrev pub lax_phases : LinePhases
lax_phases = line_phases (Lax lax.Data) (Lax lax.Data) (Lax lax.Data) true

abbrev pub standard_phases : LinePhases
standard_phases = line_phases (Standard standard.Data) (Standard standard.Line) (Standard standard.Trailing) false

-- A line of the body begins in a phase: how it goes on, whichever grammar's machine has come to it.
abbrev pub LinesFrom : Phase → Option Grammar → Type 0
LinesFrom p (Some grammar.Lax) = (g : Grammar) → Lined g p lax_phases
LinesFrom p (Some grammar.Standard) = (g : Grammar) → Lined g p standard_phases
LinesFrom p (Some grammar.Strict) = (g : Grammar) → OnCharacter g p (Strict (strict.Data 63))
LinesFrom p None = Unit {0}

-- A hyphen in a phase of the body is the first of the closing.
pub record Closes (p : Phase) : Type 0 where
  pub from : part_of p ≡ part.Body
  pub leads : (g : Grammar) → next g p hyphen ≡ Word Closing 1
