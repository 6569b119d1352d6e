-- The phases of full lines and of labels, from which a scan may advance by many bytes at once. Assumes nothing.
use Rattle.std.specs.Prelude.{◌≡◌, Bool, List, ℕ, ◌+◌, ◌≤◌, length}
use Rattle.grammar.specs.declared.Grammar.{Grammar}
use Rattle.leaps.specs.Phases.{OnLineEnd}
use Rattle.machine.proofs.Machine.{state, label_row}
use Rattle.machine.specs.declared.Boundary.{Boundary}
use Rattle.machine.specs.declared.LabelPhase.{LabelPhase}
use Rattle.machine.specs.declared.LabelPhase.TheVariants.{Char, Two}
use Rattle.machine.specs.declared.LabelTarget.TheVariants.{To}
use Rattle.machine.specs.declared.Phase.{Phase}
use Rattle.machine.specs.declared.Phase.TheVariants.{Label}
use Rattle.reading.specs.declared.Tally.{Tally}
use Rattle.runs.specs.Runs.{Characters}
use Rattle.scanner.specs.Advances.{place, in_phase, Advanced, run_tallied}

-- The 64 characters of a full line lead from one phase to another, and its line end to a third.
pub record FullLine (g : Grammar) (p q : Phase) : Type 0 where
  pub full : Phase
  pub run : (text : List ℕ) (cr : Bool) (t : Tally) (i : ℕ) → i + 64 ≤ length text → Characters text i (i + 64)
      → Advanced g text (place i (state p cr) t) (in_phase (i + 64) full (run_tallied 64 t))
  pub ends : OnLineEnd g full q

-- A full line, and then others.
pub record FullLines (g : Grammar) (p q : Phase) : Type 0 where
  pub first : FullLine g p q
  pub again : FullLine g q q

-- A phase of a label in which it may go on with a character, or end: the ways of a character and of two hyphens.
pub record Continues (b : Boundary) (p : Phase) : Type 0 where
  pub label : LabelPhase
  pub is : p ≡ Label b label
  pub char : (label_row label).char ≡ To Char
  pub next : LabelPhase
  pub first : (label_row label).hyphen ≡ To next
  pub second : (label_row next).hyphen ≡ To Two
