-- The machine never goes back to an earlier part of a message. Assumes nothing.
use mathlib.Core.Bool.{Bool, true, false, cond}
use mathlib.Core.List.{List, [], ◌∷◌}
use Prim.Native.Nat.{ℕ, suc, ◌≤◌, ◌%◌}
use lib.Dec.{eqb, ltb}
use lib.ListN.{length, get_or}
use native.Mathlib.Omega.{arith}
use Rattle.grammar.specs.Marks.{CR, LF}
use Rattle.grammar.specs.declared.Grammar.{Grammar}
use Rattle.grammar.specs.declared.Grammar.TheVariants as grammar
use Rattle.machine.proofs.ByteKinds.{kind_of}
use Rattle.machine.proofs.Machine.{state, word_of, word_step, label_row, label_target, labelled, lax_row, standard_row, strict_row, target, next, step, run, boundary_part, part_of}
use Rattle.machine.specs.declared.Boundary.{Boundary}
use Rattle.machine.specs.declared.Boundary.TheVariants.{Opening, Closing}
use Rattle.machine.specs.declared.Kind.{Kind}
use Rattle.machine.specs.declared.Kind.TheVariants as kind
use Rattle.machine.specs.declared.LabelPhase.TheVariants.{Start}
use Rattle.machine.specs.declared.LabelTarget.{LabelTarget}
use Rattle.machine.specs.declared.LabelTarget.TheVariants.{To, Whole, Refused}
use Rattle.machine.specs.declared.LaxPhase.{LaxPhase}
use Rattle.machine.specs.declared.LaxPhase.TheVariants as lax
use Rattle.machine.specs.declared.StandardPhase.{StandardPhase}
use Rattle.machine.specs.declared.StandardPhase.TheVariants as standard
use Rattle.machine.specs.declared.StrictPhase.{StrictPhase}
use Rattle.machine.specs.declared.StrictPhase.TheVariants as strict
use Rattle.machine.specs.declared.Part.{Part}
use Rattle.machine.specs.declared.Part.TheVariants as part
use Rattle.machine.specs.declared.Phase.{Phase}
use Rattle.machine.specs.declared.Phase.TheVariants as phase
use Rattle.machine.specs.declared.Row.{Row}
use Rattle.machine.specs.declared.State.{State}

-- The parts of a message in their order.
abbrev pub rank : Part → ℕ
rank part.Before = 0
rank part.Opening = 1
rank part.Body = 2
rank part.Closing = 3
rank part.After = 4

-- A phase is in this part or a later one.
abbrev Reaches : ℕ → Phase → Type 0
Reaches n p = n ≤ rank (part_of p)

dead_reaches : (p : Part) → rank p ≤ 4
dead_reaches part.Before = omega arith
dead_reaches part.Opening = omega arith
dead_reaches part.Body = omega arith
dead_reaches part.Closing = omega arith
dead_reaches part.After = omega arith

word_rises : (b : Boundary) (n c : ℕ) → Reaches (rank (boundary_part b)) (word_step b n c)
word_rises b n c = go (ltb n (length (word_of b))) (eqb c (get_or (word_of b) n 0)) (ltb (suc n) (length (word_of b)))
  where
    go : (x y z : Bool) → Reaches (rank (boundary_part b)) (cond x (cond y (cond z (phase.Word b (suc n)) (phase.Label b Start)) phase.Dead) phase.Dead)
    go true true true = omega arith
    go true true false = omega arith
    go true false z = dead_reaches (boundary_part b)
    go false y z = dead_reaches (boundary_part b)

label_rises : (g : Grammar) (b : Boundary) (t : LabelTarget) → Reaches (rank (boundary_part b)) (labelled g b t)
label_rises g b (To p) = omega arith
label_rises g b Refused = dead_reaches (boundary_part b)
label_rises grammar.Lax Opening Whole = omega arith
label_rises grammar.Standard Opening Whole = omega arith
label_rises grammar.Strict Opening Whole = omega arith
label_rises grammar.Lax Closing Whole = omega arith
label_rises grammar.Standard Closing Whole = omega arith
label_rises grammar.Strict Closing Whole = omega arith

-- What holds of all ways on of a row, and of the dead phase, holds wherever a byte leads.
abbrev pub AllWays : (Phase → Type 0) → Row → Type 0
AllWays P r = P r.blank × P r.feed × P r.end × P r.alphabet × P r.pad × P r.hyphen

pub target_all : (P : Phase → Type 0) (r : Row) → P phase.Dead → AllWays P r → (k : Kind) → P (target r k)
target_all P r h a kind.Tab = a.0
target_all P r h a kind.Space = a.0
target_all P r h a kind.Cr = a.2
target_all P r h a kind.Lf = a.2
target_all P r h a kind.Feed = a.1
target_all P r h a kind.Hyphen = a.5
target_all P r h a kind.Alphabet = a.3
target_all P r h a kind.Pad = a.4
target_all P r h a kind.Mark = h
target_all P r h a kind.Other = h

lax_rises : (p : LaxPhase) → AllWays (Reaches (rank (part_of (phase.Lax p)))) (lax_row p)
lax_rises lax.Data = omega arith
lax_rises lax.OnePad = omega arith
lax_rises lax.TwoPads = omega arith
lax_rises lax.Closed = omega arith

standard_rises : (p : StandardPhase) → AllWays (Reaches (rank (part_of (phase.Standard p)))) (standard_row p)
standard_rises standard.Opened = omega arith
standard_rises standard.Leading = omega arith
standard_rises standard.BlankLine = omega arith
standard_rises standard.Data = omega arith
standard_rises standard.Trailing = omega arith
standard_rises standard.Line = omega arith
standard_rises standard.OnePad = omega arith
standard_rises standard.PadTrailing = omega arith
standard_rises standard.PadLine = omega arith
standard_rises standard.Ending = omega arith
standard_rises standard.Final = omega arith
standard_rises standard.Closed = omega arith
standard_rises standard.Ended = omega arith

end_rises : (a b : Bool) → Reaches 2 (cond a (phase.Strict strict.Line) (cond b (phase.Strict strict.Final) phase.Dead))
end_rises true b = omega arith
end_rises false true = omega arith
end_rises false false = omega arith

char_rises : (a : Bool) (n : ℕ) → Reaches 2 (cond a phase.Dead (phase.Strict (strict.Data n)))
char_rises true n = omega arith
char_rises false n = omega arith

pad_rises : (a b : Bool) → Reaches 2 (cond a (phase.Strict strict.Padded) (cond b (phase.Strict strict.OnePad) phase.Dead))
pad_rises true b = omega arith
pad_rises false true = omega arith
pad_rises false false = omega arith

strict_rises : (p : StrictPhase) → AllWays (Reaches (rank (part_of (phase.Strict p)))) (strict_row p)
strict_rises strict.Opened = omega arith
strict_rises strict.First = omega arith
strict_rises strict.Line = omega arith
strict_rises (strict.Data room) =
    (dead_reaches part.Body, dead_reaches part.Body, end_rises (eqb room 0) (eqb (room % 4) 0), char_rises (eqb room 0) _, pad_rises (eqb (room % 4) 1) (eqb (room % 4) 2), dead_reaches part.Body)
strict_rises strict.OnePad = omega arith
strict_rises strict.Padded = omega arith
strict_rises strict.Final = omega arith
strict_rises strict.Closed = omega arith
strict_rises strict.Ended = omega arith

pub next_rises : (g : Grammar) (p : Phase) (c : ℕ) → rank (part_of p) ≤ rank (part_of (next g p c))
next_rises g phase.Before c = omega arith
next_rises g (phase.Word b n) c = word_rises b n c
next_rises g (phase.Label b p) c = label_rises g b (label_target (label_row p) (kind_of c))
next_rises g (phase.Lax p) c = target_all (Reaches (rank (part_of (phase.Lax p)))) (lax_row p) (dead_reaches (part_of (phase.Lax p))) (lax_rises p) (kind_of c)
next_rises g (phase.Standard p) c = target_all (Reaches (rank (part_of (phase.Standard p)))) (standard_row p) (dead_reaches (part_of (phase.Standard p))) (standard_rises p) (kind_of c)
next_rises g (phase.Strict p) c = target_all (Reaches (rank (part_of (phase.Strict p)))) (strict_row p) (dead_reaches (part_of (phase.Strict p))) (strict_rises p) (kind_of c)
next_rises g phase.Dead c = omega arith

step_rises : (g : Grammar) (s : State) (c : ℕ) → rank (part_of s.phase) ≤ rank (part_of (step g s c).phase)
step_rises g s c = go (cond s.cr (eqb c LF) false)
  where
    go : (b : Bool) → rank (part_of s.phase) ≤ rank (part_of (cond b (state s.phase false) (state (next g s.phase c) (eqb c CR))).phase)
    go true = omega arith
    go false = next_rises g s.phase c

pub run_rises : (g : Grammar) (s : State) (l : List ℕ) → rank (part_of s.phase) ≤ rank (part_of (run g s l).phase)
run_rises g s [] = omega arith
run_rises g s (c ∷ l) = omega (arith, step_rises g s c, run_rises g (step g s c) l)
