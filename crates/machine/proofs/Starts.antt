-- The machine lives exactly on the starts of the grammar's texts, so it dies right behind the longest. Assumes nothing.
use mathlib.Core.Path.{◌≡◌, refl, sym, ap, ◌∙◌}
use mathlib.Core.Logic.{◌⊎◌, inl, inr, ◌≢◌}
use mathlib.Core.Bool.{Bool, true, false, cond, true≢false}
use mathlib.Core.List.{List, [], ◌∷◌, ◌++◌}
use Prim.Native.Nat.{ℕ, suc, ◌+◌, ◌-◌, ◌≤◌, ◌<◌, ◌%◌}
use lib.Dec.{eqb, ltb}
use lib.ListN.{length, take, drop, get_or}
use lib.Seq.{take-add}
use native.Mathlib.Omega.{arith}
use borrow.Author.Tests.{ltb-true}
use Rattle.grammar.specs.Marks.{CR, LF, hyphen}
use Rattle.grammar.specs.Starts.{Parse, Begins, LongestStart, HasOpening, HasClosing}
use Rattle.grammar.specs.declared.Grammar.{Grammar}
use Rattle.grammar.specs.declared.Grammar.TheVariants as grammar
use Rattle.machine.proofs.ByteKinds.{kind_of}
use Rattle.machine.proofs.Machine.{state, word_of, word_step, label_row, label_target, labelled, behind, lax_row, standard_row, strict_row, before_step, next, step, run, start, part_of, accepting}
use Rattle.machine.specs.declared.Boundary.{Boundary}
use Rattle.machine.specs.declared.Boundary.TheVariants.{Opening, Closing}
use Rattle.machine.specs.declared.Kind.{Kind}
use Rattle.machine.specs.declared.Kind.TheVariants as kind
use Rattle.machine.specs.declared.LabelPhase.TheVariants as label
use Rattle.machine.specs.declared.LabelTarget.{LabelTarget}
use Rattle.machine.specs.declared.LabelTarget.TheVariants.{To, Whole, Refused}
use Rattle.machine.specs.declared.LaxPhase.{LaxPhase}
use Rattle.machine.specs.declared.LaxPhase.TheVariants as lax
use Rattle.machine.specs.declared.StandardPhase.{StandardPhase}
use Rattle.machine.specs.declared.StandardPhase.TheVariants as standard
use Rattle.machine.specs.declared.StrictPhase.{StrictPhase}
use Rattle.machine.specs.declared.StrictPhase.TheVariants as strict
use Rattle.machine.specs.declared.Phase.{Phase}
use Rattle.machine.specs.declared.Phase.TheVariants.{Before, Word, Label, Lax, Standard, Strict, Dead}
use Rattle.machine.specs.declared.State.{State}
use Rattle.machine.proofs.Runs.{run_append}
use Rattle.machine.proofs.Parts.{rank, AllWays, target_all, run_rises}
use Rattle.machine.proofs.Boundaries.{dead_stays}
use Rattle.machine.proofs.Messages.{behind_body, Parsed, accepted_parses}
use Rattle.machine.proofs.Acceptance.{InRange, ToEnd, state_way, opening_run, body_closes, parse_accepted}

-- ---- The machine stays in range

word_range : (b : Boundary) (n c : ℕ) → InRange (word_step b n c)
word_range b n c = go (ltb n (length (word_of b))) (eqb c (get_or (word_of b) n 0)) (ltb (suc n) (length (word_of b))) refl
  where
    go : (x y z : Bool) → ltb (suc n) (length (word_of b)) ≡ z → InRange (cond x (cond y (cond z (Word b (suc n)) (Label b label.Start)) Dead) Dead)
    go true true true e = ltb-true _ _ e
    go true true false e = tt
    go true false z e = tt
    go false y z e = tt

label_range : (g : Grammar) (b : Boundary) (t : LabelTarget) → InRange (labelled g b t)
label_range g b (To p) = tt
label_range g b Refused = tt
label_range grammar.Lax Opening Whole = tt
label_range grammar.Standard Opening Whole = tt
label_range grammar.Strict Opening Whole = tt
label_range grammar.Lax Closing Whole = tt
label_range grammar.Standard Closing Whole = tt
label_range grammar.Strict Closing Whole = tt

before_range : (k : Kind) → InRange (before_step k)
before_range kind.Tab = tt
before_range kind.Space = tt
before_range kind.Cr = tt
before_range kind.Lf = tt
before_range kind.Feed = tt
before_range kind.Hyphen = omega arith
before_range kind.Alphabet = tt
before_range kind.Pad = tt
before_range kind.Mark = tt
before_range kind.Other = tt

lax_range : (p : LaxPhase) → AllWays InRange (lax_row p)
lax_range lax.Data = (tt, tt, tt, tt, tt, omega arith)
lax_range lax.OnePad = (tt, tt, tt, tt, tt, omega arith)
lax_range lax.TwoPads = (tt, tt, tt, tt, tt, omega arith)
lax_range lax.Closed = (tt, tt, tt, tt, tt, tt)

standard_range : (p : StandardPhase) → AllWays InRange (standard_row p)
standard_range standard.Opened = (tt, tt, tt, tt, tt, tt)
standard_range standard.Leading = (tt, tt, tt, tt, tt, tt)
standard_range standard.BlankLine = (tt, tt, tt, tt, tt, omega arith)
standard_range standard.Data = (tt, tt, tt, tt, tt, tt)
standard_range standard.Trailing = (tt, tt, tt, tt, tt, tt)
standard_range standard.Line = (tt, tt, tt, tt, tt, omega arith)
standard_range standard.OnePad = (tt, tt, tt, tt, tt, tt)
standard_range standard.PadTrailing = (tt, tt, tt, tt, tt, tt)
standard_range standard.PadLine = (tt, tt, tt, tt, tt, omega arith)
standard_range standard.Ending = (tt, tt, tt, tt, tt, tt)
standard_range standard.Final = (tt, tt, tt, tt, tt, omega arith)
standard_range standard.Closed = (tt, tt, tt, tt, tt, tt)
standard_range standard.Ended = (tt, tt, tt, tt, tt, tt)

choice_range : (a : Bool) (p q : Phase) → InRange p → InRange q → InRange (cond a p q)
choice_range true p q h k = h
choice_range false p q h k = k

strict_range : (p : StrictPhase) → AllWays InRange (strict_row p)
strict_range strict.Opened = (tt, tt, tt, tt, tt, tt)
strict_range strict.First = (tt, tt, tt, tt, tt, tt)
strict_range strict.Line = (tt, tt, tt, tt, tt, omega arith)
strict_range (strict.Data room) = (
  tt,
  tt,
  choice_range (eqb room 0) (Strict strict.Line) (cond (eqb (room % 4) 0) (Strict strict.Final) Dead) tt (choice_range (eqb (room % 4) 0) (Strict strict.Final) Dead tt tt),
  choice_range (eqb room 0) Dead (Strict (strict.Data (room - 1))) tt tt,
  choice_range (eqb (room % 4) 1) (Strict strict.Padded) (cond (eqb (room % 4) 2) (Strict strict.OnePad) Dead) tt (choice_range (eqb (room % 4) 2) (Strict strict.OnePad) Dead tt tt),
  tt,
)
strict_range strict.OnePad = (tt, tt, tt, tt, tt, tt)
strict_range strict.Padded = (tt, tt, tt, tt, tt, tt)
strict_range strict.Final = (tt, tt, tt, tt, tt, omega arith)
strict_range strict.Closed = (tt, tt, tt, tt, tt, tt)
strict_range strict.Ended = (tt, tt, tt, tt, tt, tt)

next_range : (g : Grammar) (p : Phase) (c : ℕ) → InRange (next g p c)
next_range g Before c = before_range (kind_of c)
next_range g (Word b n) c = word_range b n c
next_range g (Label b p) c = label_range g b (label_target (label_row p) (kind_of c))
next_range g (Lax p) c = target_all InRange (lax_row p) tt (lax_range p) (kind_of c)
next_range g (Standard p) c = target_all InRange (standard_row p) tt (standard_range p) (kind_of c)
next_range g (Strict p) c = target_all InRange (strict_row p) tt (strict_range p) (kind_of c)
next_range g Dead c = tt

step_range : (g : Grammar) (s : State) (c : ℕ) → InRange s.phase → InRange (step g s c).phase
step_range g s c h = go (cond s.cr (eqb c LF) false)
  where
    go : (b : Bool) → InRange (cond b (state s.phase false) (state (next g s.phase c) (eqb c CR))).phase
    go true = h
    go false = next_range g s.phase c

run_range : (g : Grammar) (s : State) (l : List ℕ) → InRange s.phase → InRange (run g s l).phase
run_range g s [] h = h
run_range g s (c ∷ l) h = run_range g (step g s c) l (step_range g s c h)

pub start_range : (g : Grammar) → InRange (start g).phase
start_range grammar.Lax = tt
start_range grammar.Standard = omega arith
start_range grammar.Strict = omega arith

-- ---- It lives exactly on the starts

-- Where it lives, some list leads on to the end.
pub lives_ends : (g : Grammar) (s : State) → InRange s.phase → (l : List ℕ) → (run g s l).phase ≢ Dead
    → Begins (λ t. accepting (run g s t).phase ≡ true) l
lives_ends g s r l n =
    let w : ToEnd g (run g s l) = state_way g (run g s l).phase (run g s l).cr (run_range g s l r) n in
    record { rest = w.bytes; whole = ap (λ u. accepting u.phase) (run_append g s l w.bytes) ∙ w.ends }

pub lives_begins : (g : Grammar) (l : List ℕ) → (run g (start g) l).phase ≢ Dead → Begins (Parse g) l
lives_begins g l n =
    let b = lives_ends g (start g) (start_range g) l n in
    let p : Parsed g (l ++ b.rest) = accepted_parses g (l ++ b.rest) b.whole in
    record { rest = b.rest; whole = record { reading = p.reading; joined = p.joined; shape = p.shape } }

-- Dead stays dead, from any state.
pub dead_run : (g : Grammar) (s : State) (l : List ℕ) → s.phase ≡ Dead → (run g s l).phase ≡ Dead
dead_run g s l e = ap (λ p. (run g (state p s.cr) l).phase) e ∙ dead_stays g s.cr l

pub begins_lives : (g : Grammar) (l : List ℕ) → Begins (Parse g) l → (run g (start g) l).phase ≢ Dead
begins_lives g l b e =
    true≢false
    (sym (parse_accepted g (l ++ b.rest) b.whole)
    ∙ ap (λ u. accepting u.phase) (run_append g (start g) l b.rest)
    ∙ ap accepting (dead_run g (run g (start g) l) b.rest e))

-- Where it has lived so far, and the text is at its end or the next byte kills it, there the longest start ends.
pub lives_longest : (g : Grammar) (t : List ℕ) (k : ℕ) → k ≤ length t → (run g (start g) (take k t)).phase ≢ Dead
    → (k ≡ length t) ⊎ ((run g (start g) (take (suc k) t)).phase ≡ Dead) → LongestStart (Parse g) t k
lives_longest g t k h n stop =
    record { within = h; begins = lives_begins g (take k t) n; longest = λ m low high b. go m low high (begins_lives g (take m t) b) stop }
  where
    go : (m : ℕ) → k < m → m ≤ length t → (run g (start g) (take m t)).phase ≢ Dead
        → ¬ ((k ≡ length t) ⊎ ((run g (start g) (take (suc k) t)).phase ≡ Dead))
    go m low high live (inl e) = omega arith
    go m low high live (inr e) =
        let sum : m ≡ suc k + (m - suc k) = omega arith in
        let cut : take m t ≡ take (suc k) t ++ take (m - suc k) (drop (suc k) t) = ap (λ i. take i t) sum ∙ take-add (suc k) (m - suc k) t in
        live
        (ap (λ l. (run g (start g) l).phase) cut
        ∙ ap (λ u. u.phase) (run_append g (start g) (take (suc k) t) (take (m - suc k) (drop (suc k) t)))
        ∙ dead_run g (run g (start g) (take (suc k) t)) (take (m - suc k) (drop (suc k) t)) e)

-- ---- What a start has

pub opening_rank : (g : Grammar) (l : List ℕ) → HasOpening g l → 2 ≤ rank (part_of (run g (start g) l).phase)
opening_rank g l o =
    let e : run g (start g) l ≡ run g (state (behind g Opening) false) o.rest = ap (run g (start g)) o.joined ∙ opening_run g o.before o.label o.is_before o.is_label o.rest in
    rw e (omega (arith, ap rank (behind_body g), run_rises g (state (behind g Opening) false) o.rest))

pub closing_rank : (g : Grammar) (l : List ℕ) → HasClosing g l → 3 ≤ rank (part_of (run g (start g) l).phase)
closing_rank g l o =
    let e : run g (start g) l ≡ run g (state (Word Closing 1) false) o.rest = ap (run g (start g)) o.joined
    ∙ opening_run g o.before o.label o.is_before o.is_label (o.body ++ (hyphen ∷ o.rest))
    ∙ body_closes g o.body o.is_body o.rest in
    rw e (omega (arith, run_rises g (state (Word Closing 1) false) o.rest))
