-- The machine in a label and the five hyphens behind it, and the test of a label by itself. Assumes nothing.
use mathlib.Core.Path.{◌≡◌, refl, ap, subst, ◌∙◌}
use mathlib.Core.Logic.{◌⊎◌, inl, inr}
use mathlib.Core.Bool.{true, false, false≢true}
use mathlib.Core.List.{List, [], ◌∷◌, ◌++◌, append_cancel_right}
use Prim.Native.Nat.{ℕ}
use lib.Dec.{eqb}
use native.Mathlib.Omega.{arith}
use Rattle.base_64.specs.Alphabet.{pad}
use Rattle.grammar.specs.Marks.{CR, SP, hyphen, hyphens, LabelChar, Separator, LabelChars, last, next, separated, Label, empty, chars}
use Rattle.grammar.specs.declared.Grammar.{Grammar}
use Rattle.machine.proofs.ByteKinds.{kind_of}
use Rattle.machine.proofs.Machine.{state, label_row, label_target, label_step, label_onward, label_from, behind, run}
use Rattle.machine.specs.declared.Boundary.{Boundary}
use Rattle.machine.specs.declared.LabelPhase.{LabelPhase}
use Rattle.machine.specs.declared.LabelPhase.TheVariants.{Start, Char, Space, Hyphen, One, Two, Three, Four}
use Rattle.machine.specs.declared.LabelRow.{LabelRow}
use Rattle.machine.specs.declared.LabelTarget.{LabelTarget}
use Rattle.machine.specs.declared.LabelTarget.TheVariants.{To, Whole, Refused}
use Rattle.machine.specs.declared.Phase.TheVariants as phase
use Rattle.machine.proofs.Bytes.{View, tab, space, cr, lf, vt, ff, dash, equals, char, mark, other, view}

-- Something, with the five hyphens behind it.
pub data Ended (P : List ℕ → Type 0) : List ℕ → Type 0 where
  ended : (m : List ℕ) → P m → Ended P (m ++ hyphens)

-- What may follow a character of a label.
pub data CharsRest : List ℕ → Type 0 where
  none : CharsRest []
  more : {l : List ℕ} → LabelChars l → CharsRest l
  apart : {s : ℕ} {l : List ℕ} → Separator s → LabelChars l → CharsRest (s ∷ l)

-- What may still come of a label and its hyphens.
abbrev pub LabelRest : LabelPhase → List ℕ → Type 0
LabelRest Start l = Ended Label l
LabelRest Char l = Ended CharsRest l
LabelRest Space l = Ended LabelChars l
LabelRest Hyphen l = (l ≡ hyphen ∷ hyphen ∷ hyphen ∷ hyphen ∷ []) ⊎ Ended LabelChars l
LabelRest One l = l ≡ hyphen ∷ hyphen ∷ hyphen ∷ hyphen ∷ []
LabelRest Two l = l ≡ hyphen ∷ hyphen ∷ hyphen ∷ []
LabelRest Three l = l ≡ hyphen ∷ hyphen ∷ []
LabelRest Four l = l ≡ hyphen ∷ []

abbrev pub TargetRest : LabelTarget → List ℕ → Type 0
TargetRest (To p) l = LabelRest p l
TargetRest Whole l = l ≡ []
TargetRest Refused l = ⊥

-- A character in front of what may follow it.
char_chars : {c : ℕ} {l : List ℕ} → LabelChar c → CharsRest l → LabelChars (c ∷ l)
char_chars h none = last h
char_chars h (more v) = next h v
char_chars h (apart s v) = separated h s v

char_before : (p : LabelPhase) (c : ℕ) (l : List ℕ) → LabelChar c → TargetRest (label_row p).char l → LabelRest p (c ∷ l)
char_before Start c l h (ended m t) = ended (c ∷ m) (chars (char_chars h t))
char_before Char c l h (ended m t) = ended (c ∷ m) (more (char_chars h t))
char_before Space c l h (ended m t) = ended (c ∷ m) (char_chars h t)
char_before Hyphen c l h (ended m t) = inr (ended (c ∷ m) (char_chars h t))
char_before One c l h t = absurd t
char_before Two c l h t = absurd t
char_before Three c l h t = absurd t
char_before Four c l h t = absurd t

hyphen_before : (p : LabelPhase) (l : List ℕ) → TargetRest (label_row p).hyphen l → LabelRest p (hyphen ∷ l)
hyphen_before Start l e = rw e (ended [] empty)
hyphen_before Char l (inl e) = rw e (ended [] none)
hyphen_before Char l (inr (ended m v)) = ended (hyphen ∷ m) (apart (inl refl) v)
hyphen_before Space l t = absurd t
hyphen_before Hyphen l e = inl (ap (λ x. hyphen ∷ x) e)
hyphen_before One l e = ap (λ x. hyphen ∷ x) e
hyphen_before Two l e = ap (λ x. hyphen ∷ x) e
hyphen_before Three l e = ap (λ x. hyphen ∷ x) e
hyphen_before Four l e = ap (λ x. hyphen ∷ x) e

space_before : (p : LabelPhase) (l : List ℕ) → TargetRest (label_row p).space l → LabelRest p (SP ∷ l)
space_before Start l t = absurd t
space_before Char l (ended m v) = ended (SP ∷ m) (apart (inr refl) v)
space_before Space l t = absurd t
space_before Hyphen l t = absurd t
space_before One l t = absurd t
space_before Two l t = absurd t
space_before Three l t = absurd t
space_before Four l t = absurd t

-- What may come behind a byte may come with it.
pub label_before : (p : LabelPhase) (c : ℕ) (l : List ℕ) → TargetRest (label_target (label_row p) (kind_of c)) l → LabelRest p (c ∷ l)
label_before p c l t = go (view c) t
  where
    go : {c : ℕ} → View c → TargetRest (label_target (label_row p) (kind_of c)) l → LabelRest p (c ∷ l)
    go tab t = absurd t
    go space t = space_before p l t
    go cr t = absurd t
    go lf t = absurd t
    go vt t = absurd t
    go ff t = absurd t
    go dash t = hyphen_before p l t
    go equals t = char_before p pad l (inr (omega arith)) t
    go (char a k s) t = char_before p _ l k (rw s.kind at t)
    go (mark k s) t = char_before p _ l k (rw s.kind at t)
    go (other k s) t = absurd (rw s.kind at t)

-- CR has no way on in a label.
abbrev pub NoCr : LabelTarget → ℕ → Type 0
NoCr (To p) c = eqb c CR ≡ false
NoCr Whole c = eqb c CR ≡ false
NoCr Refused c = Unit {0}

no_cr_any : (t : LabelTarget) (c : ℕ) → eqb c CR ≡ false → NoCr t c
no_cr_any (To p) c e = e
no_cr_any Whole c e = e
no_cr_any Refused c e = tt

pub label_no_cr : (r : LabelRow) (c : ℕ) → NoCr (label_target r (kind_of c)) c
label_no_cr r c = go (view c)
  where
    go : {c : ℕ} → View c → NoCr (label_target r (kind_of c)) c
    go tab = tt
    go space = no_cr_any r.space SP refl
    go cr = tt
    go lf = tt
    go vt = tt
    go ff = tt
    go dash = no_cr_any r.hyphen hyphen refl
    go equals = no_cr_any r.char pad refl
    go (char {c} a k s) = no_cr_any (label_target r (kind_of c)) c s.no_cr
    go (mark {c} k s) = no_cr_any (label_target r (kind_of c)) c s.no_cr
    go (other {c} k s) = no_cr_any (label_target r (kind_of c)) c s.no_cr

-- A character takes the way for characters, and is no CR.
char_seen : {c : ℕ} → LabelChar c → (r : LabelRow) → (label_target r (kind_of c) ≡ r.char) × (eqb c CR ≡ false)
char_seen {c} h r = go (view c) h
  where
    go : {c : ℕ} → View c → LabelChar c → (label_target r (kind_of c) ≡ r.char) × (eqb c CR ≡ false)
    go tab (inl l) = absurd (omega arith)
    go tab (inr l) = absurd (omega arith)
    go space (inl l) = absurd (omega arith)
    go space (inr l) = absurd (omega arith)
    go cr (inl l) = absurd (omega arith)
    go cr (inr l) = absurd (omega arith)
    go lf (inl l) = absurd (omega arith)
    go lf (inr l) = absurd (omega arith)
    go vt (inl l) = absurd (omega arith)
    go vt (inr l) = absurd (omega arith)
    go ff (inl l) = absurd (omega arith)
    go ff (inr l) = absurd (omega arith)
    go dash (inl l) = absurd (omega arith)
    go dash (inr l) = absurd (omega arith)
    go equals l = (refl, refl)
    go (char a k s) l = (rw s.kind, s.no_cr)
    go (mark k s) l = (rw s.kind, s.no_cr)
    go (other k s) l = absurd (k l)

char_moves : (g : Grammar) (b : Boundary) (p : LabelPhase) (c : ℕ) (x : List ℕ) → LabelChar c → (label_row p).char ≡ To Char
    → run g (state (phase.Label b p) false) (c ∷ x) ≡ run g (state (phase.Label b Char) false) x
char_moves g b p c x h e =
    let seen = char_seen h (label_row p) in
    rw (seen.0, seen.1, e)

chars_run : (g : Grammar) (b : Boundary) (p : LabelPhase) → (label_row p).char ≡ To Char → {l : List ℕ} → LabelChars l → (x : List ℕ)
    → run g (state (phase.Label b p) false) (l ++ (hyphens ++ x)) ≡ run g (state (behind g b) false) x
chars_run g b p e (last h) x = char_moves g b p _ (hyphens ++ x) h e
chars_run g b p e (next {c} {l} h v) x = char_moves g b p c (l ++ (hyphens ++ x)) h e ∙ chars_run g b Char refl v x
chars_run g b p e (separated {c} {s} {l} h (inl q) v) x = char_moves g b p c (s ∷ (l ++ (hyphens ++ x))) h e ∙ rw q (chars_run g b Hyphen refl v x)
chars_run g b p e (separated {c} {s} {l} h (inr q) v) x = char_moves g b p c (s ∷ (l ++ (hyphens ++ x))) h e ∙ rw q (chars_run g b Space refl v x)

-- From its start the machine reads a label and its hyphens, and is then behind the boundary.
pub label_run : (g : Grammar) (b : Boundary) {l : List ℕ} → Label l → (x : List ℕ)
    → run g (state (phase.Label b Start) false) (l ++ (hyphens ++ x)) ≡ run g (state (behind g b) false) x
label_run g b empty x = refl
label_run g b (chars v) x = chars_run g b Start refl v x

-- ---- the label test: it passes exactly the labels

test_before : (p : LabelPhase) (l : List ℕ) → label_from p l ≡ true → LabelRest p (l ++ hyphens)
unfolding label_from
test_before Start [] e = ended [] empty
test_before Char [] e = ended [] none
test_before Space [] e = absurd (false≢true e)
test_before Hyphen [] e = absurd (false≢true e)
test_before One [] e = absurd (false≢true e)
test_before Two [] e = absurd (false≢true e)
test_before Three [] e = absurd (false≢true e)
test_before Four [] e = absurd (false≢true e)
test_before p (c ∷ l) e = label_before p c (l ++ hyphens) (go (label_step p c) (λ m. test_before m l) e)
  where
    go : (t : LabelTarget) → ((m : LabelPhase) → label_from m l ≡ true → LabelRest m (l ++ hyphens))
        → label_onward t (λ m. label_from m l) ≡ true → TargetRest t (l ++ hyphens)
    go (To m) later k = later m k
    go Whole later k = absurd (false≢true k)
    go Refused later k = absurd (false≢true k)

ended_label : (l x : List ℕ) → Ended Label x → x ≡ l ++ hyphens → Label l
ended_label l x (ended m h) e = subst Label (append_cancel_right m l hyphens e) h

pub test_label : (l : List ℕ) → label_from Start l ≡ true → Label l
test_label l e = ended_label l (l ++ hyphens) (test_before Start l e) refl

char_tested : (p : LabelPhase) (c : ℕ) (l : List ℕ) → LabelChar c → (label_row p).char ≡ To Char → label_from p (c ∷ l) ≡ label_from Char l
unfolding label_from
char_tested p c l h e = rw ((char_seen h (label_row p)).0, e)

chars_tested : (p : LabelPhase) → (label_row p).char ≡ To Char → {l : List ℕ} → LabelChars l → label_from p l ≡ true
unfolding label_from
chars_tested p e (last {c} h) = char_tested p c [] h e
chars_tested p e (next {c} {l} h v) = char_tested p c l h e ∙ chars_tested Char refl v
chars_tested p e (separated {c} {s} {l} h (inl q) v) = char_tested p c (s ∷ l) h e ∙ rw q (chars_tested Hyphen refl v)
chars_tested p e (separated {c} {s} {l} h (inr q) v) = char_tested p c (s ∷ l) h e ∙ rw q (chars_tested Space refl v)

pub label_test : {l : List ℕ} → Label l → label_from Start l ≡ true
unfolding label_from
label_test empty = refl
label_test (chars v) = chars_tested Start refl v
