-- Leaps over the bytes of a boundary. Assumes nothing.
use mathlib.Core.Path.{◌≡◌, refl, sym, subst, ◌∙◌}
use mathlib.Core.Logic.{inl, inr}
use mathlib.Core.Bool.{Bool, true, false, not}
use mathlib.Core.List.{List}
use Prim.Native.Nat.{ℕ, zero, suc, ◌+◌, ◌-◌, ◌≤◌, ◌<◌}
use native.Mathlib.Omega.{arith}
use lib.Dec.{T, eqb, eqb→eq}
use lib.ListN.{length, get_or}
use borrow.Author.Tests.{eq-eqb, lt-ltb, le-ltb, eqb-true, eqb-false}
use Rattle.base_64.proofs.Tests.{below_at}
use Rattle.grammar.specs.Marks.{CR, LF, hyphen, hyphens, LabelChar}
use Rattle.grammar.specs.declared.Grammar.{Grammar}
use Rattle.grammar.specs.declared.Grammar.TheVariants as grammar
use Rattle.machine.proofs.ByteKinds.{kind_of}
use Rattle.machine.proofs.Bytes as seen
use Rattle.machine.proofs.Bytes.{View, view}
use Rattle.machine.proofs.Machine.{state, next, part_of, boundary_part, byte_part, dead, word_of, label_row, label_target, label_ends, behind}
use Rattle.machine.specs.declared.Boundary.{Boundary}
use Rattle.machine.specs.declared.Boundary.TheVariants.{Opening, Closing}
use Rattle.machine.specs.declared.Kind.{Kind}
use Rattle.machine.specs.declared.LabelPhase.{LabelPhase}
use Rattle.machine.specs.declared.LabelPhase.TheVariants.{Start, Char, Space, Hyphen, One, Two, Three, Four}
use Rattle.machine.specs.declared.LabelTarget.TheVariants.{To}
use Rattle.machine.specs.declared.LabelRow.{LabelRow}
use Rattle.machine.specs.declared.Part.{Part}
use Rattle.machine.specs.declared.State.{State}
use Rattle.machine.specs.declared.Phase.{Phase}
use Rattle.machine.specs.declared.Phase.TheVariants.{Word, Label}
use Rattle.scanner.specs.declared.Position.{Position}
use Rattle.reading.specs.declared.Tally.{Tally}
use Rattle.reading.specs.Scan.{tallied}
use Rattle.runs.specs.Runs.{Stands, LabelRun}
use Rattle.scanner.specs.Advances.{place, in_phase, Advanced, Countable, boundary_tallied, ended_tallied}
use Rattle.leaps.specs.Phases.{Closes}
use Rattle.scanner.specs.Phases.{Continues}
use Rattle.scanner.proofs.Advances.{advanced_then, advanced_byte, advanced_plain, step_moves}

-- A position by its phase.
with_phase : {g : Grammar} {text : List ℕ} (p : Position) {q : Phase} {r : Position} → p.state.phase ≡ q → Advanced g text (place p.at (state q p.state.cr) p.tally) r
    → Advanced g text p r
with_phase {g} {text} p {r = r} e l = subst (λ (q : Phase). Advanced g text (place p.at (state q p.state.cr) p.tally) r) (sym e) l

-- A byte leads from one phase of a boundary on.
record Inner (g : Grammar) (b : Boundary) (p q : Phase) (c : ℕ) : Type 0 where
  pub from : part_of p ≡ boundary_part b
  pub alive : dead q ≡ false
  pub leads : next g p c ≡ q
  pub no_lf : eqb c LF ≡ false
  pub no_cr : eqb c CR ≡ false

boundary_tallied_lem : (b : Boundary) (to : Part) (k : Kind) (t : Tally) → boundary_tallied b 1 t ≡ tallied (byte_part (boundary_part b) to) k t
boundary_tallied_lem Opening to k t = refl
boundary_tallied_lem Closing to k t = refl

boundary_more : (b : Boundary) (m n : ℕ) (t : Tally) → boundary_tallied b n (boundary_tallied b m t) ≡ boundary_tallied b (m + n) t
boundary_more Opening m n t = let e : t.opening + m + n ≡ t.opening + (m + n) = omega arith in rw e
boundary_more Closing m n t = let e : t.closing + m + n ≡ t.closing + (m + n) = omega arith in rw e

module _ {g : Grammar} {text : List ℕ} {b : Boundary} where
  advanced_inner : {p q : Phase} (cr : Bool) (t : Tally) (i : ℕ) → i < length text → Inner g b p q (get_or text i 0)
      → Advanced g text (place i (state p cr) t) (in_phase (i + 1) q (boundary_tallied b 1 t))
  advanced_inner {p} {q} cr t i h w =
      advanced_plain (state p cr) t i (state q false) (boundary_tallied b 1 t) h
      (step_moves g p cr (get_or text i 0) w.no_lf ∙ rw (w.leads, w.no_cr))
      w.alive
      w.no_lf
      w.no_cr
      (boundary_tallied_lem b (part_of q) (kind_of (get_or text i 0)) t ∙ rw w.from)

  -- One byte, and then more of the same boundary.
  inner_then : {p q r : Phase} (cr : Bool) (t : Tally) (i n j : ℕ) → i < length text → Inner g b p q (get_or text i 0)
      → Advanced g text (in_phase (i + 1) q (boundary_tallied b 1 t)) (in_phase j r (boundary_tallied b n (boundary_tallied b 1 t)))
      → (m : ℕ) → m ≡ 1 + n → Advanced g text (place i (state p cr) t) (in_phase j r (boundary_tallied b m t))
  inner_then cr t i n j h w l m e = advanced_then (advanced_inner cr t i h w) (rw (e, ← boundary_more b 1 n t) l)

-- ---- "-----BEGIN " and "-----END "

is_false : (t : Bool) → T (not t) → t ≡ false
is_false true h = absurd h
is_false false h = refl

word_marks : (b : Boundary) (n : ℕ) → n < length (word_of b) → (eqb (get_or (word_of b) n 0) LF ≡ false) × (eqb (get_or (word_of b) n 0) CR ≡ false)
word_marks Opening n h = (is_false _ (below_at (λ k. not (eqb (get_or (word_of Opening) k 0) LF)) 11 tt n h), is_false _ (below_at (λ k. not (eqb (get_or (word_of Opening) k 0) CR)) 11 tt n h))
word_marks Closing n h = (is_false _ (below_at (λ k. not (eqb (get_or (word_of Closing) k 0) LF)) 9 tt n h), is_false _ (below_at (λ k. not (eqb (get_or (word_of Closing) k 0) CR)) 9 tt n h))

word_within : (g : Grammar) (b : Boundary) (n c : ℕ) → suc n < length (word_of b) → c ≡ get_or (word_of b) n 0 → Inner g b (Word b n) (Word b (suc n)) c
word_within g b n c h e =
    let m = word_marks b n (omega arith) in
    record {
      from = refl;
      alive = refl;
      leads = rw (lt-ltb n (length (word_of b)) (omega arith), eq-eqb c (get_or (word_of b) n 0) e, lt-ltb (suc n) (length (word_of b)) h);
      no_lf = rw e m.0;
      no_cr = rw e m.1;
    }

word_last : (g : Grammar) (b : Boundary) (n c : ℕ) → suc n ≡ length (word_of b) → c ≡ get_or (word_of b) n 0 → Inner g b (Word b n) (Label b Start) c
word_last g b n c h e =
    let m = word_marks b n (omega arith) in
    record {
      from = refl;
      alive = refl;
      leads = rw (lt-ltb n (length (word_of b)) (omega arith), eq-eqb c (get_or (word_of b) n 0) e, le-ltb (suc n) (length (word_of b)) (omega arith));
      no_lf = rw e m.0;
      no_cr = rw e m.1;
    }

stands_first : {text : List ℕ} {i : ℕ} {word : List ℕ} {n : ℕ} → Stands text i word n → n < length word → get_or text i 0 ≡ get_or word n 0
stands_first {text} {i} {word} {n} s h = let e : i + (n - n) ≡ i = omega arith in rw e at (s.there n (omega arith) h)

stands_rest : {text : List ℕ} {i : ℕ} {word : List ℕ} {n : ℕ} → Stands text i word n → n < length word → Stands text (i + 1) word (suc n)
stands_rest {text} {i} {word} {n} s h = record {
  room = omega (arith, s.room);
  there = λ k low high.
      let e : i + 1 + (k - suc n) ≡ i + (k - n) = omega arith in
      rw e (s.there k (omega arith) high);
}

-- What is left of the word, in m + 1 bytes.
word_run : {g : Grammar} {text : List ℕ} (b : Boundary) (m n : ℕ) → n + suc m ≡ length (word_of b) → (cr : Bool) (t : Tally) (i : ℕ) → Stands text i (word_of b) n
    → Advanced g text (place i (state (Word b n) cr) t) (in_phase (i + suc m) (Label b Start) (boundary_tallied b (suc m) t))
word_run {g} {text} b zero n h cr t i s =
    advanced_inner cr t i (omega (arith, s.room)) (word_last g b n (get_or text i 0) (omega arith) (stands_first s (omega arith)))
word_run {g} {text} b (suc m) n h cr t i s =
    let end : i + 1 + suc m ≡ i + suc (suc m) = omega arith in
    inner_then cr t i (suc m) (i + suc (suc m)) (omega (arith, s.room)) (word_within g b n (get_or text i 0) (omega arith) (stands_first s (omega arith)))
    (rw end at (word_run {g = g} b m (suc n) (omega arith) false (boundary_tallied b 1 t) (i + 1) (stands_rest s (omega arith))))
    (suc (suc m)) (omega arith)

pub word_leap : {g : Grammar} {text : List ℕ} (b : Boundary) (n : ℕ) (p : Position) → p.state.phase ≡ Word b n → n < length (word_of b) → Stands text p.at (word_of b) n
    → Advanced g text p (in_phase (p.at + (length (word_of b) - n)) (Label b Start) (boundary_tallied b (length (word_of b) - n) p.tally))
word_leap {g} b n p f h s =
    let e : suc (length (word_of b) - n - 1) ≡ length (word_of b) - n = omega arith in
    with_phase p f (rw e at (word_run {g = g} b (length (word_of b) - n - 1) n (omega arith) p.state.cr p.tally p.at s))

-- ---- A label, and five hyphens

-- A label character takes the way for characters, and is no line end.
record CharSeen (r : LabelRow) (c : ℕ) : Type 0 where
  pub way : label_target r (kind_of c) ≡ r.char
  pub no_cr : eqb c CR ≡ false
  pub no_lf : eqb c LF ≡ false

char_seen : {c : ℕ} → LabelChar c → (r : LabelRow) → CharSeen r c
char_seen {c} h r = go (view c) h
  where
    go : {c : ℕ} → View c → LabelChar c → CharSeen r c
    go seen.tab (inl l) = absurd (omega arith)
    go seen.tab (inr l) = absurd (omega arith)
    go seen.space (inl l) = absurd (omega arith)
    go seen.space (inr l) = absurd (omega arith)
    go seen.cr (inl l) = absurd (omega arith)
    go seen.cr (inr l) = absurd (omega arith)
    go seen.lf (inl l) = absurd (omega arith)
    go seen.lf (inr l) = absurd (omega arith)
    go seen.vt (inl l) = absurd (omega arith)
    go seen.vt (inr l) = absurd (omega arith)
    go seen.ff (inl l) = absurd (omega arith)
    go seen.ff (inr l) = absurd (omega arith)
    go seen.dash (inl l) = absurd (omega arith)
    go seen.dash (inr l) = absurd (omega arith)
    go seen.equals l = record { way = refl; no_cr = refl; no_lf = refl }
    go (seen.char a k s) l = record { way = rw s.kind; no_cr = s.no_cr; no_lf = s.no_lf }
    go (seen.mark k s) l = record { way = rw s.kind; no_cr = s.no_cr; no_lf = s.no_lf }
    go (seen.other k s) l = absurd (k l)

label_inner : (g : Grammar) (b : Boundary) (p : LabelPhase) (c : ℕ) → (label_row p).char ≡ To Char → LabelChar c → Inner g b (Label b p) (Label b Char) c
label_inner g b p c e h =
    let s = char_seen h (label_row p) in
    record { from = refl; alive = refl; leads = rw (s.way, e); no_lf = s.no_lf; no_cr = s.no_cr }

label_more : {g : Grammar} {text : List ℕ} (b : Boundary) (m : ℕ) (p : LabelPhase) → (label_row p).char ≡ To Char → (cr : Bool) (t : Tally) (i : ℕ) → i + suc m ≤ length text
    → LabelRun text i (i + suc m) → Advanced g text (place i (state (Label b p) cr) t) (in_phase (i + suc m) (Label b Char) (boundary_tallied b (suc m) t))
label_more {g} {text} b zero p e cr t i h a = advanced_inner cr t i (omega arith) (label_inner g b p (get_or text i 0) e (a.all i (omega arith) (omega arith)))
label_more {g} {text} b (suc m) p e cr t i h a =
    let end : i + 1 + suc m ≡ i + suc (suc m) = omega arith in
    inner_then cr t i (suc m) (i + suc (suc m)) (omega arith) (label_inner g b p (get_or text i 0) e (a.all i (omega arith) (omega arith)))
    (rw end at (label_more {g = g} {text = text} b m Char refl false (boundary_tallied b 1 t) (i + 1) (omega arith) (record { all = λ k low high. a.all k (omega arith) (omega arith) })))
    (suc (suc m)) (omega arith)

label_leap : {g : Grammar} {text : List ℕ} (b : Boundary) (p : LabelPhase) → (label_row p).char ≡ To Char → (cr : Bool) (t : Tally) (i j : ℕ) → i < j → j ≤ length text
    → LabelRun text i j → Advanced g text (place i (state (Label b p) cr) t) (in_phase j (Label b Char) (boundary_tallied b (j - i) t))
label_leap {g} {text} b p e cr t i j h inside a =
    let count : suc (j - i - 1) ≡ j - i = omega arith in
    let end : i + (j - i) ≡ j = omega arith in
    let a' : LabelRun text i (i + suc (j - i - 1)) = rw (count, end) a in
    rw end at (rw count at (label_more {g = g} {text = text} b (j - i - 1) p e cr t i (omega arith) a'))

behind_alive : (g : Grammar) (b : Boundary) → dead (behind g b) ≡ false
behind_alive grammar.Lax Opening = refl
behind_alive grammar.Standard Opening = refl
behind_alive grammar.Strict Opening = refl
behind_alive grammar.Lax Closing = refl
behind_alive grammar.Standard Closing = refl
behind_alive grammar.Strict Closing = refl

hyphen_inner : (g : Grammar) (b : Boundary) (p q : LabelPhase) (c : ℕ) → (label_row p).hyphen ≡ To q → c ≡ hyphen → Inner g b (Label b p) (Label b q) c
hyphen_inner g b p q c e h = record { from = refl; alive = refl; leads = rw (h, e); no_lf = rw h; no_cr = rw h }

hyphen_last : (g : Grammar) (b : Boundary) (c : ℕ) → c ≡ hyphen → Inner g b (Label b Four) (behind g b) c
hyphen_last g b c h = record { from = refl; alive = behind_alive g b; leads = rw h; no_lf = rw h; no_cr = rw h }

hyphen_at : {text : List ℕ} {i : ℕ} → Stands text i hyphens 0 → (k : ℕ) → k < 5 → get_or text (i + k) 0 ≡ hyphen
hyphen_at {text} {i} s k h =
    let e : i + (k - 0) ≡ i + k = omega arith in
    (rw e at (s.there k (omega arith) h)) ∙ eqb→eq _ _ (below_at (λ n. eqb (get_or hyphens n 0) hyphen) 5 tt k h)

-- The five hyphens behind a label, or without one.
hyphens_leap : {g : Grammar} {text : List ℕ} (b : Boundary) (p q : LabelPhase) → (label_row p).hyphen ≡ To q → (label_row q).hyphen ≡ To Two → (cr : Bool) (t : Tally) (i : ℕ)
    → Stands text i hyphens 0 → Advanced g text (place i (state (Label b p) cr) t) (in_phase (i + 5) (behind g b) (boundary_tallied b 5 t))
hyphens_leap {g} {text} b p q ep eq cr t i s =
    let room : i + 5 ≤ length text = omega (arith, s.room) in
    let at : (k : ℕ) → k < 5 → get_or text (i + k) 0 ≡ hyphen = λ k h. hyphen_at s k h in
    let i0 : i + 0 ≡ i = omega arith in
    let i2 : i + 1 + 1 ≡ i + 2 = omega arith in
    let i3 : i + 2 + 1 ≡ i + 3 = omega arith in
    let i4 : i + 3 + 1 ≡ i + 4 = omega arith in
    let i5 : i + 4 + 1 ≡ i + 5 = omega arith in
    let t1 = boundary_tallied b 1 t in
    inner_then cr t i 4 (i + 5) (omega arith) (hyphen_inner g b p q (get_or text i 0) ep (rw i0 at (at 0 (omega arith))))
    (inner_then false (boundary_tallied b 1 t) (i + 1) 3 (i + 5) (omega arith) (hyphen_inner g b q Two (get_or text (i + 1) 0) eq (at 1 (omega arith)))
    (rw i2
    (inner_then false (boundary_tallied b 1 (boundary_tallied b 1 t)) (i + 2) 2 (i + 5) (omega arith) (hyphen_inner g b Two Three (get_or text (i + 2) 0) refl (at 2 (omega arith)))
    (rw i3
    (inner_then false (boundary_tallied b 1 (boundary_tallied b 1 (boundary_tallied b 1 t))) (i + 3) 1 (i + 5) (omega arith) (hyphen_inner g b Three Four (get_or text (i + 3) 0) refl (at 3 (omega arith)))
    (rw (i4, ← i5)
    (advanced_inner false (boundary_tallied b 1 (boundary_tallied b 1 (boundary_tallied b 1 (boundary_tallied b 1 t)))) (i + 4) (omega arith) (hyphen_last g b (get_or text (i + 4) 0) (at 4 (omega arith)))))
    2 refl)) 3 refl)) 4 refl)
    5 refl

-- Where a label may end it may also go on.
pub continues : (b : Boundary) (l : LabelPhase) → label_ends l ≡ true → Continues b (Label b l)
continues b Start e = record { label = Start; is = refl; char = refl; next = One; first = refl; second = refl }
continues b Char e = record { label = Char; is = refl; char = refl; next = Hyphen; first = refl; second = refl }
continues b Space e = cc
continues b Hyphen e = cc
continues b One e = cc
continues b Two e = cc
continues b Three e = cc
continues b Four e = cc

module _ {g : Grammar} {text : List ℕ} {b : Boundary} (p : Position) (w : Continues b p.state.phase) (j : ℕ) (inside : j ≤ length text) (a : LabelRun text p.at j) where
  -- Characters of a label.
  pub label_characters : p.at < j → Advanced g text p (in_phase j (Label b Char) (boundary_tallied b (j - p.at) p.tally))
  label_characters h = with_phase p w.is (label_leap b w.label w.char p.state.cr p.tally p.at j h inside a)

  -- Characters of a label, if any, and the five hyphens.
  pub label_through : p.at ≤ j → Stands text j hyphens 0 → Advanced g text p (in_phase (j + 5) (behind g b) (boundary_tallied b (j + 5 - p.at) p.tally))
  label_through h s = go (eqb p.at j) refl
    where
      go : (d : Bool) → eqb p.at j ≡ d → Advanced g text p (in_phase (j + 5) (behind g b) (boundary_tallied b (j + 5 - p.at) p.tally))
      go true e =
          let same : p.at ≡ j = eqb-true p.at j e in
          let five : j + 5 - p.at ≡ 5 = omega arith in
          rw (five, ← same) (with_phase p w.is (hyphens_leap b w.label w.next w.first w.second p.state.cr p.tally p.at (rw (← same) at s)))
      go false e =
          let other : ¬ (p.at ≡ j) = eqb-false p.at j e in
          let sum : j + 5 - p.at ≡ j - p.at + 5 = omega arith in
          rw (sum, ← boundary_more b (j - p.at) 5 p.tally)
          (advanced_then (label_characters (omega arith)) (hyphens_leap b Char Hyphen refl refl false (boundary_tallied b (j - p.at) p.tally) j s))

-- ---- The LF behind a boundary, and the hyphen before the closing

pub ended_leap : {text : List ℕ} (g : Grammar) (b : Boundary) (p : Position) → p.state ≡ state (behind g b) false → p.at < length text → get_or text p.at 0 ≡ LF
    → Advanced g text p (in_phase (p.at + 1) (next g (behind g b) LF) (ended_tallied b p.tally))
ended_leap {text} g b p there h e = subst (λ (s : State). Advanced g text (place p.at s p.tally) (in_phase (p.at + 1) (next g (behind g b) LF) (ended_tallied b p.tally))) (sym there) (go g b)
  where
    pairs : p.tally.ends.crlf + 0 ≡ p.tally.ends.crlf
    pairs = omega arith

    crs : p.tally.ends.cr + 0 ≡ p.tally.ends.cr
    crs = omega arith

    go : (g : Grammar) (b : Boundary) → Advanced g text (in_phase p.at (behind g b) p.tally) (in_phase (p.at + 1) (next g (behind g b) LF) (ended_tallied b p.tally))
    go grammar.Lax Opening = advanced_byte _ p.tally p.at _ _ h (rw e) refl (rw (e, pairs, crs))
    go grammar.Standard Opening = advanced_byte _ p.tally p.at _ _ h (rw e) refl (rw (e, pairs, crs))
    go grammar.Strict Opening = advanced_byte _ p.tally p.at _ _ h (rw e) refl (rw (e, pairs, crs))
    go grammar.Lax Closing = advanced_byte _ p.tally p.at _ _ h (rw e) refl (rw (e, pairs, crs))
    go grammar.Standard Closing = advanced_byte _ p.tally p.at _ _ h (rw e) refl (rw (e, pairs, crs))
    go grammar.Strict Closing = advanced_byte _ p.tally p.at _ _ h (rw e) refl (rw (e, pairs, crs))

pub closing_leap : {g : Grammar} {text : List ℕ} (p : Position) → Closes p.state.phase → p.at < length text → get_or text p.at 0 ≡ hyphen
    → Advanced g text p (in_phase (p.at + 1) (Word Closing 1) (boundary_tallied Closing 1 p.tally))
closing_leap {g} {text} p w h e =
    let no_lf : eqb (get_or text p.at 0) LF ≡ false = rw e in
    let no_cr : eqb (get_or text p.at 0) CR ≡ false = rw e in
    let leads : next g p.state.phase (get_or text p.at 0) ≡ Word Closing 1 = rw e (w.leads g) in
    advanced_plain p.state p.tally p.at (state (Word Closing 1) false) (boundary_tallied Closing 1 p.tally) h
    (step_moves g p.state.phase p.state.cr (get_or text p.at 0) no_lf ∙ rw (leads, no_cr)) refl no_lf no_cr (rw w.from)

-- Bytes of a boundary leave the rest countable.
pub boundary_countable : (text : List ℕ) (b : Boundary) (n : ℕ) (p : Position) (q : Phase) {j : ℕ} → Countable text p → j ≡ p.at + n → j ≤ length text
    → Countable text (in_phase j q (boundary_tallied b n p.tally))
boundary_countable text Opening n p q h e inside = omega arith
boundary_countable text Closing n p q h e inside = omega arith
