-- What the machine has read of a message, in terms of the grammar's relations, and what it accepts. Assumes nothing.
use mathlib.Core.Path.{◌≡◌, refl, sym, ap, ◌∙◌, subst}
use mathlib.Core.Bool.{Bool, true, false, true≢false}
use mathlib.Core.List.{List, [], ◌∷◌, ◌++◌, append_assoc}
use Prim.Native.Nat.{ℕ, ◌≤◌}
use lib.Dec.{eqb}
use lib.ListN.{length, replicate, drop}
use native.Mathlib.Omega.{arith}
use Rattle.grammar.specs.Marks.{CR, LF, end, hyphen, hyphens, opening, closing}
use Rattle.grammar.specs.Marks as marks
use Rattle.grammar.specs.Grammars as grammars
use Rattle.grammar.specs.Message.{Reading, text_of, Shape}
use Rattle.grammar.specs.Starts.{HasOpening, HasClosing}
use Rattle.grammar.specs.declared.Grammar.{Grammar}
use Rattle.grammar.specs.declared.Grammar.TheVariants as grammar
use Rattle.machine.proofs.Machine.{state, behind, next, step, run, start, part_of, byte_part, trace, is_after, accepting}
use Rattle.machine.specs.declared.Boundary.{Boundary}
use Rattle.machine.specs.declared.Boundary.TheVariants.{Opening, Closing}
use Rattle.machine.specs.declared.StrictPhase.TheVariants as strict
use Rattle.machine.specs.declared.Part.{Part}
use Rattle.machine.specs.declared.Part.TheVariants as part
use Rattle.machine.specs.declared.Phase.{Phase}
use Rattle.machine.specs.declared.Phase.TheVariants.{Before, Word, Label, Lax, Standard, Strict, Dead}
use Rattle.machine.specs.declared.State.{State}
use Rattle.machine.proofs.Parts.{rank, next_rises, run_rises}
use Rattle.machine.proofs.Labels.{ended}
use Rattle.machine.proofs.Bodies.{seen_behind, BodyRest, AfterRest, Way, dies, stays, closes}
use Rattle.machine.proofs.Lax.{lax_before, lax_ways, lax_after, lax_accepting}
use Rattle.machine.proofs.Standard.{standard_before, standard_ways, standard_after, standard_accepting}
use Rattle.machine.proofs.Strict.{strict_before, strict_ways, strict_after, strict_accepting_lem}
use Rattle.machine.proofs.Boundaries as cuts
use Rattle.machine.proofs.Boundaries.{Cut, InBoundary, WordRest, word, BeforeRest, before, dead_stays, word_cut, before_cut}

-- ---- The opening

-- What may stand up to the end of the opening, each byte in its part.
pub data OpeningParts (g : Grammar) : List ℕ → List Part → Type 0 where
  opened : (w m : List ℕ) → grammars.Before g w → marks.Label m
      → OpeningParts g (w ++ opening m) (replicate (length w) part.Before ++ replicate (length (opening m)) part.Opening)

cut_map : (g : Grammar) (b : Boundary) (s : State) (P Q : List ℕ → List Part → Type 0) (l : List ℕ)
    → ((y : List ℕ) (ps : List Part) → P y ps → Q y ps) → Cut g b s P l → Cut g b s Q l
cut_map g b s P Q l f (cuts.inside h) = cuts.inside h
cut_map g b s P Q l f (cuts.died h) = cuts.died h
cut_map g b s P Q l f (cuts.through y x ps j h r t) = cuts.through y x ps j (f y ps h) r t

before_parts : (y : List ℕ) (ps : List Part) → BeforeRest y ps → OpeningParts grammar.Lax y ps
before_parts y ps (before w x a (word z (ended m h))) = opened w m a h

-- Under standard and strict nothing stands before the opening.
word_parts : (g : Grammar) → grammars.Before g [] → (y : List ℕ) (ps : List Part) → InBoundary Opening (WordRest Opening 0) y ps → OpeningParts g y ps
word_parts g n y ps (word z (ended m h), e) = rw e (opened [] m n h)

opening_cut : (g : Grammar) (l : List ℕ) → Cut g Opening (start g) (OpeningParts g) l
opening_cut grammar.Lax l = cut_map grammar.Lax Opening _ BeforeRest (OpeningParts grammar.Lax) l before_parts (before_cut grammar.Lax false l)
opening_cut grammar.Standard l =
    cut_map grammar.Standard Opening _ (InBoundary Opening (WordRest Opening 0)) (OpeningParts grammar.Standard) l (word_parts grammar.Standard refl)
    (word_cut grammar.Standard Opening 0 l)
opening_cut grammar.Strict l =
    cut_map grammar.Strict Opening _ (InBoundary Opening (WordRest Opening 0)) (OpeningParts grammar.Strict) l (word_parts grammar.Strict refl)
    (word_cut grammar.Strict Opening 0 l)

-- ---- The body

-- A byte is passed over, being the LF of a CRLF, or it takes the machine on.
data StepView (g : Grammar) (p : Phase) (b : Bool) (c : ℕ) : Type 0 where
  skips : step g (state p b) c ≡ state p false → ((m : List ℕ) → seen_behind b (c ∷ m) ≡ m) → StepView g p b c
  moves : step g (state p b) c ≡ state (next g p c) (eqb c CR) → ((m : List ℕ) → seen_behind b (c ∷ m) ≡ c ∷ m) → StepView g p b c

step_view : (g : Grammar) (p : Phase) (b : Bool) (c : ℕ) → StepView g p b c
step_view g p false c = moves refl (λ m. refl)
step_view g p true c = go (eqb c LF) refl
  where
    go : (d : Bool) → eqb c LF ≡ d → StepView g p true c
    go true e = skips (rw e) (λ m. rw e)
    go false e = moves (rw e) (λ m. rw e)

seen_nil : (b : Bool) → seen_behind b [] ≡ []
seen_nil true = refl
seen_nil false = refl

body_before : (g : Grammar) (p : Phase) → part_of p ≡ part.Body → (c : ℕ) (l : List ℕ) → BodyRest (next g p c) (seen_behind (eqb c CR) l)
    → BodyRest p (c ∷ l)
body_before g Before e c l h = absurd (omega (arith, ap rank e))
body_before g (Word Opening n) e c l h = absurd (omega (arith, ap rank e))
body_before g (Word Closing n) e c l h = absurd (omega (arith, ap rank e))
body_before g (Label Opening p) e c l h = absurd (omega (arith, ap rank e))
body_before g (Label Closing p) e c l h = absurd (omega (arith, ap rank e))
body_before g (Lax p) e c l h = lax_before g p c l h
body_before g (Standard p) e c l h = standard_before g p c l h
body_before g (Strict p) e c l h = strict_before g p c l h
body_before g Dead e c l h = h

body_ways : (g : Grammar) (p : Phase) (c : ℕ) → part_of p ≡ part.Body → Way p (next g p c) c
body_ways g Before c e = absurd (omega (arith, ap rank e))
body_ways g (Word Opening n) c e = absurd (omega (arith, ap rank e))
body_ways g (Word Closing n) c e = absurd (omega (arith, ap rank e))
body_ways g (Label Opening p) c e = absurd (omega (arith, ap rank e))
body_ways g (Label Closing p) c e = absurd (omega (arith, ap rank e))
body_ways g (Lax p) c e = lax_ways g p c e
body_ways g (Standard p) c e = standard_ways g p c e
body_ways g (Strict p) c e = strict_ways g p c e
body_ways g Dead c e = dies refl

-- What has been read from a phase of the body on: the machine is still in it, or dead, or has read a whole body and the
-- first hyphen of the closing.
data BodyCut (g : Grammar) (p : Phase) (b : Bool) (l : List ℕ) : Type 0 where
  inside : part_of (run g (state p b) l).phase ≡ part.Body → BodyCut g p b l
  died : (run g (state p b) l).phase ≡ Dead → BodyCut g p b l
  through : (m z : List ℕ) → l ≡ m ++ (hyphen ∷ z) → BodyRest p (seen_behind b m) → run g (state p b) l ≡ run g (state (Word Closing 1) false) z
      → trace g (state p b) l ≡ replicate (length m) part.Body ++ (part.Closing ∷ trace g (state (Word Closing 1) false) z) → BodyCut g p b l

body_cut : (g : Grammar) (p : Phase) (b : Bool) (l : List ℕ) → part_of p ≡ part.Body → BodyCut g p b l
body_cut g p b [] i = inside i
body_cut g p b (c ∷ l) i = go (step_view g p b c) (body_ways g p c i) (body_cut g p false l i) (λ e. body_cut g (next g p c) (eqb c CR) l e)
  where
    -- A byte in front of what is cut.
    on : (q : Phase) (d : Bool) → step g (state p b) c ≡ state q d → part_of q ≡ part.Body → ((m : List ℕ) → BodyRest q (seen_behind d m) → BodyRest p (seen_behind b (c ∷ m)))
        → BodyCut g q d l → BodyCut g p b (c ∷ l)
    on q d e k f (inside h) = inside (ap (λ u. part_of (run g u l).phase) e ∙ h)
    on q d e k f (died h) = died (ap (λ u. (run g u l).phase) e ∙ h)
    on q d e k f (through m z j h r t) =
        through (c ∷ m) z (ap (λ x. c ∷ x) j) (f m h) (ap (λ u. run g u l) e ∙ r) (ap (λ u. byte_part (part_of p) (part_of u.phase) ∷ trace g u l) e ∙ rw (i, k, t))

    go : StepView g p b c → Way p (next g p c) c → BodyCut g p false l → (part_of (next g p c) ≡ part.Body → BodyCut g (next g p c) (eqb c CR) l)
        → BodyCut g p b (c ∷ l)
    go (skips e v) w s k = on p false e i (λ m h. rw (v m) h) s
    go (moves e v) (dies d) s k = died (ap (λ u. (run g u l).phase) e ∙ ap (λ q. (run g (state q (eqb c CR)) l).phase) d ∙ dead_stays g (eqb c CR) l)
    go (moves e v) (stays d) s k = on (next g p c) (eqb c CR) e d (λ m h. rw (v m) (body_before g p i c m h)) (k d)
    go (moves e v) (closes d q r) s k =
        let shut : step g (state p b) c ≡ state (Word Closing 1) false = e ∙ ap (λ x. state x (eqb c CR)) d ∙ ap (λ x. state (Word Closing 1) (eqb x CR)) q in
        through [] l (ap (λ x. x ∷ l) q) (subst (BodyRest p) (sym (seen_nil b)) r) (ap (λ u. run g u l) shut)
        (ap (λ u. byte_part (part_of p) (part_of u.phase) ∷ trace g u l) shut ∙ rw i)

-- ---- Behind the closing

rank_after : (q : Part) → 4 ≤ rank q → q ≡ part.After
rank_after part.Before h = absurd (omega arith)
rank_after part.Opening h = absurd (omega arith)
rank_after part.Body h = absurd (omega arith)
rank_after part.Closing h = absurd (omega arith)
rank_after part.After h = refl

next_after : (g : Grammar) (p : Phase) (c : ℕ) → part_of p ≡ part.After → part_of (next g p c) ≡ part.After
next_after g p c e = rank_after (part_of (next g p c)) (omega (arith, ap rank e, next_rises g p c))

after_before : (g : Grammar) (p : Phase) (c : ℕ) (l : List ℕ) → part_of p ≡ part.After → AfterRest (next g p c) (seen_behind (eqb c CR) l)
    → AfterRest p (c ∷ l)
after_before g Before c l e h = absurd (omega (arith, ap rank e))
after_before g (Word Opening n) c l e h = absurd (omega (arith, ap rank e))
after_before g (Word Closing n) c l e h = absurd (omega (arith, ap rank e))
after_before g (Label Opening p) c l e h = absurd (omega (arith, ap rank e))
after_before g (Label Closing p) c l e h = absurd (omega (arith, ap rank e))
after_before g (Lax p) c l e h = lax_after g p c l h
after_before g (Standard p) c l e h = standard_after g p c l h
after_before g (Strict p) c l e h = strict_after g p c l h
after_before g Dead c l e h = h

after_accepting : (p : Phase) → accepting p ≡ true → AfterRest p []
after_accepting Before e = true≢false (sym e)
after_accepting (Word b n) e = true≢false (sym e)
after_accepting (Label b p) e = true≢false (sym e)
after_accepting (Lax p) e = lax_accepting p e
after_accepting (Standard p) e = standard_accepting p e
after_accepting (Strict p) e = strict_accepting_lem p e
after_accepting Dead e = true≢false (sym e)

-- What the machine accepts behind the closing may stand there.
after_rest : (g : Grammar) (p : Phase) (b : Bool) (l : List ℕ) → part_of p ≡ part.After → accepting (run g (state p b) l).phase ≡ true
    → AfterRest p (seen_behind b l)
after_rest g p b [] i h = subst (AfterRest p) (sym (seen_nil b)) (after_accepting p h)
after_rest g p b (c ∷ l) i h = go (step_view g p b c) (after_rest g p false l i) (after_rest g (next g p c) (eqb c CR) l (next_after g p c i))
  where
    go : StepView g p b c → (accepting (run g (state p false) l).phase ≡ true → AfterRest p l)
        → (accepting (run g (state (next g p c) (eqb c CR)) l).phase ≡ true → AfterRest (next g p c) (seen_behind (eqb c CR) l))
        → AfterRest p (seen_behind b (c ∷ l))
    go (skips e v) s k = rw (v l) (s (ap (λ u. accepting (run g u l).phase) (sym e) ∙ h))
    go (moves e v) s k = rw (v l) (after_before g p c l i (k (ap (λ u. accepting (run g u l).phase) (sym e) ∙ h)))

step_after : (g : Grammar) (s : State) (c : ℕ) → part_of s.phase ≡ part.After → part_of (step g s c).phase ≡ part.After
step_after g s c e = rank_after (part_of (step g s c).phase) (omega (arith, ap rank e, run_rises g s (c ∷ [])))

after_trace : (g : Grammar) (s : State) (l : List ℕ) → part_of s.phase ≡ part.After → trace g s l ≡ replicate (length l) part.After
after_trace g s [] e = refl
after_trace g s (c ∷ l) e =
    ap (λ q. byte_part q (part_of (step g s c).phase) ∷ trace g (step g s c) l) e
    ∙ ap (λ m. part.After ∷ m) (after_trace g (step g s c) l (step_after g s c e))

-- ---- The whole message

pub behind_body : (g : Grammar) → part_of (behind g Opening) ≡ part.Body
behind_body grammar.Lax = refl
behind_body grammar.Standard = refl
behind_body grammar.Strict = refl

pub behind_after : (g : Grammar) → part_of (behind g Closing) ≡ part.After
behind_after grammar.Lax = refl
behind_after grammar.Standard = refl
behind_after grammar.Strict = refl

is_body : (g : Grammar) (l : List ℕ) → BodyRest (behind g Opening) l → grammars.Body g l
is_body grammar.Lax l h = h
is_body grammar.Standard l h = h
is_body grammar.Strict l h = h

is_after_lem : (g : Grammar) (l : List ℕ) → AfterRest (behind g Closing) l → grammars.After g l
is_after_lem grammar.Lax l h = h
is_after_lem grammar.Standard l h = h
is_after_lem grammar.Strict l h = h

-- The part of each byte of a reading's text.
abbrev pub parts_of : Reading → List Part
parts_of r =
    replicate (length r.before) part.Before
    ++ (replicate (length (opening r.opening_label)) part.Opening
    ++ (replicate (length r.body) part.Body
    ++ (replicate (length (closing r.closing_label)) part.Closing
    ++ replicate (length r.after) part.After)))

-- A text of the grammar, each byte in its part.
pub record Parsed (g : Grammar) (l : List ℕ) : Type 0 where
  pub reading : Reading
  pub joined : l ≡ text_of reading
  pub shape : Shape g reading
  pub parts : trace g (start g) l ≡ parts_of reading

-- What has been read, by the part that the machine is in.
pub data Progress (g : Grammar) (l : List ℕ) : Type 0 where
  in_opening : rank (part_of (run g (start g) l).phase) ≤ 1 → Progress g l
  dead : (run g (start g) l).phase ≡ Dead → Progress g l
  in_body : HasOpening g l → part_of (run g (start g) l).phase ≡ part.Body → Progress g l
  in_closing : HasOpening g l → HasClosing g l → rank (part_of (run g (start g) l).phase) ≤ 3 → Progress g l
  behind_closing : HasOpening g l → HasClosing g l → (accepting (run g (start g) l).phase ≡ true → Parsed g l) → Progress g l

-- An opening, a body and the closing's first hyphen have been read, and then z.
module _ (g : Grammar) (l w m y z : List ℕ) (j : l ≡ (w ++ opening m) ++ (y ++ (hyphen ∷ z))) (is_b : grammars.Before g w) (is_l : marks.Label m) (is_y : grammars.Body g y)
    (r : run g (start g) l ≡ run g (state (Word Closing 1) false) z)
    (t : trace g (start g) l ≡ (replicate (length w) part.Before ++ replicate (length (opening m)) part.Opening) ++ (replicate (length y) part.Body ++ (part.Closing ∷ trace g (state (Word Closing 1) false) z))) where
  has_opening : HasOpening g l
  has_opening =
      record { before = w; label = m; rest = y ++ (hyphen ∷ z); joined = j ∙ append_assoc w (opening m) (y ++ (hyphen ∷ z)); is_before = is_b; is_label = is_l }

  has_closing : HasClosing g l
  has_closing =
      record {
        before = w;
        label = m;
        body = y;
        rest = z;
        joined = j ∙ append_assoc w (opening m) (y ++ (hyphen ∷ z));
        is_before = is_b;
        is_label = is_l;
        is_body = is_y;
      }

  parsed : (n a : List ℕ) (ps : List Part) → z ≡ (drop 1 end ++ (n ++ hyphens)) ++ a → marks.Label n
      → ps ≡ replicate (length (drop 1 end ++ (n ++ hyphens))) part.Closing
      → run g (state (Word Closing 1) false) z ≡ run g (state (behind g Closing) false) a
      → trace g (state (Word Closing 1) false) z ≡ ps ++ trace g (state (behind g Closing) false) a
      → accepting (run g (start g) l).phase ≡ true → Parsed g l
  parsed n a ps jz isN e rz tz h =
      record {
        reading = record { before = w; opening_label = m; body = y; closing_label = n; after = a };
        joined = j ∙ append_assoc w (opening m) (y ++ (hyphen ∷ z)) ∙ ap (λ q. w ++ (opening m ++ (y ++ (hyphen ∷ q)))) jz;
        shape =
            record {
              before = is_b;
              opening_label = is_l;
              body = is_y;
              closing_label = isN;
              after = is_after_lem g a (after_rest g (behind g Closing) false a (behind_after g) (ap (λ u. accepting u.phase) (sym (r ∙ rz)) ∙ h));
            };
        parts =
            t
            ∙ append_assoc (replicate (length w) part.Before) (replicate (length (opening m)) part.Opening) _
            ∙ ap
            (λ q. replicate (length w) part.Before ++ (replicate (length (opening m)) part.Opening ++ (replicate (length y) part.Body ++ (part.Closing ∷ q))))
            (tz ∙ ap (λ q. q ++ trace g (state (behind g Closing) false) a) e
            ∙ ap (λ q. replicate (length (drop 1 end ++ (n ++ hyphens))) part.Closing ++ q) (after_trace g (state (behind g Closing) false) a (behind_after g)));
      }

  closing_part : Cut g Closing (state (Word Closing 1) false) (InBoundary Closing (WordRest Closing 1)) z → Progress g l
  closing_part (cuts.inside h) = in_closing has_opening has_closing (rw r h)
  closing_part (cuts.died h) = dead (ap (λ u. u.phase) r ∙ h)
  closing_part (cuts.through x a ps jz (word v (ended n isN), e) rz tz) = behind_closing has_opening has_closing (parsed n a ps jz isN e rz tz)

-- An opening has been read, and then x.
module _ (g : Grammar) (l w m x : List ℕ) (j : l ≡ (w ++ opening m) ++ x) (is_b : grammars.Before g w) (is_l : marks.Label m)
    (r : run g (start g) l ≡ run g (state (behind g Opening) false) x)
    (t : trace g (start g) l ≡ (replicate (length w) part.Before ++ replicate (length (opening m)) part.Opening) ++ trace g (state (behind g Opening) false) x) where
  body_part : BodyCut g (behind g Opening) false x → Progress g l
  body_part (inside h) =
      in_body
      record { before = w; label = m; rest = x; joined = j ∙ append_assoc w (opening m) x; is_before = is_b; is_label = is_l }
      (ap (λ u. part_of u.phase) r ∙ h)
  body_part (died h) = dead (ap (λ u. u.phase) r ∙ h)
  body_part (through y z jx is_y rx tx) =
      closing_part
      g
      l
      w
      m
      y
      z
      (j ∙ ap (λ q. (w ++ opening m) ++ q) jx)
      is_b
      is_l
      (is_body g y is_y)
      (r ∙ rx)
      (t ∙ ap (λ q. (replicate (length w) part.Before ++ replicate (length (opening m)) part.Opening) ++ q) tx)
      (word_cut g Closing 1 z)

pub progress : (g : Grammar) (l : List ℕ) → Progress g l
progress g l = go (opening_cut g l)
  where
    go : Cut g Opening (start g) (OpeningParts g) l → Progress g l
    go (cuts.inside h) = in_opening h
    go (cuts.died h) = dead h
    go (cuts.through y x ps j (opened w m is_b is_l) r t) =
        body_part g l w m x j is_b is_l r t (body_cut g (behind g Opening) false x (behind_body g))

-- An accepting phase is behind the closing.
is_after_part : (p : Part) → is_after p ≡ true → p ≡ part.After
is_after_part part.Before e = absurd (true≢false (sym e))
is_after_part part.Opening e = absurd (true≢false (sym e))
is_after_part part.Body e = absurd (true≢false (sym e))
is_after_part part.Closing e = absurd (true≢false (sym e))
is_after_part part.After e = refl

accepting_after : (p : Phase) → accepting p ≡ true → part_of p ≡ part.After
accepting_after Before e = absurd (true≢false (sym e))
accepting_after (Word b n) e = absurd (true≢false (sym e))
accepting_after (Label b p) e = absurd (true≢false (sym e))
accepting_after (Lax p) e = is_after_part (part_of (Lax p)) e
accepting_after (Standard p) e = is_after_part (part_of (Standard p)) e
accepting_after (Strict strict.Opened) e = absurd (true≢false (sym e))
accepting_after (Strict strict.First) e = absurd (true≢false (sym e))
accepting_after (Strict strict.Line) e = absurd (true≢false (sym e))
accepting_after (Strict (strict.Data n)) e = absurd (true≢false (sym e))
accepting_after (Strict strict.OnePad) e = absurd (true≢false (sym e))
accepting_after (Strict strict.Padded) e = absurd (true≢false (sym e))
accepting_after (Strict strict.Final) e = absurd (true≢false (sym e))
accepting_after (Strict strict.Closed) e = refl
accepting_after (Strict strict.Ended) e = refl
accepting_after Dead e = refl

-- The machine is sound: what it accepts is a text of the grammar.
pub accepted_parses : (g : Grammar) (l : List ℕ) → accepting (run g (start g) l).phase ≡ true → Parsed g l
accepted_parses g l h = go (progress g l)
  where
    far : rank (part_of (run g (start g) l).phase) ≡ 4
    far = ap rank (accepting_after (run g (start g) l).phase h)

    go : Progress g l → Parsed g l
    go (in_opening k) = absurd (omega (arith, far))
    go (dead k) = absurd (true≢false (sym h ∙ ap accepting k))
    go (in_body o k) = absurd (omega (arith, far, ap rank k))
    go (in_closing o c k) = absurd (omega (arith, far))
    go (behind_closing o c k) = k h
