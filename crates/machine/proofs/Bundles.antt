-- The machine over a bundle: where a message ends another may start, and how far a text begins a bundle. Assumes nothing.
use mathlib.Core.Path.{◌≡◌, refl, sym, ap, ◌∙◌, subst}
use mathlib.Core.Logic.{◌⊎◌, inl, inr, ◌≢◌}
use mathlib.Core.Bool.{Bool, true, false, cond, true≢false}
use mathlib.Core.List.{List, [], ◌∷◌, ◌++◌, append_assoc, append-nil, head-eq_of_cons-eq, tail-eq_of_cons-eq}
use Prim.Native.Nat.{ℕ, suc, ◌+◌, ◌-◌, ◌≤◌, ◌<◌}
use lib.Dec.{eqb}
use lib.ListN.{length, take, drop, get_or, length-append}
use lib.Seq.{take-add, take-append-add, take-suc, drop-cons, split_at}
use native.Mathlib.Omega.{arith}
use borrow.Author.Tests.{eqb-true, eqb-false, ne_eqb}
use Rattle.base_64.specs.Lists.{All}
use Rattle.base_64.proofs.Lists.{all_append}
use Rattle.grammar.specs.Marks.{LF, CR, White, hyphen, opening, closing}
use Rattle.grammar.specs.Message.{Reading, text_of, Shape}
use Rattle.grammar.specs.Bundle.{joined_text, Later, Shapes}
use Rattle.grammar.specs.Starts.{BundleParse, Begins, LongestStart}
use Rattle.grammar.specs.declared.Grammar.{Grammar}
use Rattle.grammar.specs.declared.Grammar.TheVariants as grammar
use Rattle.grammar.proofs.Runs.{run_unique}
use Rattle.grammar.proofs.Message.{shape_lax, no_white_hyphen}
use Rattle.grammar.proofs.Bundle.{text_some, later_shapes}
use Rattle.machine.proofs.ByteKinds.{kind_of}
use Rattle.machine.proofs.Machine.{state, word_step, lax_row, standard_row, strict_row, next, step, run, start, accepting, later}
use Rattle.machine.proofs.Parts.{target_all}
use Rattle.machine.specs.declared.LaxPhase.TheVariants as lax
use Rattle.machine.specs.declared.StandardPhase.TheVariants as standard
use Rattle.machine.specs.declared.StrictPhase.TheVariants as strict
use Rattle.machine.specs.declared.Phase.{Phase}
use Rattle.machine.specs.declared.Phase.TheVariants.{Before, Word, Label, Lax, Standard, Strict, Dead}
use Rattle.machine.specs.declared.State.{State}
use Rattle.machine.proofs.Runs.{run_append, run_moves}
use Rattle.machine.proofs.Messages.{Parsed, accepted_parses}
use Rattle.machine.proofs.Acceptance.{InRange, parse_accepted}
use Rattle.machine.proofs.Starts.{start_range, lives_ends, dead_run}

-- ---- A later message

-- Behind a first hyphen it makes no difference which message of a bundle it is.
pub later_run : (g : Grammar) (l : List ℕ) → run g later (hyphen ∷ l) ≡ run g (start g) (hyphen ∷ l)
later_run grammar.Lax l = refl
later_run grammar.Standard l = refl
later_run grammar.Strict l = refl

-- A later message starts with a hyphen.
pub later_dies : (g : Grammar) (c : ℕ) (l : List ℕ) → c ≢ hyphen → (run g later (c ∷ l)).phase ≡ Dead
later_dies g c l n = dead_run g (step g later c) l (rw (word_step, ne_eqb c hyphen n))

-- A text that may stand behind another message of a bundle.
pub record LaterParse (g : Grammar) (text : List ℕ) : Type 0 where
  pub reading : Reading
  pub joined : text ≡ text_of reading
  pub is_later : Later g reading

-- Nothing stands before the opening where the text starts with a hyphen.
none_before : (g : Grammar) (r : Reading) (l : List ℕ) → Shape g r → hyphen ∷ l ≡ text_of r → r.before ≡ []
none_before g r l s e = sym (run_unique White [] r.before (hyphen ∷ l) _ tt (shape_lax g r s).before no_white_hyphen no_white_hyphen e).0

-- What the machine accepts as a later message is one.
pub accepted_later : (g : Grammar) (l : List ℕ) → accepting (run g later l).phase ≡ true → LaterParse g l
accepted_later g [] h = absurd (true≢false (sym h))
accepted_later g (c ∷ l) h = go (eqb c hyphen) refl
  where
    go : (b : Bool) → eqb c hyphen ≡ b → LaterParse g (c ∷ l)
    go true e =
        let q : c ≡ hyphen = eqb-true c hyphen e in
        let p : Parsed g (hyphen ∷ l) = accepted_parses g (hyphen ∷ l) (ap (λ u. accepting u.phase) (sym (later_run g l)) ∙ (rw q at h)) in
        rw q record {
          reading = p.reading;
          joined = p.joined;
          is_later = record { shape = p.shape; none_before = none_before g p.reading l p.shape p.joined };
        }
    go false e = absurd (true≢false (sym h ∙ ap accepting (later_dies g c l (eqb-false c hyphen e))))

-- A later message is read as if it were the first.
pub later_same : (g : Grammar) (r : Reading) → Later g r → run g later (text_of r) ≡ run g (start g) (text_of r)
later_same g r h = rw h.none_before (later_run g (drop 1 (opening r.opening_label ++ (r.body ++ (closing r.closing_label ++ r.after)))))

-- ---- The end of a message

-- The phases behind a message.
data Behind : Phase → Type 0 where
  lax_closed : Behind (Lax lax.Closed)
  standard_closed : Behind (Standard standard.Closed)
  standard_ended : Behind (Standard standard.Ended)
  strict_ended : Behind (Strict strict.Ended)

accepting_behind : (p : Phase) → accepting p ≡ true → Behind p
accepting_behind Before e = absurd (true≢false (sym e))
accepting_behind (Word b n) e = absurd (true≢false (sym e))
accepting_behind (Label b p) e = absurd (true≢false (sym e))
accepting_behind (Lax lax.Data) e = absurd (true≢false (sym e))
accepting_behind (Lax lax.OnePad) e = absurd (true≢false (sym e))
accepting_behind (Lax lax.TwoPads) e = absurd (true≢false (sym e))
accepting_behind (Lax lax.Closed) e = lax_closed
accepting_behind (Standard standard.Opened) e = absurd (true≢false (sym e))
accepting_behind (Standard standard.Leading) e = absurd (true≢false (sym e))
accepting_behind (Standard standard.BlankLine) e = absurd (true≢false (sym e))
accepting_behind (Standard standard.Data) e = absurd (true≢false (sym e))
accepting_behind (Standard standard.Trailing) e = absurd (true≢false (sym e))
accepting_behind (Standard standard.Line) e = absurd (true≢false (sym e))
accepting_behind (Standard standard.OnePad) e = absurd (true≢false (sym e))
accepting_behind (Standard standard.PadTrailing) e = absurd (true≢false (sym e))
accepting_behind (Standard standard.PadLine) e = absurd (true≢false (sym e))
accepting_behind (Standard standard.Ending) e = absurd (true≢false (sym e))
accepting_behind (Standard standard.Final) e = absurd (true≢false (sym e))
accepting_behind (Standard standard.Closed) e = standard_closed
accepting_behind (Standard standard.Ended) e = standard_ended
accepting_behind (Strict strict.Opened) e = absurd (true≢false (sym e))
accepting_behind (Strict strict.First) e = absurd (true≢false (sym e))
accepting_behind (Strict strict.Line) e = absurd (true≢false (sym e))
accepting_behind (Strict (strict.Data n)) e = absurd (true≢false (sym e))
accepting_behind (Strict strict.OnePad) e = absurd (true≢false (sym e))
accepting_behind (Strict strict.Padded) e = absurd (true≢false (sym e))
accepting_behind (Strict strict.Final) e = absurd (true≢false (sym e))
accepting_behind (Strict strict.Closed) e = absurd (true≢false (sym e))
accepting_behind (Strict strict.Ended) e = strict_ended
accepting_behind Dead e = absurd (true≢false (sym e))

-- There a hyphen kills,
pub hyphen_kills : (g : Grammar) (p : Phase) → accepting p ≡ true → next g p hyphen ≡ Dead
hyphen_kills g p a = go p (accepting_behind p a)
  where
    go : (p : Phase) → Behind p → next g p hyphen ≡ Dead
    go p lax_closed = refl
    go p standard_closed = refl
    go p standard_ended = refl
    go p strict_ended = refl

-- and what does not kill leads to such a phase again.
abbrev BehindOrDead : Phase → Type 0
BehindOrDead p = (p ≡ Dead) ⊎ (accepting p ≡ true)

next_behind : (g : Grammar) (p : Phase) (c : ℕ) → accepting p ≡ true → BehindOrDead (next g p c)
next_behind g p c a = go p (accepting_behind p a)
  where
    go : (p : Phase) → Behind p → BehindOrDead (next g p c)
    go p lax_closed = target_all BehindOrDead (lax_row lax.Closed) (inl refl) (inr refl, inr refl, inr refl, inl refl, inl refl, inl refl) (kind_of c)
    go p standard_closed =
        target_all BehindOrDead (standard_row standard.Closed) (inl refl) (inr refl, inl refl, inr refl, inl refl, inl refl, inl refl) (kind_of c)
    go p standard_ended =
        target_all BehindOrDead (standard_row standard.Ended) (inl refl) (inl refl, inl refl, inl refl, inl refl, inl refl, inl refl) (kind_of c)
    go p strict_ended =
        target_all BehindOrDead (strict_row strict.Ended) (inl refl) (inl refl, inl refl, inl refl, inl refl, inl refl, inl refl) (kind_of c)

step_behind : (g : Grammar) (s : State) (c : ℕ) → accepting s.phase ≡ true → BehindOrDead (step g s c).phase
step_behind g s c a = go (cond s.cr (eqb c LF) false)
  where
    go : (b : Bool) → BehindOrDead (cond b (state s.phase false) (state (next g s.phase c) (eqb c CR))).phase
    go true = inr a
    go false = next_behind g s.phase c a

-- So where the machine lives behind a message, it accepts.
pub behind_accepts : (g : Grammar) (s : State) (l : List ℕ) → accepting s.phase ≡ true → (run g s l).phase ≢ Dead
    → accepting (run g s l).phase ≡ true
behind_accepts g s [] a n = a
behind_accepts g s (c ∷ l) a n = go (step_behind g s c a) (λ h. behind_accepts g (step g s c) l h n)
  where
    go : BehindOrDead (step g s c).phase → (accepting (step g s c).phase ≡ true → accepting (run g (step g s c) l).phase ≡ true)
        → accepting (run g (step g s c) l).phase ≡ true
    go (inl e) f = absurd (n (dead_run g (step g s c) l e))
    go (inr e) f = f e

-- The list is empty, or its first byte kills.
abbrev pub Stops : Grammar → State → List ℕ → Type 0
Stops g s [] = Unit {0}
Stops g s (c ∷ l) = (step g s c).phase ≡ Dead

-- A text is cut in one way only where the machine lives so far, and nothing stands behind or a byte that kills.
pub prefix_same : (g : Grammar) (s : State) (l m x y : List ℕ) → (run g s l).phase ≢ Dead → (run g s m).phase ≢ Dead
    → Stops g (run g s l) x → Stops g (run g s m) y → l ++ x ≡ m ++ y → (l ≡ m) × (x ≡ y)
prefix_same g s [] [] x y nl nm sx sy e = (refl, e)
prefix_same g s [] (d ∷ m) x y nl nm sx sy e = absurd (nm (dead_run g (step g s d) m (subst (Stops g s) e sx)))
prefix_same g s (c ∷ l) [] x y nl nm sx sy e = absurd (nl (dead_run g (step g s c) l (subst (Stops g s) (sym e) sy)))
prefix_same g s (c ∷ l) (d ∷ m) x y nl nm sx sy e =
    let q : d ≡ c = sym (head-eq_of_cons-eq e) in
    let rest = prefix_same g (step g s c) l m x y nl (rw q at nm) sx (rw q at sy) (tail-eq_of_cons-eq e) in
    (λ i. head-eq_of_cons-eq e i ∷ rest.0 i, rest.1)

-- An accepting phase is not dead.
pub accepting_lives : (p : Phase) → accepting p ≡ true → p ≢ Dead
accepting_lives p h e = true≢false (sym h ∙ ap accepting e)

-- ---- The messages of a bundle

-- A message's text is accepted,
pub shape_accepted : (g : Grammar) (r : Reading) → Shape g r → accepting (run g (start g) (text_of r)).phase ≡ true
shape_accepted g r s = parse_accepted g (text_of r) record { reading = r; joined = refl; shape = s }

-- and behind an accepted text a later message kills.
text_stops : (g : Grammar) (s : State) (r : Reading) (x : List ℕ) → accepting s.phase ≡ true → Later g r → Stops g s (text_of r ++ x)
text_stops g s r x a h = rw h.none_before (ap (λ u. u.phase) (run_moves g s.phase s.cr hyphen [] refl) ∙ hyphen_kills g s.phase a)

-- Later messages are none, or the first of them kills.
later_stops : (g : Grammar) (s : State) (rs : List Reading) → accepting s.phase ≡ true → All (Later g) rs → Stops g s (joined_text rs)
later_stops g s [] a h = tt
later_stops g s (r ∷ rs) a h = text_stops g s r (joined_text rs) a h.0

-- What stands behind the messages is nothing, or its first byte kills behind the last of them.
abbrev pub Unextended : Grammar → List Reading → List ℕ → Type 0
Unextended g [] x = Unit {0}
Unextended g (r ∷ []) x = Stops g (run g (start g) (text_of r)) x
Unextended g (r ∷ (s ∷ ss)) x = Unextended g (s ∷ ss) x

-- So the first message ends where it does, whatever follows.
pub first_stops : (g : Grammar) (r : Reading) (rs : List Reading) (x : List ℕ) → Shapes g (r ∷ rs) → Unextended g (r ∷ rs) x
    → Stops g (run g (start g) (text_of r)) (joined_text rs ++ x)
first_stops g r [] x m h = h
first_stops g r (s ∷ ss) x m h =
    rw (append_assoc (text_of s) (joined_text ss) x) (text_stops g (run g (start g) (text_of r)) s (joined_text ss ++ x) (shape_accepted g r m.0) m.1.0)

-- Where two bundles start alike their first messages are the same, and so is what stands behind.
behind_same : (g : Grammar) (r s : Reading) (rs ss : List Reading) (x : List ℕ) → Shapes g (r ∷ rs) → Shapes g (s ∷ ss) → Unextended g (r ∷ rs) x
    → joined_text (r ∷ rs) ++ x ≡ joined_text (s ∷ ss) → joined_text rs ++ x ≡ joined_text ss
behind_same g r s rs ss x m n h e =
    (prefix_same g (start g) (text_of r) (text_of s) (joined_text rs ++ x) (joined_text ss)
    (accepting_lives _ (shape_accepted g r m.0))
    (accepting_lives _ (shape_accepted g s n.0))
    (first_stops g r rs x m h)
    (later_stops g _ ss (shape_accepted g s n.0) n.1)
    (sym (append_assoc (text_of r) (joined_text rs) x) ∙ e)).1

-- What a bundle has behind some messages is later messages.
pub rest_later : (g : Grammar) (r : Reading) (rs ss : List Reading) (x : List ℕ) → Shapes g (r ∷ rs) → Shapes g ss → Unextended g (r ∷ rs) x
    → joined_text (r ∷ rs) ++ x ≡ joined_text ss → (ts : List Reading) × All (Later g) ts × (x ≡ joined_text ts)
rest_later g r rs [] x m n h e = absurd (text_some r (joined_text rs ++ x) (sym e ∙ append_assoc (text_of r) (joined_text rs) x))
rest_later g r [] (s ∷ ss) x m n h e = (ss, n.1, behind_same g r s [] ss x m n h e)
rest_later g r (q ∷ rs) (s ∷ ss) x m n h e =
    rest_later g q rs ss x (later_shapes g (q ∷ rs) m.1) (later_shapes g ss n.1) h (behind_same g r s (q ∷ rs) ss x m n h e)

-- ---- One message more

-- Where the message behind these starts.
abbrev pub start_behind : Grammar → List Reading → State
start_behind g [] = start g
start_behind g (r ∷ rs) = later

-- The text of messages and more messages; the text with one message more.
pub joined_append : (rs ss : List Reading) → joined_text (rs ++ ss) ≡ joined_text rs ++ joined_text ss
joined_append [] ss = refl
joined_append (r ∷ rs) ss = rw (joined_append rs ss) (sym (append_assoc (text_of r) (joined_text rs) (joined_text ss)))

pub joined_more : (rs : List Reading) (r : Reading) → joined_text (rs ++ (r ∷ [])) ≡ joined_text rs ++ text_of r
joined_more rs r = joined_append rs (r ∷ []) ∙ ap (λ l. joined_text rs ++ l) (append-nil (text_of r))

-- What the machine accepts there is one message more,
pub accepted_more : (g : Grammar) (rs : List Reading) (l : List ℕ) → Shapes g rs → accepting (run g (start_behind g rs) l).phase ≡ true
    → (r : Reading) × (l ≡ text_of r) × Shapes g (rs ++ (r ∷ []))
accepted_more g [] l m h = let p = accepted_parses g l h in (p.reading, p.joined, (p.shape, tt))
accepted_more g (r ∷ rs) l m h =
    let p = accepted_later g l h in
    (p.reading, p.joined, (m.0, all_append (Later g) rs (p.reading ∷ []) m.1 (p.is_later, tt)))

-- which ends where the machine stops.
pub unextended_more : (g : Grammar) (rs : List Reading) (r : Reading) (x : List ℕ) → Shapes g (rs ++ (r ∷ []))
    → Stops g (run g (start_behind g rs) (text_of r)) x → Unextended g (rs ++ (r ∷ [])) x
unextended_more g [] r x m h = h
unextended_more g (s ∷ []) r x m h = subst (λ u. Stops g u x) (later_same g r m.1.0) h
unextended_more g (s ∷ (t ∷ ss)) r x m h = unextended_more g (t ∷ ss) r x (later_shapes g (t ∷ (ss ++ (r ∷ []))) m.1) h

-- The machine starts in range.
behind_range : (g : Grammar) (rs : List Reading) → InRange (start_behind g rs).phase
behind_range g [] = start_range g
behind_range g (r ∷ rs) = omega arith

-- Where the machine lives behind the messages, some bundle begins.
pub lives_bundle : (g : Grammar) (rs : List Reading) (l : List ℕ) → Shapes g rs → (run g (start_behind g rs) l).phase ≢ Dead
    → Begins (BundleParse g) (joined_text rs ++ l)
lives_bundle g rs l m n =
    let b = lives_ends g (start_behind g rs) (behind_range g rs) l n in
    let p = accepted_more g rs (l ++ b.rest) m b.whole in
    let e : (joined_text rs ++ l) ++ b.rest ≡ joined_text (rs ++ (p.0 ∷ [])) = append_assoc (joined_text rs) l b.rest ∙ ap (λ q. joined_text rs ++ q) p.1 ∙ sym (joined_more rs p.0) in
    record { rest = b.rest; whole = record { readings = rs ++ (p.0 ∷ []); joined = e; shapes = p.2 } }

-- ---- The longest start of a bundle

-- The machine accepts the first message from the state on, and the others are later ones.
abbrev Accepts : Grammar → State → List Reading → Type 0
Accepts g s [] = Unit {0}
Accepts g s (r ∷ rs) = (accepting (run g s (text_of r)).phase ≡ true) × All (Later g) rs

-- So it is from the start,
first_accepts : (g : Grammar) (rs : List Reading) → Shapes g rs → Accepts g (start g) rs
first_accepts g [] m = tt
first_accepts g (r ∷ rs) m = (shape_accepted g r m.0, m.1)

-- and from behind another message.
later_accepts : (g : Grammar) (rs : List Reading) → All (Later g) rs → Accepts g later rs
later_accepts g [] m = tt
later_accepts g (r ∷ rs) m = (ap (λ u. accepting u.phase) (later_same g r m.0) ∙ shape_accepted g r m.0.shape, m.1)

-- Messages do not go on where the machine dies before it accepts.
none_go_on : (g : Grammar) (s : State) (ts : List Reading) (l x : List ℕ) (c : ℕ) → (run g s l).phase ≢ Dead → (step g (run g s l) c).phase ≡ Dead
    → accepting (run g s l).phase ≡ false → Accepts g s ts → l ++ (c ∷ x) ≢ joined_text ts
none_go_on g s [] l x c n d f a e = omega (arith, simp length-append at (ap length e))
none_go_on g s (t ∷ ts) l x c n d f a e =
    let same = prefix_same g s l (text_of t) (c ∷ x) (joined_text ts) n (accepting_lives _ a.0) d (later_stops g _ ts a.0 a.1) e in
    true≢false (sym a.0 ∙ ap (λ m. accepting (run g s m).phase) (sym same.0) ∙ f)

-- No bundle goes on there.
no_longer : (g : Grammar) (rs ss : List Reading) (l x : List ℕ) (c : ℕ) → Shapes g rs → Shapes g ss → Unextended g rs (l ++ (c ∷ x))
    → (run g (start_behind g rs) l).phase ≢ Dead → (step g (run g (start_behind g rs) l) c).phase ≡ Dead → accepting (run g (start_behind g rs) l).phase ≡ false
    → joined_text rs ++ (l ++ (c ∷ x)) ≢ joined_text ss
no_longer g [] ss l x c m k h n d f e = none_go_on g (start g) ss l x c n d f (first_accepts g ss k) e
no_longer g (r ∷ rs) ss l x c m k h n d f e =
    let rest = rest_later g r rs ss (l ++ (c ∷ x)) m k h e in
    none_go_on g later rest.0 l x c n d f (later_accepts g rest.0 rest.1) rest.2

-- Only the first byte behind the messages counts.
unextended_front : (g : Grammar) (rs : List Reading) (l x y : List ℕ) (c : ℕ) → Unextended g rs (l ++ (c ∷ x)) → Unextended g rs (l ++ (c ∷ y))
unextended_front g [] l x y c h = tt
unextended_front g (r ∷ []) [] x y c h = h
unextended_front g (r ∷ []) (d ∷ l) x y c h = h
unextended_front g (r ∷ (s ∷ ss)) l x y c h = unextended_front g (s ∷ ss) l x y c h

-- Before the end the other holds.
past : {A : Type 0} {k n : ℕ} → k < n → (k ≡ n) ⊎ A → A
past h (inl e) = absurd (omega arith)
past h (inr a) = a

-- Where the machine has lived behind the messages, and the text is at its end or the next byte kills what is not yet a
-- message, there the longest start ends.
pub bundle_longest : (g : Grammar) (rs : List Reading) (rest : List ℕ) (k : ℕ) → Shapes g rs → Unextended g rs rest → k ≤ length rest
    → (run g (start_behind g rs) (take k rest)).phase ≢ Dead
    → (k ≡ length rest) ⊎ ((run g (start_behind g rs) (take (suc k) rest)).phase ≡ Dead)
    → (k ≡ length rest) ⊎ (accepting (run g (start_behind g rs) (take k rest)).phase ≡ false)
    → LongestStart (BundleParse g) (joined_text rs ++ rest) (length (joined_text rs) + k)
bundle_longest g rs rest k m h w n d f =
    record { within = rw length-append (omega arith); begins = rw take-append-add (lives_bundle g rs (take k rest) m n); longest = longest }
  where
    longest : (i : ℕ) → length (joined_text rs) + k < i → i ≤ length (joined_text rs ++ rest) → ¬ Begins (BundleParse g) (take i (joined_text rs ++ rest))
    longest i low high b =
        let s : State = start_behind g rs in
        let short : k < length rest = omega (arith, length-append (joined_text rs) rest) in
        let j : ℕ = i - suc (length (joined_text rs) + k) in
        let sum : i ≡ length (joined_text rs) + (k + suc j) = omega arith in
        let x : List ℕ = take j (drop (suc k) rest) in
        let c : ℕ = get_or rest k 0 in
        let cut : take i (joined_text rs ++ rest) ≡ joined_text rs ++ (take k rest ++ (c ∷ x)) = ap (λ q. take q (joined_text rs ++ rest)) sum ∙ take-append-add (joined_text rs) rest (k + suc j)
        ∙ ap (λ q. joined_text rs ++ q) (take-add k (suc j) rest ∙ ap (λ q. take k rest ++ take (suc j) q) (drop-cons rest k 0 short)) in
        no_longer g rs b.whole.readings (take k rest) (x ++ b.rest) c m b.whole.shapes
        (unextended_front g rs (take k rest) (drop (suc k) rest) (x ++ b.rest) c (subst (Unextended g rs) (split_at rest k 0 short) h))
        n
        (ap (λ u. u.phase) (sym (run_append g s (take k rest) (c ∷ []))) ∙ ap (λ q. (run g s q).phase) (sym (take-suc rest k 0 short)) ∙ past short d)
        (past short f)
        (simp append_assoc at (rw cut at b.whole.joined))
