-- The machine in a boundary, and before the opening. Assumes nothing.
use mathlib.Core.Path.{◌≡◌, refl, sym, ap, ◌∙◌, subst}
use mathlib.Core.Logic.{inl, inr}
use mathlib.Core.Bool.{Bool, true, false, cond}
use mathlib.Core.List.{List, [], ◌∷◌, ◌++◌}
use Prim.Native.Nat.{ℕ, zero, suc, ◌+◌, ◌<◌, ◌≤◌}
use lib.Dec.{T, eqb, ltb}
use lib.ListN.{length, get_or, drop, replicate}
use lib.Seq.{drop-cons, drop-length}
use native.Mathlib.Omega.{arith}
use borrow.Author.Tests.{eqb-true, eq-eqb, ltb-true, ltb-false, lt-ltb, le-ltb}
use Rattle.base_64.specs.Lists.{All}
use Rattle.base_64.specs.Alphabet.{pad}
use Rattle.base_64.proofs.Tests.{below_at}
use Rattle.grammar.specs.Marks.{CR, LF, White, begin, end, hyphen, Label}
use Rattle.grammar.specs.declared.Grammar.{Grammar}
use Rattle.machine.proofs.ByteKinds.{kind_of}
use Rattle.machine.proofs.Machine.{state, word_of, word_step, label_row, label_target, behind, before_step, next, step, run, boundary_part, part_of, byte_part, trace}
use Rattle.machine.specs.declared.Boundary.{Boundary}
use Rattle.machine.specs.declared.Boundary.TheVariants.{Opening, Closing}
use Rattle.machine.specs.declared.LabelPhase.{LabelPhase}
use Rattle.machine.specs.declared.LabelPhase.TheVariants.{Start}
use Rattle.machine.specs.declared.LabelTarget.{LabelTarget}
use Rattle.machine.specs.declared.LabelTarget.TheVariants.{To, Whole, Refused}
use Rattle.machine.specs.declared.Part.{Part}
use Rattle.machine.specs.declared.Part.TheVariants as part
use Rattle.machine.specs.declared.Phase.TheVariants as phase
use Rattle.machine.specs.declared.State.{State}
use Rattle.machine.proofs.Bytes.{View, tab, space, cr, lf, vt, ff, dash, equals, char, mark, other, view, ht_white, sp_white, cr_white, lf_white, vt_white, ff_white}
use Rattle.machine.proofs.Runs.{run_all, run_moves}
use Rattle.machine.proofs.Parts.{rank}
use Rattle.machine.proofs.Labels.{Ended, LabelRest, TargetRest, label_before, NoCr, label_no_cr}

-- Dead stays dead.
pub dead_stays : (g : Grammar) (b : Bool) (l : List ℕ) → (run g (state phase.Dead b) l).phase ≡ phase.Dead
dead_stays g b [] = refl
dead_stays g true (c ∷ l) = go (eqb c LF) (λ d. dead_stays g d l)
  where
    go : (d : Bool) → ((b : Bool) → (run g (state phase.Dead b) l).phase ≡ phase.Dead)
        → (run g (cond d (state phase.Dead false) (state phase.Dead (eqb c CR))) l).phase ≡ phase.Dead
    go true f = f false
    go false f = f (eqb c CR)
dead_stays g false (c ∷ l) = dead_stays g (eqb c CR) l

-- What has been read from a phase of a boundary on, with where the machine is then: still in the boundary, or dead, or past
-- it, and then what was read starts with what may come of the boundary, each byte in its part.
pub data Cut (g : Grammar) (b : Boundary) (s : State) (P : List ℕ → List Part → Type 0) (l : List ℕ) : Type 0 where
  inside : rank (part_of (run g s l).phase) ≤ rank (boundary_part b) → Cut g b s P l
  died : (run g s l).phase ≡ phase.Dead → Cut g b s P l
  through : (y x : List ℕ) (ps : List Part) → l ≡ y ++ x → P y ps → run g s l ≡ run g (state (behind g b) false) x
      → trace g s l ≡ ps ++ trace g (state (behind g b) false) x → Cut g b s P l

-- Each byte of a boundary is the boundary's.
boundary_bytes : (b : Boundary) (to : Part) → byte_part (boundary_part b) to ≡ boundary_part b
boundary_bytes Opening to = refl
boundary_bytes Closing to = refl

abbrev pub InBoundary : Boundary → (List ℕ → Type 0) → List ℕ → List Part → Type 0
InBoundary b P y ps = P y × (ps ≡ replicate (length y) (boundary_part b))

-- The first byte of what is cut: it goes on, or is the last of the boundary, or has no way on.
cut_more : (g : Grammar) (b : Boundary) (s : State) (q : Part) (P Q : List ℕ → List Part → Type 0) (c : ℕ) (l : List ℕ)
    → byte_part (part_of s.phase) (part_of (step g s c).phase) ≡ q → ((y : List ℕ) (ps : List Part) → P y ps → Q (c ∷ y) (q ∷ ps))
    → Cut g b (step g s c) P l → Cut g b s Q (c ∷ l)
cut_more g b s q P Q c l e f (inside h) = inside h
cut_more g b s q P Q c l e f (died h) = died h
cut_more g b s q P Q c l e f (through y x ps j h r t) =
    through (c ∷ y) x (q ∷ ps) (ap (λ m. c ∷ m) j) (f y ps h) r (rw (e, t))

cut_last : (g : Grammar) (b : Boundary) (s : State) (q : Part) (P : List ℕ → List Part → Type 0) (c : ℕ) (l : List ℕ)
    → byte_part (part_of s.phase) (part_of (step g s c).phase) ≡ q → step g s c ≡ state (behind g b) false → P (c ∷ []) (q ∷ [])
    → Cut g b s P (c ∷ l)
cut_last g b s q P c l e k h =
    through (c ∷ []) l (q ∷ []) refl h (ap (λ u. run g u l) k) (ap (λ a. a ∷ trace g (step g s c) l) e ∙ ap (λ u. q ∷ trace g u l) k)

cut_dies : (g : Grammar) (b : Boundary) (s : State) (P : List ℕ → List Part → Type 0) (c : ℕ) (l : List ℕ) (d : Bool)
    → step g s c ≡ state phase.Dead d → Cut g b s P (c ∷ l)
cut_dies g b s P c l d e = died (ap (λ u. (run g u l).phase) e ∙ dead_stays g d l)

-- A byte that goes on in the same boundary.
boundary_more : (g : Grammar) (b : Boundary) (s s' : State) (P Q : List ℕ → Type 0) (c : ℕ) (l : List ℕ) → part_of s.phase ≡ boundary_part b
    → step g s c ≡ s' → ((y : List ℕ) → P y → Q (c ∷ y)) → Cut g b s' (InBoundary b P) l → Cut g b s (InBoundary b Q) (c ∷ l)
boundary_more g b s s' P Q c l i e f k =
    cut_more g b s (boundary_part b) (InBoundary b P) (InBoundary b Q) c l (rw i (boundary_bytes b _)) (λ y ps h. (f y h.0, ap (λ m. boundary_part b ∷ m) h.1))
    (subst (λ u. Cut g b u (InBoundary b P) l) (sym e) k)

pub label_cut : (g : Grammar) (b : Boundary) (p : LabelPhase) (l : List ℕ)
    → Cut g b (state (phase.Label b p) false) (InBoundary b (LabelRest p)) l
label_cut g b p [] = inside (omega arith)
label_cut g b p (c ∷ l) =
    go (label_target (label_row p) (kind_of c)) refl (label_before p c) (label_no_cr (label_row p) c) (λ q. label_cut g b q l)
  where
    go : (t : LabelTarget) → label_target (label_row p) (kind_of c) ≡ t → ((y : List ℕ) → TargetRest t y → LabelRest p (c ∷ y)) → NoCr t c
        → ((q : LabelPhase) → Cut g b (state (phase.Label b q) false) (InBoundary b (LabelRest q)) l)
        → Cut g b (state (phase.Label b p) false) (InBoundary b (LabelRest p)) (c ∷ l)
    go (To q) e f n k =
        boundary_more g b (state (phase.Label b p) false) (state (phase.Label b q) false) (LabelRest q) (LabelRest p) c l refl (rw (e, n)) f (k q)
    go Whole e f n k =
        cut_last g b (state (phase.Label b p) false) (boundary_part b) (InBoundary b (LabelRest p)) c l (boundary_bytes b _) (rw (e, n)) (f [] refl, refl)
    go Refused e f n k = cut_dies g b (state (phase.Label b p) false) (InBoundary b (LabelRest p)) c l (eqb c CR) (rw e)

-- The rest of "-----BEGIN " or "-----END ", a label and its hyphens.
pub data WordRest (b : Boundary) (n : ℕ) : List ℕ → Type 0 where
  word : (y : List ℕ) → Ended Label y → WordRest b n (drop n (word_of b) ++ y)

-- No byte of the words is CR.
word_no_cr : (b : Boundary) (n : ℕ) → n < length (word_of b) → eqb (get_or (word_of b) n 0) CR ≡ false
word_no_cr Opening n h = go (eqb (get_or begin n 0) CR) (below_at (λ n. cond (eqb (get_or begin n 0) CR) false true) 11 tt n h)
  where
    go : (x : Bool) → T (cond x false true) → x ≡ false
    go true t = absurd t
    go false t = refl
word_no_cr Closing n h = go (eqb (get_or end n 0) CR) (below_at (λ n. cond (eqb (get_or end n 0) CR) false true) 9 tt n h)
  where
    go : (x : Bool) → T (cond x false true) → x ≡ false
    go true t = absurd t
    go false t = refl

-- The next byte of a word, and what may come behind it.
word_here : (b : Boundary) (n c : ℕ) → n < length (word_of b) → c ≡ get_or (word_of b) n 0 → drop n (word_of b) ≡ c ∷ drop (suc n) (word_of b)
word_here b n c h e = drop-cons (word_of b) n 0 h ∙ ap (λ x. x ∷ drop (suc n) (word_of b)) (sym e)

word_more : (b : Boundary) (n c : ℕ) → drop n (word_of b) ≡ c ∷ drop (suc n) (word_of b) → (y : List ℕ) → WordRest b (suc n) y → WordRest b n (c ∷ y)
word_more b n c e l (word y h) = subst (WordRest b n) (ap (λ t. t ++ y) e) (word y h)

word_last : (b : Boundary) (n c : ℕ) → drop n (word_of b) ≡ c ∷ drop (suc n) (word_of b) → suc n ≡ length (word_of b)
    → (y : List ℕ) → Ended Label y → WordRest b n (c ∷ y)
word_last b n c e k y h =
    let nil : drop (suc n) (word_of b) ≡ [] = rw k (drop-length (word_of b)) in
    subst (WordRest b n) (ap (λ t. t ++ y) (e ∙ ap (λ t. c ∷ t) nil)) (word y h)

pub word_cut : (g : Grammar) (b : Boundary) (n : ℕ) (l : List ℕ)
    → Cut g b (state (phase.Word b n) false) (InBoundary b (WordRest b n)) l
word_cut g b n [] = inside (omega arith)
word_cut g b n (c ∷ l) =
    go (ltb n (length (word_of b))) refl (eqb c (get_or (word_of b) n 0)) refl (ltb (suc n) (length (word_of b))) refl (word_cut g b (suc n) l)
  where
    go : (x : Bool) → ltb n (length (word_of b)) ≡ x → (y : Bool) → eqb c (get_or (word_of b) n 0) ≡ y → (z : Bool)
        → ltb (suc n) (length (word_of b)) ≡ z
        → Cut g b (state (phase.Word b (suc n)) false) (InBoundary b (WordRest b (suc n))) l
        → Cut g b (state (phase.Word b n) false) (InBoundary b (WordRest b n)) (c ∷ l)
    go false ex y ey z ez k = cut_dies g b (state (phase.Word b n) false) _ c l (eqb c CR) (rw (word_step, ex))
    go true ex false ey z ez k = cut_dies g b (state (phase.Word b n) false) _ c l (eqb c CR) (rw (word_step, ex, ey))
    go true ex true ey true ez k =
        let e : c ≡ get_or (word_of b) n 0 = eqb-true _ _ ey in
        let no_cr : eqb c CR ≡ false = rw e (word_no_cr b n (ltb-true _ _ ex)) in
        boundary_more g b (state (phase.Word b n) false) (state (phase.Word b (suc n)) false) (WordRest b (suc n)) (WordRest b n) c l refl
        (rw (word_step, ex, ey, ez, no_cr))
        (word_more b n c (word_here b n c (ltb-true _ _ ex) e))
        k
    go true ex true ey false ez k =
        let e : c ≡ get_or (word_of b) n 0 = eqb-true _ _ ey in
        let no_cr : eqb c CR ≡ false = rw e (word_no_cr b n (ltb-true _ _ ex)) in
        let low : n < length (word_of b) = ltb-true _ _ ex in
        let high : length (word_of b) ≤ suc n = ltb-false _ _ ez in
        boundary_more g b (state (phase.Word b n) false) (state (phase.Label b Start) false) (Ended Label) (WordRest b n) c l refl
        (rw (word_step, ex, ey, ez, no_cr))
        (word_last b n c (word_here b n c low e) (omega arith))
        (label_cut g b Start l)

-- The next byte of a word leads on.
word_next : (b : Boundary) (n : ℕ) → n < length (word_of b)
    → word_step b n (get_or (word_of b) n 0) ≡ cond (ltb (suc n) (length (word_of b))) (phase.Word b (suc n)) (phase.Label b Start)
word_next b n h = rw (word_step, lt-ltb n (length (word_of b)) h, eq-eqb (get_or (word_of b) n 0) (get_or (word_of b) n 0) refl)

word_moves : (g : Grammar) (b : Boundary) (n : ℕ) (x : List ℕ) → n < length (word_of b)
    → run g (state (phase.Word b n) false) (drop n (word_of b) ++ x)
    ≡ run g (state (cond (ltb (suc n) (length (word_of b))) (phase.Word b (suc n)) (phase.Label b Start)) false) (drop (suc n) (word_of b) ++ x)
word_moves g b n x h =
    ap (λ l. run g (state (phase.Word b n) false) (l ++ x)) (drop-cons (word_of b) n 0 h)
    ∙ ap (λ p. run g (state p (eqb (get_or (word_of b) n 0) CR)) (drop (suc n) (word_of b) ++ x)) (word_next b n h)
    ∙ ap
    (λ d. run g (state (cond (ltb (suc n) (length (word_of b))) (phase.Word b (suc n)) (phase.Label b Start)) d) (drop (suc n) (word_of b) ++ x))
    (word_no_cr b n h)

-- A run over the rest of a word leads to the start of its label.
pub word_run : (g : Grammar) (b : Boundary) (k n : ℕ) → n + suc k ≡ length (word_of b) → (x : List ℕ)
    → run g (state (phase.Word b n) false) (drop n (word_of b) ++ x) ≡ run g (state (phase.Label b Start) false) x
word_run g b zero n e x =
    let last : suc n ≡ length (word_of b) = omega (arith, e) in
    let nil : drop (suc n) (word_of b) ≡ [] = rw last (drop-length (word_of b)) in
    word_moves g b n x (omega (arith, e)) ∙ rw (le-ltb (suc n) (length (word_of b)) (omega (arith, e)), nil)
word_run g b (suc k) n e x =
    word_moves g b n x (omega (arith, e)) ∙ rw (lt-ltb (suc n) (length (word_of b)) (omega (arith, e))) (word_run g b k (suc n) (omega (arith, e)) x)

-- ---- Before the opening

-- White, and an opening, each byte in its part.
pub data BeforeRest : List ℕ → List Part → Type 0 where
  before : (w y : List ℕ) → All White w → WordRest Opening 0 y
      → BeforeRest (w ++ y) (replicate (length w) part.Before ++ replicate (length y) part.Opening)

white_before : (c : ℕ) → White c → (l : List ℕ) (ps : List Part) → BeforeRest l ps → BeforeRest (c ∷ l) (part.Before ∷ ps)
white_before c h l ps (before w y a r) = before (c ∷ w) y (h, a) r

hyphen_before : (l : List ℕ) (ps : List Part) → InBoundary Opening (WordRest Opening 1) l ps → BeforeRest (hyphen ∷ l) (part.Opening ∷ ps)
hyphen_before l ps (r, e) = rw e (before [] (hyphen ∷ l) tt (word_more Opening 0 hyphen refl l r))

pub before_cut : (g : Grammar) (b : Bool) (l : List ℕ) → Cut g Opening (state phase.Before b) BeforeRest l
before_cut g b [] = inside (omega arith)
before_cut g b (c ∷ l) = go b (view c) (λ d. before_cut g d l)
  where
    skip : (b d : Bool) (c : ℕ) → White c → step g (state phase.Before b) c ≡ state phase.Before d → Cut g Opening (state phase.Before d) BeforeRest l
        → Cut g Opening (state phase.Before b) BeforeRest (c ∷ l)
    skip b d c w e k =
        cut_more g Opening (state phase.Before b) part.Before BeforeRest BeforeRest c l (rw e) (white_before c w)
        (subst (λ u. Cut g Opening u BeforeRest l) (sym e) k)

    open_up : (b : Bool) → step g (state phase.Before b) hyphen ≡ state (phase.Word Opening 1) false
        → Cut g Opening (state phase.Before b) BeforeRest (hyphen ∷ l)
    open_up b e =
        cut_more g Opening (state phase.Before b) part.Opening (InBoundary Opening (WordRest Opening 1)) BeforeRest hyphen l (rw e) hyphen_before
        (subst (λ u. Cut g Opening u (InBoundary Opening (WordRest Opening 1)) l) (sym e) (word_cut g Opening 1 l))

    refused : (b : Bool) (c : ℕ) → eqb c LF ≡ false → next g phase.Before c ≡ phase.Dead → Cut g Opening (state phase.Before b) BeforeRest (c ∷ l)
    refused b c n e = cut_dies g Opening (state phase.Before b) BeforeRest c l (eqb c CR) (run_moves g phase.Before b c [] n ∙ ap (λ p. state p (eqb c CR)) e)

    go : (b : Bool) {c : ℕ} → View c → ((d : Bool) → Cut g Opening (state phase.Before d) BeforeRest l)
        → Cut g Opening (state phase.Before b) BeforeRest (c ∷ l)
    go true tab k = skip true false _ ht_white refl (k false)
    go false tab k = skip false false _ ht_white refl (k false)
    go true space k = skip true false _ sp_white refl (k false)
    go false space k = skip false false _ sp_white refl (k false)
    go true cr k = skip true true _ cr_white refl (k true)
    go false cr k = skip false true _ cr_white refl (k true)
    go true lf k = skip true false _ lf_white refl (k false)
    go false lf k = skip false false _ lf_white refl (k false)
    go true vt k = skip true false _ vt_white refl (k false)
    go false vt k = skip false false _ vt_white refl (k false)
    go true ff k = skip true false _ ff_white refl (k false)
    go false ff k = skip false false _ ff_white refl (k false)
    go true dash k = open_up true refl
    go false dash k = open_up false refl
    go b equals k = refused b pad refl refl
    go b (char a x s) k = refused b _ s.no_lf (ap before_step s.kind)
    go b (mark x s) k = refused b _ s.no_lf (ap before_step s.kind)
    go b (other x s) k = refused b _ s.no_lf (ap before_step s.kind)

white_next : (g : Grammar) (c : ℕ) → White c → next g phase.Before c ≡ phase.Before
white_next g c (inl (inl e)) = rw e
white_next g c (inl (inr e)) = rw e
white_next g c (inr (inl e)) = rw e
white_next g c (inr (inr (inl e))) = rw e
white_next g c (inr (inr (inr (inl e)))) = rw e
white_next g c (inr (inr (inr (inr e)))) = rw e

-- White, and "-----BEGIN ", lead to the start of the label.
pub before_run : (g : Grammar) (w : List ℕ) → All White w → (x : List ℕ)
    → run g (state phase.Before false) (w ++ (begin ++ x)) ≡ run g (state (phase.Label Opening Start) false) x
before_run g w a x =
    run_all g phase.Before White (white_next g) w (begin ++ x) (λ s. s ≡ run g (state (phase.Label Opening Start) false) x) a
    (λ b. run_moves g phase.Before b hyphen (drop 1 begin ++ x) refl)
    false
