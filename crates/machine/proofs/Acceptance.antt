-- The machine accepts exactly the texts of the grammar, and lives exactly on their starts. Assumes nothing.
use mathlib.Core.Path.{◌≡◌, refl, sym, ap, ◌∙◌}
use mathlib.Core.Logic.{◌⊎◌, inl, inr, ◌≢◌}
use mathlib.Core.Bool.{Bool, true, false, true≢false}
use mathlib.Core.List.{List, [], ◌∷◌, ◌++◌, append_assoc, append-nil}
use Prim.Native.Nat.{ℕ, suc, ◌-◌, ◌<◌}
use lib.ListN.{length, drop}
use native.Mathlib.Omega.{arith}
use Rattle.base_64.specs.Alphabet.{pad}
use Rattle.grammar.specs.Marks.{LF, begin, end, hyphen, hyphens, opening, closing}
use Rattle.grammar.specs.Marks as marks
use Rattle.grammar.specs.Grammars as grammars
use Rattle.grammar.specs.Message.{Reading, text_of, Shape}
use Rattle.grammar.specs.Starts.{Parse}
use Rattle.grammar.specs.declared.Grammar.{Grammar}
use Rattle.grammar.specs.declared.Grammar.TheVariants as grammar
use Rattle.machine.proofs.Machine as m
use Rattle.machine.proofs.Machine.{state, word_of, behind, run, start, part_of, is_after, accepting}
use Rattle.machine.specs.declared.Boundary.{Boundary}
use Rattle.machine.specs.declared.Boundary.TheVariants.{Opening, Closing}
use Rattle.machine.specs.declared.LabelPhase.{LabelPhase}
use Rattle.machine.specs.declared.LabelPhase.TheVariants as label
use Rattle.machine.specs.declared.LaxPhase.{LaxPhase}
use Rattle.machine.specs.declared.LaxPhase.TheVariants as lax
use Rattle.machine.specs.declared.StandardPhase.{StandardPhase}
use Rattle.machine.specs.declared.StandardPhase.TheVariants as standard
use Rattle.machine.specs.declared.StrictPhase.{StrictPhase}
use Rattle.machine.specs.declared.StrictPhase.TheVariants as strict
use Rattle.machine.specs.declared.Part.TheVariants as part
use Rattle.machine.specs.declared.Phase.{Phase}
use Rattle.machine.specs.declared.Phase.TheVariants.{Before, Word, Label, Lax, Standard, Strict, Dead}
use Rattle.machine.specs.declared.State.{State}
use Rattle.machine.proofs.Parts.{rank}
use Rattle.machine.proofs.Labels.{label_run}
use Rattle.machine.proofs.Bodies.{Closes, ToClosing}
use Rattle.machine.proofs.Lax.{lax_closes, lax_ends, lax_way}
use Rattle.machine.proofs.Standard.{standard_closes, standard_ends, standard_way}
use Rattle.machine.proofs.Strict.{strict_closes, strict_ends, strict_way}
use Rattle.machine.proofs.Boundaries.{word_run, before_run}
use Rattle.machine.proofs.Messages.{behind_body, behind_after}

-- ---- The machine reads each part of a text of the grammar

pub opening_run : (g : Grammar) (w m : List ℕ) → grammars.Before g w → marks.Label m → (x : List ℕ)
    → run g (start g) (w ++ (opening m ++ x)) ≡ run g (state (behind g Opening) false) x
opening_run grammar.Lax w m a h x =
    ap (λ l. run grammar.Lax (start grammar.Lax) (w ++ (begin ++ l))) (append_assoc m hyphens x)
    ∙ before_run grammar.Lax w a (m ++ (hyphens ++ x))
    ∙ label_run grammar.Lax Opening h x
opening_run grammar.Standard w m e h x =
    rw e (ap (λ l. run grammar.Standard (start grammar.Standard) (begin ++ l)) (append_assoc m hyphens x) ∙ label_run grammar.Standard Opening h x)
opening_run grammar.Strict w m e h x =
    rw e (ap (λ l. run grammar.Strict (start grammar.Strict) (begin ++ l)) (append_assoc m hyphens x) ∙ label_run grammar.Strict Opening h x)

pub body_closes : (g : Grammar) (l : List ℕ) → grammars.Body g l → Closes g (behind g Opening) l
body_closes grammar.Lax l h = lax_closes grammar.Lax h
body_closes grammar.Standard l h = standard_closes grammar.Standard h
body_closes grammar.Strict l h = strict_closes grammar.Strict h

closing_run : (g : Grammar) {m : List ℕ} → marks.Label m → (x : List ℕ)
    → run g (state (Word Closing 1) false) (drop 1 (closing m) ++ x) ≡ run g (state (behind g Closing) false) x
closing_run g {m} h x = ap (λ l. run g (state (Word Closing 1) false) (drop 1 end ++ l)) (append_assoc m hyphens x) ∙ label_run g Closing h x

after_ends : (g : Grammar) (l : List ℕ) → grammars.After g l → accepting (run g (state (behind g Closing) false) l).phase ≡ true
after_ends grammar.Lax l h = lax_ends grammar.Lax l h
after_ends grammar.Standard l h = standard_ends grammar.Standard h
after_ends grammar.Strict l h = strict_ends grammar.Strict h

-- A reading's text with something behind it, part by part.
text_parts : (r : Reading) (x : List ℕ)
    → text_of r ++ x ≡ r.before ++ (opening r.opening_label ++ (r.body ++ (closing r.closing_label ++ (r.after ++ x))))
text_parts r x =
    append_assoc r.before _ x
    ∙ ap
    (λ q. r.before ++ q)
    (append_assoc (opening r.opening_label) _ x
    ∙ ap (λ q. opening r.opening_label ++ q) (append_assoc r.body _ x ∙ ap (λ q. r.body ++ q) (append_assoc (closing r.closing_label) r.after x)))

-- What stands behind the closing decides.
pub shape_run : (g : Grammar) (r : Reading) → Shape g r → (x : List ℕ)
    → run g (start g) (text_of r ++ x) ≡ run g (state (behind g Closing) false) (r.after ++ x)
shape_run g r s x =
    ap (run g (start g)) (text_parts r x)
    ∙ opening_run g r.before r.opening_label s.before s.opening_label (r.body ++ (closing r.closing_label ++ (r.after ++ x)))
    ∙ body_closes g r.body s.body (drop 1 (closing r.closing_label) ++ (r.after ++ x))
    ∙ closing_run g s.closing_label (r.after ++ x)

-- The machine is complete: it accepts each text of the grammar.
pub parse_accepted : (g : Grammar) (l : List ℕ) → Parse g l → accepting (run g (start g) l).phase ≡ true
parse_accepted g l p =
    ap (λ m. accepting (run g (start g) m).phase) (p.joined ∙ sym (append-nil (text_of p.reading)))
    ∙ ap (λ s. accepting s.phase) (shape_run g p.reading p.shape [] ∙ ap (run g (state (behind g Closing) false)) (append-nil p.reading.after))
    ∙ after_ends g p.reading.after p.shape.after

-- ---- From each phase that is not dead there is a way to the end

-- The bytes read of a word are fewer than it has.
abbrev pub InRange : Phase → Type 0
InRange Before = Unit {0}
InRange (Word b n) = n < length (word_of b)
InRange (Label b p) = Unit {0}
InRange (Lax p) = Unit {0}
InRange (Standard p) = Unit {0}
InRange (Strict p) = Unit {0}
InRange Dead = Unit {0}

-- A list that the machine accepts from the state on.
pub record ToEnd (g : Grammar) (s : State) : Type 0 where
  pub bytes : List ℕ
  pub ends : accepting (run g s bytes).phase ≡ true

after_way : (g : Grammar) (p : Phase) → part_of p ≡ part.After → p ≢ Dead → ToEnd g (state p false)
after_way g Before e n = absurd (omega (arith, ap rank e))
after_way g (Word Opening k) e n = absurd (omega (arith, ap rank e))
after_way g (Word Closing k) e n = absurd (omega (arith, ap rank e))
after_way g (Label Opening p) e n = absurd (omega (arith, ap rank e))
after_way g (Label Closing p) e n = absurd (omega (arith, ap rank e))
after_way g (Lax p) e n = record { bytes = []; ends = ap is_after e }
after_way g (Standard p) e n = record { bytes = []; ends = ap is_after e }
after_way g (Strict strict.Opened) e n = absurd (omega (arith, ap rank e))
after_way g (Strict strict.First) e n = absurd (omega (arith, ap rank e))
after_way g (Strict strict.Line) e n = absurd (omega (arith, ap rank e))
after_way g (Strict (strict.Data k)) e n = absurd (omega (arith, ap rank e))
after_way g (Strict strict.OnePad) e n = absurd (omega (arith, ap rank e))
after_way g (Strict strict.Padded) e n = absurd (omega (arith, ap rank e))
after_way g (Strict strict.Final) e n = absurd (omega (arith, ap rank e))
after_way g (Strict strict.Closed) e n = record { bytes = LF ∷ []; ends = refl }
after_way g (Strict strict.Ended) e n = record { bytes = []; ends = refl }
after_way g Dead e n = absurd (n refl)

behind_lives : (g : Grammar) → behind g Closing ≢ Dead
behind_lives grammar.Lax e = true≢false (sym (ap m.dead e))
behind_lives grammar.Standard e = true≢false (sym (ap m.dead e))
behind_lives grammar.Strict e = true≢false (sym (ap m.dead e))

closing_way : (g : Grammar) → ToEnd g (state (behind g Closing) false)
closing_way g = after_way g (behind g Closing) (behind_after g) (behind_lives g)

-- A list in front of a way that leads to where it starts.
way_through : (g : Grammar) (s t : State) (y : List ℕ) → ((x : List ℕ) → run g s (y ++ x) ≡ run g t x) → ToEnd g t → ToEnd g s
way_through g s t y e w =
    record { bytes = y ++ w.bytes; ends = ap (λ u. accepting u.phase) (e w.bytes) ∙ w.ends }

-- The bytes that end a label.
abbrev label_end : LabelPhase → List ℕ
label_end label.Start = hyphens
label_end label.Char = hyphens
label_end label.Space = pad ∷ hyphens
label_end label.Hyphen = hyphen ∷ hyphen ∷ hyphen ∷ hyphen ∷ []
label_end label.One = hyphen ∷ hyphen ∷ hyphen ∷ hyphen ∷ []
label_end label.Two = hyphen ∷ hyphen ∷ hyphen ∷ []
label_end label.Three = hyphen ∷ hyphen ∷ []
label_end label.Four = hyphen ∷ []

label_way : (g : Grammar) (b : Boundary) (p : LabelPhase) → ToEnd g (state (behind g b) false) → ToEnd g (state (Label b p) false)
label_way g b p w = way_through g _ _ (label_end p) (go p) w
  where
    go : (p : LabelPhase) (x : List ℕ) → run g (state (Label b p) false) (label_end p ++ x) ≡ run g (state (behind g b) false) x
    go label.Start x = refl
    go label.Char x = refl
    go label.Space x = refl
    go label.Hyphen x = refl
    go label.One x = refl
    go label.Two x = refl
    go label.Three x = refl
    go label.Four x = refl

word_way : (g : Grammar) (b : Boundary) (n : ℕ) → n < length (word_of b) → ToEnd g (state (behind g b) false) → ToEnd g (state (Word b n) false)
word_way g b n h w =
    way_through g (state (Word b n) false) (state (Label b label.Start) false) (drop n (word_of b))
    (word_run g b (length (word_of b) - suc n) n (omega arith))
    (label_way g b label.Start w)

to_closing : (g : Grammar) (p : Phase) → part_of p ≡ part.Body → ToClosing g p
to_closing g Before e = absurd (omega (arith, ap rank e))
to_closing g (Word Opening k) e = absurd (omega (arith, ap rank e))
to_closing g (Word Closing k) e = absurd (omega (arith, ap rank e))
to_closing g (Label Opening p) e = absurd (omega (arith, ap rank e))
to_closing g (Label Closing p) e = absurd (omega (arith, ap rank e))
to_closing g (Lax p) e = lax_way g p e
to_closing g (Standard p) e = standard_way g p e
to_closing g (Strict p) e = strict_way g p e
to_closing g Dead e = absurd (omega (arith, ap rank e))

body_way : (g : Grammar) (p : Phase) → part_of p ≡ part.Body → ToEnd g (state p false)
body_way g p e =
    way_through g (state p false) (state (Word Closing 1) false) ((to_closing g p e).bytes ++ (hyphen ∷ []))
    (λ x. ap (run g (state p false)) (append_assoc (to_closing g p e).bytes (hyphen ∷ []) x) ∙ (to_closing g p e).closes x)
    (word_way g Closing 1 (omega arith) (closing_way g))

-- A phase behind the opening is in the body or behind the closing.
lax_parts : (p : LaxPhase) → (part_of (Lax p) ≡ part.Body) ⊎ (part_of (Lax p) ≡ part.After)
lax_parts lax.Data = inl refl
lax_parts lax.OnePad = inl refl
lax_parts lax.TwoPads = inl refl
lax_parts lax.Closed = inr refl

standard_parts : (p : StandardPhase) → (part_of (Standard p) ≡ part.Body) ⊎ (part_of (Standard p) ≡ part.After)
standard_parts standard.Opened = inl refl
standard_parts standard.Leading = inl refl
standard_parts standard.BlankLine = inl refl
standard_parts standard.Data = inl refl
standard_parts standard.Trailing = inl refl
standard_parts standard.Line = inl refl
standard_parts standard.OnePad = inl refl
standard_parts standard.PadTrailing = inl refl
standard_parts standard.PadLine = inl refl
standard_parts standard.Ending = inl refl
standard_parts standard.Final = inl refl
standard_parts standard.Closed = inr refl
standard_parts standard.Ended = inr refl

strict_parts : (p : StrictPhase) → (part_of (Strict p) ≡ part.Body) ⊎ (part_of (Strict p) ≡ part.After)
strict_parts strict.Opened = inl refl
strict_parts strict.First = inl refl
strict_parts strict.Line = inl refl
strict_parts (strict.Data room) = inl refl
strict_parts strict.OnePad = inl refl
strict_parts strict.Padded = inl refl
strict_parts strict.Final = inl refl
strict_parts strict.Closed = inr refl
strict_parts strict.Ended = inr refl

parts_way : (g : Grammar) (p : Phase) → p ≢ Dead → (part_of p ≡ part.Body) ⊎ (part_of p ≡ part.After) → ToEnd g (state p false)
parts_way g p n (inl e) = body_way g p e
parts_way g p n (inr e) = after_way g p e n

-- The way on behind a boundary.
behind_way : (g : Grammar) (b : Boundary) → ToEnd g (state (behind g b) false)
behind_way g Opening = body_way g (behind g Opening) (behind_body g)
behind_way g Closing = closing_way g

phase_way : (g : Grammar) (p : Phase) → InRange p → p ≢ Dead → ToEnd g (state p false)
phase_way g Before r n = way_through g (state Before false) (state (Word Opening 1) false) (hyphen ∷ []) (λ x. refl) (word_way g Opening 1 (omega arith) (behind_way g Opening))
phase_way g (Word b k) r n = word_way g b k r (behind_way g b)
phase_way g (Label b p) r n = label_way g b p (behind_way g b)
phase_way g (Lax p) r n = parts_way g (Lax p) n (lax_parts p)
phase_way g (Standard p) r n = parts_way g (Standard p) n (standard_parts p)
phase_way g (Strict p) r n = parts_way g (Strict p) n (strict_parts p)
phase_way g Dead r n = absurd (n refl)

-- An LF behind CR is passed over.
pub state_way : (g : Grammar) (p : Phase) (b : Bool) → InRange p → p ≢ Dead → ToEnd g (state p b)
state_way g p false r n = phase_way g p r n
state_way g p true r n = way_through g (state p true) (state p false) (LF ∷ []) (λ x. refl) (phase_way g p r n)
