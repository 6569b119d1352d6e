-- The lax grammar at the machine: what its phases accept is what the grammar's relations say. Assumes nothing.
use mathlib.Core.Path.{◌≡◌, refl, ◌∙◌}
use mathlib.Core.Logic.{inl, inr}
use mathlib.Core.Bool.{Bool, true, false, false≢true}
use mathlib.Core.List.{List, [], ◌∷◌, ◌++◌, append_assoc, append-nil}
use Prim.Native.Nat.{ℕ}
use lib.Dec.{eqb}
use Rattle.base_64.specs.Lists.{All}
use Rattle.base_64.specs.Alphabet.{AlphabetChar, pad}
use Rattle.grammar.specs.Marks.{CR, hyphen, Blank, White, LineEnd, crlf, cr, lf}
use Rattle.grammar.specs.Grammars.{LaxPads, LaxBody, lax, Mixed}
use Rattle.grammar.specs.declared.Grammar.{Grammar}
use Rattle.machine.proofs.ByteKinds.{kind_of}
use Rattle.machine.proofs.Machine.{row, lax_row, target, next, state, run, part_of, accepting}
use Rattle.machine.specs.declared.Boundary.TheVariants.{Closing}
use Rattle.machine.specs.declared.LaxPhase.{LaxPhase}
use Rattle.machine.specs.declared.LaxPhase.TheVariants.{Data, OnePad, TwoPads, Closed}
use Rattle.machine.specs.declared.Part.TheVariants as part
use Rattle.machine.specs.declared.Row.{Row}
use Rattle.machine.specs.declared.Phase.{Phase}
use Rattle.machine.specs.declared.Phase.TheVariants.{Word, Lax}
use Rattle.machine.proofs.Bytes.{cr_white, lf_white}
use Rattle.machine.proofs.Runs.{run_moves, run_all, row_takes}
use Rattle.machine.proofs.Bodies.{seen_behind, LaxPad, last, more, LaxRest, LaxAfter, BodyRest, AfterRest, Closes, Way, ToClosing}
use Rattle.machine.proofs.Rows.{Byte, byte, Feed, Pad, Column, dead, live, never, Columns, columns, Move, none, off, row_move, move_before, move_after, move_way, row_accepting, after_no_body}

-- ---- Back: what may come behind a byte or a line end makes what may come from the phase

-- White in front of a body.
body_white : (c : ℕ) (l : List ℕ) → White c → LaxBody l → LaxBody (c ∷ l)
body_white c _ w (lax m p am lp) = lax (c ∷ m) p (inl w, am) lp

-- White behind a pad.
pad_white : (c : ℕ) (l : List ℕ) → White c → LaxPad l → LaxPad (c ∷ l)
pad_white c l w (last aw) = last {w = c ∷ l} (w, aw)
pad_white c _ w (more v x av ax) = more (c ∷ v) x (w, av) ax

-- A character in front of a body.
body_char : (e l : List ℕ) → Byte AlphabetChar e l → LaxBody l → LaxBody (e ++ l)
body_char _ _ (byte {c = c} a) (lax m p am lp) = lax (c ∷ m) p (inr a, am) lp

-- The first pad.
body_pad : (e l : List ℕ) → Byte Pad e l → LaxPad l → LaxBody (e ++ l)
body_pad _ l (byte q) (last aw) = rw q (lax [] (pad ∷ l) tt (LaxPads.one l aw))
body_pad _ _ (byte q) (more v w av aw) = rw q (lax [] (pad ∷ (v ++ (pad ∷ w))) tt (LaxPads.two v w av aw))

-- The second pad.
pad_pad : (e l : List ℕ) → Byte Pad e l → All White l → LaxPad (e ++ l)
pad_pad _ l (byte q) aw = rw q (more [] l tt aw)

-- What white may stand in front of, a list of white may.
whites_before : (R : List ℕ → Type 0) → ((c : ℕ) (l : List ℕ) → White c → R l → R (c ∷ l)) → (e l : List ℕ) → All White e → R l → R (e ++ l)
whites_before R f [] l a h = h
whites_before R f (c ∷ e) l a h = f c (e ++ l) a.0 (whites_before R f e l a.1 h)

-- A byte of a kind that is white is white.
byte_white : {P : ℕ → Type 0} → ((c : ℕ) → P c → White c) → (e l : List ℕ) → Byte P e l → All White e
byte_white f _ _ (byte {c = c} h) = (f c h, tt)

-- A line end is white.
line_end_white : (e l : List ℕ) → LineEnd e l → All White e
line_end_white _ _ crlf = (cr_white, (lf_white, tt))
line_end_white _ _ (cr n) = (cr_white, tt)
line_end_white _ _ lf = (lf_white, tt)

-- The row of a phase that white keeps.
white_columns : (p : LaxPhase) {a d h : Phase} → ((c : ℕ) (l : List ℕ) → White c → LaxRest p l → LaxRest p (c ∷ l))
    → ((c : ℕ) (l : List ℕ) → White c → LaxAfter p l → LaxAfter p (c ∷ l)) → Column (Byte AlphabetChar) (Lax p) a → Column (Byte Pad) (Lax p) d
    → Move (Lax p) h hyphen → (accepting (Lax p) ≡ true → LaxAfter p []) → Columns (Lax p) (row (Lax p) (Lax p) (Lax p) a d h)
white_columns p f k =
    columns (column (Byte Blank) (byte_white (λ c. inl))) (column (Byte Feed) (byte_white (λ c h. inr (inr (inr h))))) (column LineEnd line_end_white)
  where
    column : (M : List ℕ → List ℕ → Type 0) → ((e l : List ℕ) → M e l → All White e) → Column M (Lax p) (Lax p)
    column M w = live refl (λ e l h. whites_before (LaxRest p) f e l (w e l h)) (λ e l h. whites_before (LaxAfter p) k e l (w e l h))

-- The table, read backwards.
lax_columns : (p : LaxPhase) → Columns (Lax p) (lax_row p)
lax_columns Data = white_columns Data body_white (λ _ _ _ r. r) (live refl body_char (never _)) (live refl body_pad (never _)) (off refl refl (lax [] [] tt LaxPads.none)) false≢true
lax_columns OnePad = white_columns OnePad pad_white (λ _ _ _ r. r) (dead refl) (live refl pad_pad (never _)) (off refl refl (last {w = []} tt)) false≢true
lax_columns TwoPads = white_columns TwoPads (λ _ _ w aw. (w, aw)) (λ _ _ _ r. r) (dead refl) (dead refl) (off refl refl tt) false≢true
lax_columns Closed = white_columns Closed (λ _ _ _ r. r) (λ _ _ w aw. (w, aw)) (dead refl) (dead refl) (none refl) (λ _. tt)

-- What may come of a body behind a byte makes what may come before it.
pub lax_before : (g : Grammar) (p : LaxPhase) (c : ℕ) (l : List ℕ) → BodyRest (next g (Lax p) c) (seen_behind (eqb c CR) l)
    → BodyRest (Lax p) (c ∷ l)
lax_before g p c = move_before (row_move (lax_columns p) c)

-- The same behind the closing.
pub lax_after : (g : Grammar) (p : LaxPhase) (c : ℕ) (l : List ℕ) → AfterRest (next g (Lax p) c) (seen_behind (eqb c CR) l)
    → AfterRest (Lax p) (c ∷ l)
lax_after g p c = move_after (row_move (lax_columns p) c)

-- From a phase of the body each byte kills the machine, leaves it in the body or starts the closing.
pub lax_ways : (g : Grammar) (p : LaxPhase) (c : ℕ) → part_of (Lax p) ≡ part.Body → Way (Lax p) (next g (Lax p) c) c
lax_ways g p c = move_way (row_move (lax_columns p) c)

-- Where the machine accepts, nothing more has to come.
pub lax_accepting : (p : LaxPhase) → accepting (Lax p) ≡ true → AfterRest (Lax p) []
lax_accepting p = row_accepting (lax_columns p)

-- The closing may follow in each phase of the body.
pub lax_way : (g : Grammar) (p : LaxPhase) → part_of (Lax p) ≡ part.Body → ToClosing g (Lax p)
lax_way g Data h = record { bytes = []; closes = λ z. refl }
lax_way g OnePad h = record { bytes = []; closes = λ z. refl }
lax_way g TwoPads h = record { bytes = []; closes = λ z. refl }
lax_way g Closed h = absurd (after_no_body h)

-- ---- On: the machine reads what the grammar says

-- White leads where its three columns of the row say.
white_leads : (r : Row) {q : Phase} → r.blank ≡ q → r.feed ≡ q → r.end ≡ q → (c : ℕ) → White c → target r (kind_of c) ≡ q
white_leads r b f e c (inl (inl h)) = rw h b
white_leads r b f e c (inl (inr h)) = rw h b
white_leads r b f e c (inr (inl h)) = rw h e
white_leads r b f e c (inr (inr (inl h))) = rw h e
white_leads r b f e c (inr (inr (inr (inl h)))) = rw h f
white_leads r b f e c (inr (inr (inr (inr h)))) = rw h f

module _ (g : Grammar) where
  -- White and characters keep the phase before the pads.
  mixed_next : (c : ℕ) → Mixed c → next g (Lax Data) c ≡ Lax Data
  mixed_next c (inl w) = white_leads (lax_row Data) refl refl refl c w
  mixed_next c (inr a) = row_takes (lax_row Data) refl c a

  module _ (z : List ℕ) where
    -- From the phase, whether CR was read before or not, x leads to where z leads from the closing's first hyphen.
    abbrev Leads : LaxPhase → List ℕ → Type 0
    Leads p x = (b : Bool) → run g (state (Lax p) b) x ≡ run g (state (Word Closing 1) false) z

    -- Bytes that leave the machine where it is, in front of what leads there.
    bytes_lead : (p : LaxPhase) (P : ℕ → Type 0) → ((c : ℕ) → P c → next g (Lax p) c ≡ Lax p) → (m x : List ℕ) → All P m → Leads p x → Leads p (m ++ x)
    bytes_lead p P k m x = run_all g (Lax p) P k m x (λ s. s ≡ run g (state (Word Closing 1) false) z)

    -- The pads and the closing's first hyphen.
    pads_lead : {p : List ℕ} → LaxPads p → Leads Data (p ++ (hyphen ∷ z))
    pads_lead LaxPads.none b = run_moves g (Lax Data) b hyphen z refl
    pads_lead (LaxPads.one w aw) b =
        run_moves g (Lax Data) b pad (w ++ (hyphen ∷ z)) refl
        ∙ bytes_lead OnePad White (white_leads (lax_row OnePad) refl refl refl) w (hyphen ∷ z) aw (λ d. run_moves g (Lax OnePad) d hyphen z refl) false
    pads_lead (LaxPads.two v w av aw) b =
        rw (append_assoc v (pad ∷ w) (hyphen ∷ z))
        (run_moves g (Lax Data) b pad (v ++ (pad ∷ (w ++ (hyphen ∷ z)))) refl
        ∙ bytes_lead OnePad White (white_leads (lax_row OnePad) refl refl refl) v (pad ∷ (w ++ (hyphen ∷ z))) av
        (λ d. run_moves g (Lax OnePad) d pad (w ++ (hyphen ∷ z)) refl
        ∙ bytes_lead TwoPads White (white_leads (lax_row TwoPads) refl refl refl) w (hyphen ∷ z) aw (λ d. run_moves g (Lax TwoPads) d hyphen z refl) false)
        false)

  -- The machine reads a body up to the closing.
  pub lax_closes : {l : List ℕ} → LaxBody l → Closes g (Lax Data) l
  lax_closes (lax m p am lp) z = rw (append_assoc m p (hyphen ∷ z)) (bytes_lead z Data Mixed mixed_next m (p ++ (hyphen ∷ z)) am (pads_lead z lp) false)

  -- The machine accepts white behind the closing.
  pub lax_ends : (l : List ℕ) → All White l → accepting (run g (state (Lax Closed) false) l).phase ≡ true
  lax_ends l aw =
      rw append-nil at (run_all g (Lax Closed) White (white_leads (lax_row Closed) refl refl refl) l [] (λ s. accepting s.phase ≡ true) aw (λ b. refl) false)
