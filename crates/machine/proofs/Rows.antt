-- A row, backwards: what may come behind a byte makes what may come from the phase. Assumes nothing.
use mathlib.Core.Path.{◌≡◌, refl, ap, ◌∙◌}
use mathlib.Core.Logic.{◌⊎◌, inl, inr}
use mathlib.Core.Bool.{true, false, true≢false}
use mathlib.Core.List.{List, [], ◌∷◌, ◌++◌}
use Prim.Native.Nat.{ℕ}
use lib.Dec.{eqb}
use Rattle.base_64.specs.Alphabet.{AlphabetChar, pad}
use Rattle.grammar.specs.Marks.{VT, FF, CR, hyphen, Blank, LineEnd}
use Rattle.machine.proofs.ByteKinds.{kind_of}
use Rattle.machine.proofs.Machine.{target, part_of, is_after, accepting}
use Rattle.machine.specs.declared.Boundary.TheVariants.{Closing}
use Rattle.machine.specs.declared.Row.{Row}
use Rattle.machine.specs.declared.Phase.{Phase}
use Rattle.machine.specs.declared.Phase.TheVariants.{Word, Dead}
use Rattle.machine.specs.declared.Part.TheVariants as part
use Rattle.machine.proofs.Bytes.{View, tab, space, cr, lf, vt, ff, dash, equals, char, mark, other, view}
use Rattle.machine.proofs.Bodies.{seen_behind, BodyRest, AfterRest, Way, dies, stays, closes}
use Rattle.machine.proofs.LineEnds.{Reads, cr_reads, lf_reads}

-- One byte that is a P.
pub data Byte (P : ℕ → Type 0) : (e rest : List ℕ) → Type 0 where
  byte : {c : ℕ} {rest : List ℕ} → P c → Byte P (c ∷ []) rest

abbrev pub Feed : ℕ → Type 0
Feed c = (c ≡ VT) ⊎ (c ≡ FF)

abbrev pub Pad : ℕ → Type 0
Pad c = c ≡ pad

-- Behind bytes that are an M, what may come from q makes what may come from p.
abbrev pub Back : (M : List ℕ → List ℕ → Type 0) (R : Phase → List ℕ → Type 0) (p q : Phase) → Type 0
Back M R p q = (e rest : List ℕ) → M e rest → R q rest → R p (e ++ rest)

-- Where nothing may come, nothing does.
pub never : (M : List ℕ → List ℕ → Type 0) (e rest : List ℕ) → M e rest → ⊥ → ⊥
never M e rest h r = r

-- Bytes that are an M take the machine from p to q: it is dead, or in the same part of the text.
pub data Column (M : List ℕ → List ℕ → Type 0) (p q : Phase) : Type 0 where
  dead : q ≡ Dead → Column M p q
  live : part_of q ≡ part_of p → Back M BodyRest p q → Back M AfterRest p q → Column M p q

-- The byte c takes the machine from p to q, and this is the way back.
pub data Move (p q : Phase) (c : ℕ) : Type 0 where
  none : q ≡ Dead → Move p q c
  on : part_of q ≡ part_of p
      → ((l : List ℕ) → BodyRest q (seen_behind (eqb c CR) l) → BodyRest p (c ∷ l))
      → ((l : List ℕ) → AfterRest q (seen_behind (eqb c CR) l) → AfterRest p (c ∷ l))
      → Move p q c
  off : q ≡ Word Closing 1 → c ≡ hyphen → BodyRest p [] → Move p q c

-- The row of p, column by column: a blank, VT or FF, a line end, an alphabet character, a pad, a hyphen; and the end of the text.
pub data Columns (p : Phase) (r : Row) : Type 0 where
  columns : Column (Byte Blank) p r.blank → Column (Byte Feed) p r.feed → Column LineEnd p r.end
      → Column (Byte AlphabetChar) p r.alphabet → Column (Byte Pad) p r.pad → Move p r.hyphen hyphen
      → (accepting p ≡ true → AfterRest p []) → Columns p r

-- A byte that is a P is one.
byte_reads : (P : ℕ → Type 0) (c : ℕ) → eqb c CR ≡ false → P c → Reads (Byte P) c
byte_reads P c n h R Q f l = rw n (f _ l (byte h))

-- A byte, in the column of what it reads as.
column_move : {M : List ℕ → List ℕ → Type 0} {p q : Phase} {c : ℕ} → Reads M c → Column M p q → Move p q c
column_move f (dead e) = none e
column_move {p = p} {q = q} f (live e b a) = on e (f (BodyRest q) (BodyRest p) b) (f (AfterRest q) (AfterRest p) a)

-- A row's columns say where each byte takes the machine.
pub row_move : {p : Phase} {r : Row} → Columns p r → (c : ℕ) → Move p (target r (kind_of c)) c
row_move {p} {r} (columns b f e a d h _) c = go (view c)
  where
    go : {c : ℕ} → View c → Move p (target r (kind_of c)) c
    go tab = column_move (byte_reads Blank _ refl (inl refl)) b
    go space = column_move (byte_reads Blank _ refl (inr refl)) b
    go cr = column_move cr_reads e
    go lf = column_move lf_reads e
    go vt = column_move (byte_reads Feed _ refl (inl refl)) f
    go ff = column_move (byte_reads Feed _ refl (inr refl)) f
    go dash = h
    go equals = column_move (byte_reads Pad _ refl refl) d
    go (char k m s) = rw s.kind (column_move (byte_reads AlphabetChar _ s.no_cr k) a)
    go (mark m s) = none (rw s.kind)
    go (other n s) = none (rw s.kind)

-- The way back in a body.
pub move_before : {p q : Phase} {c : ℕ} → Move p q c → (l : List ℕ) → BodyRest q (seen_behind (eqb c CR) l) → BodyRest p (c ∷ l)
move_before (none e) l r = absurd (rw e at r)
move_before (on e b a) l r = b l r
move_before (off e h k) l r = absurd (rw e at r)

-- The way back behind the closing.
pub move_after : {p q : Phase} {c : ℕ} → Move p q c → (l : List ℕ) → AfterRest q (seen_behind (eqb c CR) l) → AfterRest p (c ∷ l)
move_after (none e) l r = absurd (rw e at r)
move_after (on e b a) l r = a l r
move_after (off e h k) l r = absurd (rw e at r)

-- The way on in a body.
pub move_way : {p q : Phase} {c : ℕ} → Move p q c → part_of p ≡ part.Body → Way p q c
move_way (none e) h = dies e
move_way (on e b a) h = stays (e ∙ h)
move_way (off e k r) h = closes e k r

-- Where the machine accepts, nothing more has to come.
pub row_accepting : {p : Phase} {r : Row} → Columns p r → accepting p ≡ true → AfterRest p []
row_accepting (columns b f e a d h k) = k

-- What stands behind the closing is not in the body.
pub after_no_body : ¬ (part.After ≡ part.Body)
after_no_body e = true≢false (ap is_after e)
