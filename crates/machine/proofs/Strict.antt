-- The strict grammar at the machine: what its phases accept is what the grammar's relations say. Assumes nothing.
use mathlib.Core.Path.{◌≡◌, refl, subst}
use mathlib.Core.Logic.{◌≢◌, inl, inr, ⊎_elim}
use mathlib.Core.Bool.{Bool, true, false, cond, false≢true}
use mathlib.Core.List.{List, [], ◌∷◌, ◌++◌, append_assoc}
use Prim.Native.Nat.{ℕ, zero, suc, ◌+◌, ◌-◌, ◌*◌, ◌/◌, ◌%◌, ◌≤◌}
use native.Mathlib.Omega.{arith}
use lib.Dec.{eqb, ltb}
use lib.ListN.{length, replicate}
use borrow.Author.Tests.{eqb-true, eqb-false, ne_eqb, ltb-true, ltb-false}
use Rattle.base_64.specs.Lists.{All}
use Rattle.base_64.specs.Alphabet.{AlphabetChar, pad, alphabet, place_in, value_of}
use Rattle.grammar.specs.Marks.{CR, LF, hyphen, LineEnd, lf}
use Rattle.grammar.specs.Grammars.{Groups, StrictLines, StrictBody}
use Rattle.grammar.specs.declared.Grammar.{Grammar}
use Rattle.machine.proofs.Machine.{line_room, line_end, line_char, line_pad, strict_row, next, state, run, part_of, accepting}
use Rattle.machine.specs.declared.Boundary.TheVariants.{Closing}
use Rattle.machine.specs.declared.StrictPhase.{StrictPhase}
use Rattle.machine.specs.declared.StrictPhase.TheVariants as strict
use Rattle.machine.specs.declared.Phase.{Phase}
use Rattle.machine.specs.declared.Phase.TheVariants.{Word, Strict}
use Rattle.machine.specs.declared.Part.TheVariants as part
use Rattle.machine.proofs.Runs.{row_takes, Takes, char_closes, chars_close}
use Rattle.machine.proofs.Bodies.{seen_behind, StrictLine, StrictPad, BodyRest, AfterRest, Closes, Way, ToClosing}
use Rattle.machine.proofs.LineEnds.{line_end_last, line_end_closes, last_end_closes, line_end_accepted}
use Rattle.machine.proofs.Rows.{Byte, byte, Pad, Column, dead, live, never, Columns, columns, none, off, row_move, move_before, move_after, move_way, row_accepting, after_no_body}

-- ---- Back: what may come behind a byte or a line end makes what may come from the phase

-- Characters and up to two pads, a multiple of four in all, are groups.
chars_group : (n : ℕ) (a : List ℕ) (p : ℕ) → All AlphabetChar a → p ≤ 2 → length a + p ≡ 4 * suc n → Groups (suc n) (a ++ replicate p pad)
chars_group n [] p h hp e = absurd (omega arith)
chars_group n (x ∷ []) p h hp e = absurd (omega arith)
chars_group n (x ∷ y ∷ []) p h hp e = let pads : p ≡ 2 = omega arith in let last : n ≡ 0 = omega arith in rw (pads, last) (Groups.two h.0 h.1.0)
chars_group n (x ∷ y ∷ z ∷ []) p h hp e =
    let pads : p ≡ 1 = omega arith in let last : n ≡ 0 = omega arith in rw (pads, last) (Groups.three h.0 h.1.0 h.1.1.0)
chars_group n (x ∷ y ∷ z ∷ w ∷ []) p h hp e =
    let pads : p ≡ 0 = omega arith in let last : n ≡ 0 = omega arith in rw (pads, last) (Groups.four h.0 h.1.0 h.1.1.0 h.1.1.1.0)
chars_group zero (x ∷ y ∷ z ∷ w ∷ v ∷ a) p h hp e = absurd (omega arith)
chars_group (suc n) (x ∷ y ∷ z ∷ w ∷ v ∷ a) p h hp e =
    Groups.more h.0 h.1.0 h.1.1.0 h.1.1.1.0 (chars_group n (v ∷ a) p h.1.1.1.1 hp (omega arith))

-- The first character of a line in front of the rest of the line.
line_first : (e l : List ℕ) → Byte AlphabetChar e l → StrictLine line_room l → StrictLines (e ++ l)
line_first _ _ (byte {c = c} h) (StrictLine.full a e rest ha n he ls) = StrictLines.line (c ∷ a) e rest (h, ha) (omega arith) he ls
line_first _ _ (byte {c = c} h) (StrictLine.final a n p e ha hp k he) =
    subst StrictLines (append_assoc (c ∷ a) (replicate p pad) e)
    (StrictLines.final (suc (15 - n)) ((c ∷ a) ++ replicate p pad) e (chars_group (15 - n) (c ∷ a) p (h, ha) hp (omega arith)) (omega arith) he)

-- What holds of each way out of a test holds of the way that it takes.
test_cases : (P : Phase → Type 0) (m n : ℕ) {x y : Phase} → (m ≡ n → P x) → (m ≢ n → P y) → P (cond (eqb m n) x y)
test_cases P m n {x} {y} f h = go (eqb m n) refl
  where
    go : (b : Bool) → eqb m n ≡ b → P (cond b x y)
    go true e = f (eqb-true m n e)
    go false e = h (eqb-false m n e)

module _ (room : ℕ) where
  -- Where a line end leads: behind a full line, behind the final line, or nowhere.
  end_column : Column LineEnd (Strict (strict.Data room)) (line_end room)
  end_column =
      test_cases (Column LineEnd (Strict (strict.Data room))) room 0
      (λ k. live refl (λ e l h. ⊎_elim (last (omega arith) e l h) (StrictLine.full [] e l tt (omega arith) h)) (never _))
      (λ _. test_cases (Column LineEnd (Strict (strict.Data room))) (room % 4) 0 (λ k. live refl (last k) (never _)) (λ _. dead refl))
    where
      last : room % 4 ≡ 0 → (e l : List ℕ) → LineEnd e l → l ≡ [] → StrictLine room (e ++ l)
      last k e l h z = StrictLine.final [] (room / 4) 0 (e ++ l) tt (omega arith) (omega arith) (line_end_last e l h z)

  -- Where a character leads: on in the line, unless that is full.
  char_column : Column (Byte AlphabetChar) (Strict (strict.Data room)) (line_char room)
  char_column = test_cases (Column (Byte AlphabetChar) (Strict (strict.Data room))) room 0 (λ _. dead refl) (λ some. live refl (more some) (never _))
    where
      more : room ≢ 0 → (e l : List ℕ) → Byte AlphabetChar e l → StrictLine (room - 1) l → StrictLine room (e ++ l)
      more some _ _ (byte {c = c} h) (StrictLine.full a e rest ha n he ls) = StrictLine.full (c ∷ a) e rest (h, ha) (omega arith) he ls
      more some _ _ (byte {c = c} h) (StrictLine.final a n p e ha hp k he) = StrictLine.final (c ∷ a) n p e (h, ha) hp (omega arith) he

  -- Where a pad leads: it is the last one, or the first of two.
  pad_column : Column (Byte Pad) (Strict (strict.Data room)) (line_pad room)
  pad_column =
      test_cases (Column (Byte Pad) (Strict (strict.Data room))) (room % 4) 1 (λ k. live refl (one k) (never _))
      (λ _. test_cases (Column (Byte Pad) (Strict (strict.Data room))) (room % 4) 2 (λ k. live refl (two k) (never _)) (λ _. dead refl))
    where
      one : room % 4 ≡ 1 → (e l : List ℕ) → Byte Pad e l → LineEnd l [] → StrictLine room (e ++ l)
      one k _ l (byte q) he = rw q (StrictLine.final [] (room / 4) 1 l tt (omega arith) (omega arith) he)

      two : room % 4 ≡ 2 → (e l : List ℕ) → Byte Pad e l → StrictPad l → StrictLine room (e ++ l)
      two k _ _ (byte q) (StrictPad.last {e = e} he) = rw q (StrictLine.final [] (room / 4) 2 e tt (omega arith) (omega arith) he)

-- The second pad.
pad_last : (e l : List ℕ) → Byte Pad e l → LineEnd l [] → StrictPad (e ++ l)
pad_last _ _ (byte q) he = rw q (StrictPad.last he)

-- The table, read backwards.
strict_columns : (p : StrictPhase) → Columns (Strict p) (strict_row p)
strict_columns strict.Opened =
    columns (dead refl) (dead refl) (live refl StrictBody.strict (never _)) (dead refl) (dead refl) (none refl) false≢true
strict_columns strict.First = columns (dead refl) (dead refl) (dead refl) (live refl line_first (never _)) (dead refl) (none refl) false≢true
strict_columns strict.Line =
    columns (dead refl) (dead refl) (dead refl) (live refl (λ e l h w. inr (line_first e l h w)) (never _)) (dead refl) (off refl refl (inl refl)) false≢true
strict_columns (strict.Data room) = columns (dead refl) (dead refl) (end_column room) (char_column room) (pad_column room) (none refl) false≢true
strict_columns strict.OnePad = columns (dead refl) (dead refl) (dead refl) (dead refl) (live refl pad_last (never _)) (none refl) false≢true
strict_columns strict.Padded = columns (dead refl) (dead refl) (live refl line_end_last (never _)) (dead refl) (dead refl) (none refl) false≢true
strict_columns strict.Final = columns (dead refl) (dead refl) (dead refl) (dead refl) (dead refl) (off refl refl refl) false≢true
strict_columns strict.Closed = columns (dead refl) (dead refl) (live refl (never _) line_end_last) (dead refl) (dead refl) (none refl) (λ e. absurd (false≢true e))
strict_columns strict.Ended = columns (dead refl) (dead refl) (dead refl) (dead refl) (dead refl) (none refl) (λ _. refl)

-- What may come of a body behind a byte makes what may come before it.
pub strict_before : (g : Grammar) (p : StrictPhase) (c : ℕ) (l : List ℕ) → BodyRest (next g (Strict p) c) (seen_behind (eqb c CR) l)
    → BodyRest (Strict p) (c ∷ l)
strict_before g p c = move_before (row_move (strict_columns p) c)

-- The same behind the closing.
pub strict_after : (g : Grammar) (p : StrictPhase) (c : ℕ) (l : List ℕ) → AfterRest (next g (Strict p) c) (seen_behind (eqb c CR) l)
    → AfterRest (Strict p) (c ∷ l)
strict_after g p c = move_after (row_move (strict_columns p) c)

-- From a phase of the body each byte kills the machine, leaves it in the body or starts the closing.
pub strict_ways : (g : Grammar) (p : StrictPhase) (c : ℕ) → part_of (Strict p) ≡ part.Body → Way (Strict p) (next g (Strict p) c) c
strict_ways g p c = move_way (row_move (strict_columns p) c)

-- Where the machine accepts, nothing more has to come.
pub strict_accepting_lem : (p : StrictPhase) → accepting (Strict p) ≡ true → AfterRest (Strict p) []
strict_accepting_lem p = row_accepting (strict_columns p)

-- ---- On: the machine reads what the grammar says

-- "A" is one of the alphabet.
letter_A : AlphabetChar 65
unfolding value_of place_in alphabet
letter_A = omega arith

-- A final line has a group.
groups_some : {n : ℕ} {l : List ℕ} → Groups n l → n ≢ 0
groups_some (Groups.four ha hb hc hd) = omega arith
groups_some (Groups.three ha hb hc) = omega arith
groups_some (Groups.two ha hb) = omega arith
groups_some (Groups.more ha hb hc hd l) = omega arith

module _ (g : Grammar) where
  -- A line that is not full takes one more.
  line_takes : (room : ℕ) → room ≢ 0 → Takes g (Strict (strict.Data room)) (Strict (strict.Data (room - 1)))
  line_takes room some = row_takes (strict_row (strict.Data room)) (rw (ne_eqb room 0 some))

  -- One or more characters, from a phase behind the first of which the line has so much room.
  line_closes : (p : Phase) (room more c : ℕ) (a l : List ℕ) → Takes g p (Strict (strict.Data room)) → All AlphabetChar (c ∷ a) → length a + more ≡ room
      → Closes g (Strict (strict.Data more)) l → Closes g p (c ∷ (a ++ l))
  line_closes = chars_close g (λ n. Strict (strict.Data n)) line_takes

  -- The pads and the line end of the final line.
  pads_close : (p room : ℕ) {e : List ℕ} → p ≤ 2 → room % 4 ≡ p → LineEnd e [] → Closes g (Strict (strict.Data room)) (replicate p pad ++ e)
  pads_close zero room hp h he z = last_end_closes g (Strict (strict.Data room)) refl refl he (rw h (last (eqb room 0))) z
    where
      last : (b : Bool) → next g (cond b (Strict strict.Line) (Strict strict.Final)) hyphen ≡ Word Closing 1
      last true = refl
      last false = refl
  pads_close (suc zero) room hp h he z = rw (h, run) (last_end_closes g (Strict strict.Padded) refl refl he refl z)
  pads_close (suc (suc zero)) room hp h he z = rw (h, run) (last_end_closes g (Strict strict.Padded) refl refl he refl z)
  pads_close (suc (suc (suc p))) room hp h he z = absurd (omega arith)

  -- The groups and the line end of the final line.
  groups_close : {n : ℕ} {l : List ℕ} (e : List ℕ) → Groups n l → LineEnd e [] → (p : Phase) (room : ℕ) → Takes g p (Strict (strict.Data room)) → room % 4 ≡ 3 → 4 * n ≤ suc room
      → Closes g p (l ++ e)
  groups_close e (Groups.four {a} {b} {c} {d} ha hb hc hd) he p room t k fits =
      line_closes p room (room - 3) a (b ∷ c ∷ d ∷ []) e t (ha, (hb, (hc, (hd, tt)))) (omega arith) (pads_close 0 (room - 3) (omega arith) (omega arith) he)
  groups_close e (Groups.three {a} {b} {c} ha hb hc) he p room t k fits =
      line_closes p room (room - 2) a (b ∷ c ∷ []) (pad ∷ e) t (ha, (hb, (hc, tt))) (omega arith) (pads_close 1 (room - 2) (omega arith) (omega arith) he)
  groups_close e (Groups.two {a} {b} ha hb) he p room t k fits =
      line_closes p room (room - 1) a (b ∷ []) (pad ∷ pad ∷ e) t (ha, (hb, tt)) (omega arith) (pads_close 2 (room - 1) (omega arith) (omega arith) he)
  groups_close e (Groups.more {a} {b} {c} {d} {rest = l} ha hb hc hd gs) he p room t k fits =
      let some = groups_some gs in
      line_closes p room (room - 3) a (b ∷ c ∷ d ∷ []) (l ++ e) t (ha, (hb, (hc, (hd, tt)))) (omega arith)
      (groups_close e gs he (Strict (strict.Data (room - 3))) (room - 3 - 1) (line_takes (room - 3) (omega arith)) (omega arith) (omega arith))

  -- The lines, from the start of a line.
  lines_close : {l : List ℕ} → StrictLines l → (p : Phase) → Takes g p (Strict (strict.Data 63)) → Closes g p l
  lines_close (StrictLines.final n l e hl hn he) p t = groups_close e hl he p 63 t refl (omega arith)
  lines_close (StrictLines.line [] e rest ha n he l) p t = absurd (omega arith)
  lines_close (StrictLines.line (c ∷ a) e rest ha n he l) p t =
      line_closes p 63 0 c a (e ++ rest) t ha (omega arith)
      (line_end_closes g (Strict (strict.Data 0)) refl refl he (lines_close l (Strict strict.Line) (row_takes (strict_row strict.Line) refl)))

  -- The machine reads a body up to the closing.
  pub strict_closes : {l : List ℕ} → StrictBody l → Closes g (Strict strict.Opened) l
  strict_closes (StrictBody.strict e rest he l) =
      line_end_closes g (Strict strict.Opened) refl refl he (lines_close l (Strict strict.First) (row_takes (strict_row strict.First) refl))

  -- The machine accepts a line end behind the closing.
  pub strict_ends : {l : List ℕ} → LineEnd l [] → accepting (run g (state (Strict strict.Closed) false) l).phase ≡ true
  strict_ends he = line_end_accepted g (Strict strict.Closed) refl refl refl he

  -- Bytes that fill the last group of a line, by its room, lead from there to the closing.
  line_way : (room : ℕ) → ToClosing g (Strict (strict.Data room))
  line_way room = go (ltb (room % 4) 3) refl
    where
      go : (b : Bool) → ltb (room % 4) 3 ≡ b → ToClosing g (Strict (strict.Data room))
      go true e = record { bytes = replicate (room % 4) pad ++ (LF ∷ []); closes = pads_close (room % 4) room (omega (arith, ltb-true (room % 4) 3 e)) refl lf }
      go false e =
          let three : room % 4 ≡ 3 = omega (arith, ltb-false (room % 4) 3 e) in
          record {
            bytes = 65 ∷ pad ∷ pad ∷ LF ∷ [];
            closes =
                char_closes g (Strict (strict.Data room)) 65 (pad ∷ pad ∷ LF ∷ []) (line_takes room (omega arith)) letter_A
                (pads_close 2 (room - 1) (omega arith) (omega arith) lf);
          }

  -- From each phase of a body some bytes lead to the closing.
  pub strict_way : (p : StrictPhase) → part_of (Strict p) ≡ part.Body → ToClosing g (Strict p)
  unfolding value_of place_in alphabet
  strict_way strict.Opened b = record { bytes = LF ∷ 65 ∷ 65 ∷ pad ∷ pad ∷ LF ∷ []; closes = λ z. refl }
  strict_way strict.First b = record { bytes = 65 ∷ 65 ∷ pad ∷ pad ∷ LF ∷ []; closes = λ z. refl }
  strict_way strict.Line b = record { bytes = []; closes = λ z. refl }
  strict_way (strict.Data room) b = line_way room
  strict_way strict.OnePad b = record { bytes = pad ∷ LF ∷ []; closes = λ z. refl }
  strict_way strict.Padded b = record { bytes = LF ∷ []; closes = λ z. refl }
  strict_way strict.Final b = record { bytes = []; closes = λ z. refl }
  strict_way strict.Closed b = absurd (after_no_body b)
  strict_way strict.Ended b = absurd (after_no_body b)
