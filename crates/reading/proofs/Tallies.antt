-- The scan: the tally of a reading's text, the last alphabet character of a body, and where a scan stops. Assumes nothing.
use mathlib.Core.Path.{◌≡◌, refl, sym, ap, subst, ◌∙◌}
use mathlib.Core.Logic.{◌≢◌, ◌⊎◌, inl, inr}
use mathlib.Core.Bool.{Bool, true, false, cond, false≢true}
use mathlib.Core.List.{List, [], ◌∷◌, ◌++◌, append_assoc}
use Prim.Native.Nat.{ℕ, suc, ◌+◌, ◌≤◌}
use native.Mathlib.Omega.{arith}
use native.Mathlib.Nat.{add-zero, zero-add}
use lib.Dec.{eqb, ltb}
use lib.ListN.{length, take, get_or, replicate, length-append}
use lib.Seq.{get_or-append-add, get_or-append_seam}
use borrow.Author.Tests.{eqb-true, ltb-true, ltb-false, lt-ltb, le-ltb}
use Rattle.base_64.specs.Alphabet.{radix, pad, value_of, AlphabetChar}
use Rattle.base_64.specs.Groups.{values_of, spare_bits}
use Rattle.grammar.specs.Marks.{HT, LF, VT, FF, CR, SP, hyphen, opening, closing}
use Rattle.grammar.specs.Message.{Reading, text_of, characters, pad_count}
use Rattle.grammar.specs.declared.Grammar.{Grammar}
use Rattle.grammar.proofs.Marks.{pad_no_alphabet}
use Rattle.grammar.proofs.Counts.{characters_append}
use Rattle.machine.proofs.ByteKinds.{kind_of}
use Rattle.machine.proofs.Machine.{state, step, run, part_of, byte_part, trace, dead}
use Rattle.machine.specs.declared.Kind.{Kind}
use Rattle.machine.specs.declared.Kind.TheVariants as kind
use Rattle.machine.specs.declared.Part.{Part}
use Rattle.machine.specs.declared.Part.TheVariants as part
use Rattle.machine.specs.declared.Phase.{Phase}
use Rattle.machine.specs.declared.Phase.TheVariants.{Before, Word, Label, Lax, Standard, Strict, Dead}
use Rattle.machine.specs.declared.State.{State}
use Rattle.machine.proofs.Bytes.{alphabet_seen}
use Rattle.machine.proofs.Boundaries.{dead_stays}
use Rattle.machine.proofs.Messages.{parts_of}
use Rattle.reading.specs.Data.{spare_of}
use Rattle.reading.specs.Meaning.{NoCharacter}
use Rattle.reading.specs.Ends.{end_counted, ends_from, ends_in, no_ends}
use Rattle.reading.specs.Scan.{tally, with_ends, byte_tallied, no_tally, character_tallied, pad_tallied, other_tallied, body_tallied, tallied, stopped, scan_of}
use Rattle.reading.specs.declared.EndCounts.{EndCounts}
use Rattle.reading.specs.declared.Tally.{Tally}
use Rattle.reading.specs.declared.Scan.{Scan}
use Rattle.reading.proofs.Data.{spare_last}

-- ---- the last alphabet character

-- From place i on, with k the place of the last one before.
unfoldable pub last_from : ℕ → ℕ → List ℕ → ℕ
last_from i k [] = k
last_from i k (c ∷ l) = cond (ltb (value_of c) radix) (last_from (i + 1) i l) (last_from (i + 1) k l)

-- The place of a list's last alphabet character, or 0.
abbrev pub last_index : List ℕ → ℕ
last_index l = last_from 0 0 l

-- A byte outside the alphabet fails the test.
outside_test : (c : ℕ) → ¬ AlphabetChar c → ltb (value_of c) radix ≡ false
outside_test c n = le-ltb (value_of c) radix (omega arith)

-- Where no byte is an alphabet character, the list of them is empty.
none_characters : (l : List ℕ) → NoCharacter l → characters l ≡ []
unfolding characters
none_characters [] n = refl
none_characters (c ∷ l) n = rw (outside_test c n.0) (none_characters l n.1)

-- Such a list leaves the place as it was.
pub none_last : (i k : ℕ) (l : List ℕ) → NoCharacter l → last_from i k l ≡ k
unfolding last_from
none_last i k [] n = refl
none_last i k (c ∷ l) n = rw (outside_test c n.0) (none_last (i + 1) k l n.1)

-- A character with none behind it is the last one, from any place on.
last_from_lem : (i k : ℕ) (a : List ℕ) (c : ℕ) (b : List ℕ) → AlphabetChar c → NoCharacter b → last_from i k (a ++ (c ∷ b)) ≡ i + length a
unfolding last_from
last_from_lem i k [] c b h n = rw (lt-ltb (value_of c) radix h) (none_last (i + 1) i b n ∙ omega arith)
last_from_lem i k (x ∷ a) c b h n = go (ltb (value_of x) radix) (last_from_lem (i + 1) i a c b h n) (last_from_lem (i + 1) k a c b h n)
  where
    go : (t : Bool) → last_from (i + 1) i (a ++ (c ∷ b)) ≡ i + 1 + length a → last_from (i + 1) k (a ++ (c ∷ b)) ≡ i + 1 + length a
        → cond t (last_from (i + 1) i (a ++ (c ∷ b))) (last_from (i + 1) k (a ++ (c ∷ b))) ≡ i + suc (length a)
    go true p q = omega arith
    go false p q = omega arith

-- The same from the start.
pub last_index_lem : (l a : List ℕ) (c : ℕ) (b : List ℕ) → l ≡ a ++ (c ∷ b) → AlphabetChar c → NoCharacter b → last_index l ≡ length a
last_index_lem l a c b j h n = ap last_index j ∙ last_from_lem 0 0 a c b h n ∙ zero-add (length a)

-- A list cut at its last alphabet character.
pub record LastCharacter (l : List ℕ) : Type 0 where
  pub front : List ℕ
  pub char : ℕ
  pub back : List ℕ
  pub joined : l ≡ front ++ (char ∷ back)
  pub is_char : AlphabetChar char
  pub none_behind : NoCharacter back
  pub index : last_index l ≡ length front
  pub characters_end : characters l ≡ characters front ++ (char ∷ [])

-- A character with none behind it cuts the list so.
last_cut : (l a : List ℕ) (c : ℕ) (b : List ℕ) → l ≡ a ++ (c ∷ b) → AlphabetChar c → NoCharacter b → LastCharacter l
unfolding characters
last_cut l a c b j h n = record {
  front = a;
  char = c;
  back = b;
  joined = j;
  is_char = h;
  none_behind = n;
  index = last_index_lem l a c b j h n;
  characters_end = ap characters j ∙ characters_append a (c ∷ b) ∙ rw (lt-ltb (value_of c) radix h, none_characters b n);
}

-- A list has a last character, or none.
last_or_none : (l : List ℕ) → LastCharacter l ⊎ NoCharacter l
last_or_none [] = inr tt
last_or_none (c ∷ l) = go (last_or_none l) (ltb (value_of c) radix) refl
  where
    go : LastCharacter l ⊎ NoCharacter l → (t : Bool) → ltb (value_of c) radix ≡ t → LastCharacter (c ∷ l) ⊎ NoCharacter (c ∷ l)
    go (inl s) t e = inl (last_cut (c ∷ l) (c ∷ s.front) s.char s.back (ap (λ x. c ∷ x) s.joined) s.is_char s.none_behind)
    go (inr n) true e = inl (last_cut (c ∷ l) [] c l refl (ltb-true (value_of c) radix e) n)
    go (inr n) false e = inr ((λ h. omega (arith, ltb-false (value_of c) radix e)), n)

-- Where there are characters, there is a last one.
pub last_character : (l : List ℕ) → characters l ≢ [] → LastCharacter l
last_character l h = go (last_or_none l)
  where
    go : LastCharacter l ⊎ NoCharacter l → LastCharacter l
    go (inl s) = s
    go (inr n) = absurd (h (none_characters l n))

-- The last character of a body alone gives its spare bits, with how many characters there are: it stands in the text, and
-- where there is none, any byte will do.
pub spare_text : (front l back : List ℕ)
    → spare_bits (values_of (characters l)) ≡ spare_of (length (characters l)) (value_of (get_or (front ++ (l ++ back)) (length front + last_index l) 0))
spare_text front l back = go (last_or_none l)
  where
    go : LastCharacter l ⊎ NoCharacter l
        → spare_bits (values_of (characters l)) ≡ spare_of (length (characters l)) (value_of (get_or (front ++ (l ++ back)) (length front + last_index l) 0))
    go (inl s) =
        let cut : l ++ back ≡ s.front ++ (s.char ∷ (s.back ++ back)) = ap (λ x. x ++ back) s.joined ∙ append_assoc s.front (s.char ∷ s.back) back in
        rw (get_or-append-add, s.index, cut, get_or-append_seam, s.characters_end) (spare_last (characters s.front) s.char)
    go (inr n) = rw (none_characters l n)

-- The place is within the list.
pub last_within : (l : List ℕ) → last_index l ≤ length l
last_within l = go (last_or_none l)
  where
    go : LastCharacter l ⊎ NoCharacter l → last_index l ≤ length l
    go (inl s) = omega (arith, s.index, simp length-append at (ap length s.joined))
    go (inr n) = omega (arith, none_last 0 0 l n)

-- A list has no more alphabet characters than bytes.
pub characters_short : (l : List ℕ) → length (characters l) ≤ length l
unfolding characters
characters_short [] = omega arith
characters_short (c ∷ l) = go (ltb (value_of c) radix) (characters_short l)
  where
    go : (t : Bool) → length (characters l) ≤ length l → length (cond t (c ∷ characters l) (characters l)) ≤ suc (length l)
    go true h = omega arith
    go false h = omega arith

-- ---- the tally of a reading

-- The bytes of a list tallied, each in its part.
abbrev pub tally_list : List Part → List ℕ → Tally → Tally
tally_list [] l t = t
tally_list (p ∷ ps) [] t = t
tally_list (p ∷ ps) (c ∷ l) t = tally_list ps l (tallied p (kind_of c) t)

-- The lengths of a reading's parts, and of its body the characters, the pads and the last character's place.
abbrev pub tally_of : Reading → Tally
tally_of r =
    tally (length r.before) (length (opening r.opening_label)) (length r.body) (length (closing r.closing_label))
    (length (characters r.body)) (pad_count r.body) (last_index r.body) (ends_in (text_of r))

-- One byte more, counted before the others.
suc_moves : (n m : ℕ) → n + suc m ≡ n + 1 + m
suc_moves n m = omega arith

-- A part of which only the bytes are counted.
part_tally : (p : Part) (f : ℕ → Tally) → ((k : Kind) (n : ℕ) → tallied p k (f n) ≡ f (n + 1)) → (n : ℕ) (y x : List ℕ) (ps : List Part)
    → tally_list (replicate (length y) p ++ ps) (y ++ x) (f n) ≡ tally_list ps x (f (n + length y))
part_tally p f h n [] x ps = ap (λ i. tally_list ps x (f i)) (sym (add-zero n))
part_tally p f h n (c ∷ y) x ps = rw (h, suc_moves n (length y)) (part_tally p f h (n + 1) y x ps)

-- What stands behind the closing is not counted.
after_tally : (y : List ℕ) (t : Tally) → tally_list (replicate (length y) part.After) y t ≡ t
after_tally [] t = refl
after_tally (c ∷ y) t = after_tally y t

-- How a byte of the body is counted, and the tests that tell.
data Counted (c : ℕ) : Type 0 where
  character : ((t : Tally) → body_tallied (kind_of c) t ≡ character_tallied t) → ltb (value_of c) radix ≡ true → eqb c pad ≡ false → Counted c
  padding : ((t : Tally) → body_tallied (kind_of c) t ≡ pad_tallied t) → ltb (value_of c) radix ≡ false → eqb c pad ≡ true → Counted c
  neither : ((t : Tally) → body_tallied (kind_of c) t ≡ other_tallied t) → ltb (value_of c) radix ≡ false → eqb c pad ≡ false → Counted c

-- Each byte is counted in one of the three ways.
counted : (c : ℕ) → Counted c
counted c = go (ltb (value_of c) radix) refl (eqb c pad) refl
  where
    -- The kinds of all other bytes are counted alike.
    plain : (a b d e f g h i j : Bool) (t : Tally)
        → body_tallied (cond a kind.Tab (cond b kind.Lf (cond d kind.Feed (cond e kind.Feed (cond f kind.Cr (cond g kind.Space (cond h kind.Hyphen (cond i kind.Other (cond j kind.Other kind.Mark))))))))) t
        ≡ other_tallied t
    plain true b d e f g h i j t = refl
    plain false true d e f g h i j t = refl
    plain false false true e f g h i j t = refl
    plain false false false true f g h i j t = refl
    plain false false false false true g h i j t = refl
    plain false false false false false true h i j t = refl
    plain false false false false false false true i j t = refl
    plain false false false false false false false true j t = refl
    plain false false false false false false false false true t = refl
    plain false false false false false false false false false t = refl

    go : (u : Bool) → ltb (value_of c) radix ≡ u → (v : Bool) → eqb c pad ≡ v → Counted c
    go true e true q = absurd (pad_no_alphabet (subst AlphabetChar (eqb-true c pad q) (ltb-true (value_of c) radix e)))
    go true e false q = character (λ t. ap (λ k. body_tallied k t) (alphabet_seen c (ltb-true (value_of c) radix e)).kind) e q
    go false e true q = padding (λ t. ap (λ x. body_tallied (kind_of x) t) (eqb-true c pad q)) e q
    go false e false q = neither (λ t. rw (q, e) (plain (eqb c HT) (eqb c LF) (eqb c VT) (eqb c FF) (eqb c CR) (eqb c SP) (eqb c hyphen) (ltb c 33) (ltb 126 c) t)) e q

-- The body's bytes are tallied behind n of them, with a characters, p pads and the last character at k.
abbrev BodyTally : (b o n a p k : ℕ) (y x : List ℕ) (ps : List Part) → Type 0
BodyTally b o n a p k y x ps =
    tally_list (replicate (length y) part.Body ++ ps) (y ++ x) (tally b o n 0 a p k no_ends)
    ≡ tally_list ps x (tally b o (n + length y) 0 (a + length (characters y)) (p + pad_count y) (last_from n k y) no_ends)

-- Its characters and pads are counted, and its last character is noted.
body_tally : (b o n a p k : ℕ) (y x : List ℕ) (ps : List Part) → BodyTally b o n a p k y x ps
unfolding characters pad_count last_from
body_tally b o n a p k [] x ps = rw (add-zero n, add-zero a, add-zero p)
body_tally b o n a p k (c ∷ y) x ps = go (counted c) (λ a p k. body_tally b o (n + 1) a p k y x ps)
  where
    go : Counted c → ((a p k : ℕ) → BodyTally b o (n + 1) a p k y x ps) → BodyTally b o n a p k (c ∷ y) x ps
    go (character f u v) ih = rw (f, u, v, suc_moves n (length y), suc_moves a (length (characters y))) (ih (a + 1) p n)
    go (padding f u v) ih = rw (f, u, v, suc_moves n (length y), suc_moves p (pad_count y)) (ih a (p + 1) k)
    go (neither f u v) ih = rw (f, u, v, suc_moves n (length y)) (ih a p k)

-- The parts of a message, one behind the other.
parts_tally : (w o y c a : List ℕ)
    → tally_list
    (replicate (length w) part.Before
    ++ (replicate (length o) part.Opening
    ++ (replicate (length y) part.Body
    ++ (replicate (length c) part.Closing
    ++ replicate (length a) part.After))))
    (w ++ (o ++ (y ++ (c ++ a))))
    no_tally
    ≡ tally (length w) (length o) (length y) (length c) (length (characters y)) (pad_count y) (last_index y) no_ends
parts_tally w o y c a =
    simp (
      part_tally part.Before (λ n. tally n 0 0 0 0 0 0 no_ends) (λ k n. refl) 0 w,
      part_tally part.Opening (λ n. tally (length w) n 0 0 0 0 0 no_ends) (λ k n. refl) 0 o,
      body_tally (length w) (length o) 0 0 0 0 y,
      part_tally part.Closing (λ n. tally (length w) (length o) (length y) n (length (characters y)) (pad_count y) (last_index y) no_ends) (λ k n. refl) 0 c,
      after_tally,
      zero-add,
    )

-- The tally of a reading's text, but for the line ends.
tally_parts : (r : Reading) → tally_list (parts_of r) (text_of r) no_tally ≡ with_ends (tally_of r) no_ends
tally_parts r = parts_tally r.before (opening r.opening_label) r.body (closing r.closing_label) r.after

-- Line ends are counted beside the rest.
body_ends : (k : Kind) (t : Tally) (e : EndCounts) → body_tallied k (with_ends t e) ≡ with_ends (body_tallied k t) e
body_ends kind.Tab t e = refl
body_ends kind.Space t e = refl
body_ends kind.Cr t e = refl
body_ends kind.Lf t e = refl
body_ends kind.Feed t e = refl
body_ends kind.Hyphen t e = refl
body_ends kind.Alphabet t e = refl
body_ends kind.Pad t e = refl
body_ends kind.Mark t e = refl
body_ends kind.Other t e = refl

pub part_ends : (p : Part) (k : Kind) (t : Tally) (e : EndCounts) → tallied p k (with_ends t e) ≡ with_ends (tallied p k t) e
part_ends part.Before k t e = refl
part_ends part.Opening k t e = refl
part_ends part.Body k t e = body_ends k t e
part_ends part.Closing k t e = refl
part_ends part.After k t e = refl

list_ends : (ps : List Part) (l : List ℕ) (t : Tally) (e : EndCounts) → tally_list ps l (with_ends t e) ≡ with_ends (tally_list ps l t) e
list_ends [] l t e = refl
list_ends (p ∷ ps) [] t e = refl
list_ends (p ∷ ps) (c ∷ l) t e = ap (tally_list ps l) (part_ends p (kind_of c) t e) ∙ list_ends ps l (tallied p (kind_of c) t) e

-- The tally of what the machine reads.
abbrev pub tally_run : Grammar → State → List ℕ → Tally → Tally
tally_run g s [] t = t
tally_run g s (c ∷ l) t = tally_run g (step g s c) l (byte_tallied s.cr c (byte_part (part_of s.phase) (part_of (step g s c).phase)) t)

-- Behind a byte the machine knows whether it was CR.
step_cr : (g : Grammar) (s : State) (c : ℕ) → (step g s c).cr ≡ eqb c CR
step_cr g s c = go s.cr (eqb c LF) refl
  where
    go : (b d : Bool) → eqb c LF ≡ d → (step g (state s.phase b) c).cr ≡ eqb c CR
    go true true e = rw (e, eqb-true c LF e)
    go true false e = rw e
    go false d e = refl

pub tally_run_lem : (g : Grammar) (s : State) (l : List ℕ) (t : Tally) → tally_run g s l t ≡ with_ends (tally_list (trace g s l) l t) (ends_from s.cr t.ends l)
unfolding ends_from
tally_run_lem g s [] t = refl
tally_run_lem g s (c ∷ l) t =
    let p : Part = byte_part (part_of s.phase) (part_of (step g s c).phase) in
    tally_run_lem g (step g s c) l (byte_tallied s.cr c p t)
    ∙ rw (step_cr g s c) (ap (λ (u : Tally). with_ends u (ends_from (eqb c CR) (end_counted s.cr c t.ends) l)) (list_ends (trace g (step g s c) l) l (tallied p (kind_of c) t) (end_counted s.cr c t.ends)))

-- The tally of a reading's text.
pub tally_reading : (g : Grammar) (s : State) (r : Reading) → s.cr ≡ false → trace g s (text_of r) ≡ parts_of r → tally_run g s (text_of r) no_tally ≡ tally_of r
tally_reading g s r e f =
    tally_run_lem g s (text_of r) no_tally
    ∙ (λ i. with_ends (tally_list (f i) (text_of r) no_tally) (ends_from (e i) no_ends (text_of r)))
    ∙ ap (λ (u : Tally). with_ends u (ends_in (text_of r))) (tally_parts r)

-- ---- where a scan stops

-- Only one phase is dead.
pub dead_phase : (p : Phase) → dead p ≡ true → p ≡ Dead
dead_phase Before e = absurd (false≢true e)
dead_phase (Word b n) e = absurd (false≢true e)
dead_phase (Label b l) e = absurd (false≢true e)
dead_phase (Lax p) e = absurd (false≢true e)
dead_phase (Standard p) e = absurd (false≢true e)
dead_phase (Strict p) e = absurd (false≢true e)
dead_phase Dead e = refl

-- Where the machine lives at the end, it lived before.
lived : (g : Grammar) (s : State) (l : List ℕ) → dead (run g s l).phase ≡ false → dead s.phase ≡ false
lived g s l h = go (dead s.phase) refl
  where
    go : (t : Bool) → dead s.phase ≡ t → t ≡ false
    go true e = ap dead (sym (ap (λ p. (run g (state p s.cr) l).phase) (dead_phase s.phase e) ∙ dead_stays g s.cr l)) ∙ h
    go false e = refl

-- Where the machine lives at the end, the scan reads and tallies all.
pub live_scan : (g : Grammar) (s : State) (n : ℕ) (t : Tally) (l : List ℕ) → dead (run g s l).phase ≡ false
    → scan_of g s n t l ≡ stopped (run g s l) (n + length l) (tally_run g s l t)
live_scan g s n t [] h = ap (λ m. stopped s m t) (sym (add-zero n))
live_scan g s n t (c ∷ l) h =
    let next : n + suc (length l) ≡ suc n + length l = omega arith in
    rw (lived g (step g s c) l h, next) (live_scan g (step g s c) (suc n) _ l h)

-- How many bytes a scan reads: the machine lives behind them, and the list ends there or the next byte kills it. They are
-- tallied.
pub record Stops (g : Grammar) (s : State) (n : ℕ) (t : Tally) (l : List ℕ) (r : Scan) : Type 0 where
  pub bytes : ℕ
  pub within : bytes ≤ length l
  pub counted : r.length ≡ n + bytes
  pub reached : r.phase ≡ (run g s (take bytes l)).phase
  pub summed : r.tally ≡ tally_run g s (take bytes l) t
  pub lives : dead r.phase ≡ false
  pub ends : (bytes ≡ length l) ⊎ ((run g s (take (suc bytes) l)).phase ≡ Dead)

-- A scan from a live state stops so.
pub scan_stops : (g : Grammar) (s : State) (n : ℕ) (t : Tally) (l : List ℕ) → dead s.phase ≡ false → Stops g s n t l (scan_of g s n t l)
scan_stops g s n t [] h =
    record { bytes = 0; within = omega arith; counted = sym (add-zero n); reached = refl; summed = refl; lives = h; ends = inl refl }
scan_stops g s n t (c ∷ l) h = go (dead (step g s c).phase) refl _ (scan_stops g (step g s c) (suc n) _ l)
  where
    go : (d : Bool) → dead (step g s c).phase ≡ d → (r : Scan)
        → (dead (step g s c).phase ≡ false → Stops g (step g s c) (suc n) (byte_tallied s.cr c (byte_part (part_of s.phase) (part_of (step g s c).phase)) t) l r)
        → Stops g s n t (c ∷ l) (cond d (stopped s n t) r)
    go true e r f =
        record { bytes = 0; within = omega arith; counted = sym (add-zero n); reached = refl; summed = refl; lives = h; ends = inr (dead_phase _ e) }
    go false e r f =
        let k = f e in
        record {
          bytes = suc k.bytes;
          within = omega arith;
          counted = omega arith;
          reached = k.reached;
          summed = k.summed;
          lives = k.lives;
          ends = further k.bytes k.ends;
        }
      where
        further : (m : ℕ) → (m ≡ length l) ⊎ ((run g (step g s c) (take (suc m) l)).phase ≡ Dead)
            → (suc m ≡ length (c ∷ l)) ⊎ ((run g s (take (suc (suc m)) (c ∷ l))).phase ≡ Dead)
        further m (inl q) = inl (ap suc q)
        further m (inr q) = inr q
