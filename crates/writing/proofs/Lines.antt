-- Characters and pads in lines of 64 are the lines of a strict body with line ends of one kind, and there are no others.
-- Assumes nothing.
use mathlib.Core.Path.{◌≡◌, refl, sym, ap, subst, ◌∙◌}
use mathlib.Core.Logic.{◌≢◌, inl, inr}
use mathlib.Core.Bool.{cond}
use mathlib.Core.List.{List, [], ◌∷◌, ◌++◌, append_assoc, append-nil, head-eq_of_cons-eq}
use Prim.Native.Nat.{ℕ, zero, suc, ◌+◌, ◌*◌, ◌-◌, ◌/◌, ◌≤◌}
use native.Mathlib.Omega.{arith}
use lib.Dec.{eqb, ltb}
use lib.ListN.{length, replicate, length-append, length-replicate}
use lib.Seq.{append_snoc}
use Rattle.base_64.specs.Lists.{All}
use Rattle.base_64.specs.Alphabet.{AlphabetChar, value_of, radix, pad}
use Rattle.base_64.proofs.Lists.{all_append, all_imp}
use Rattle.grammar.specs.Marks.{CR, LF, NoLF, LineEnd}
use Rattle.grammar.specs.LineEnds.{line_end}
use Rattle.grammar.specs.Grammars.{line_chars, Groups, StrictLines}
use Rattle.grammar.specs.Message.{characters, pad_count}
use Rattle.grammar.specs.Claims.{chars_then_pads}
use Rattle.grammar.specs.declared.LineEnding.{LineEnding}
use Rattle.grammar.specs.declared.LineEnding.TheVariants.{Lf, CrLf, Cr}
use Rattle.grammar.proofs.Marks.{end_no_alphabet}
use Rattle.grammar.proofs.LineEnds.{Plain, Alike, alike_skip, alike_end, no_lf_more, style_end, nothing_follows}
use Rattle.grammar.proofs.Grammars.{groups_length}
use Rattle.grammar.proofs.Counts.{characters_append, pads_append, characters_alphabet, pads_alphabet, characters_pads, pads_pads, end_counts}
use Rattle.writing.specs.Text.{in_lines, second_bytes}

-- ---- lines

-- What fits on the line stands on it.
lines_short : (s : LineEnding) (l : List ℕ) (room : ℕ) → length l ≤ room → in_lines s room l ≡ l ++ line_end s
unfolding in_lines
lines_short s [] room h = refl
lines_short s (c ∷ l) zero h = absurd (omega arith)
lines_short s (c ∷ l) (suc room) h = ap (λ (r : List ℕ). c ∷ r) (lines_short s l room (omega arith))

-- What fills the line ends there, where more follows.
lines_full : (s : LineEnding) (a : List ℕ) (room : ℕ) (c : ℕ) (l : List ℕ) → length a ≡ room
    → in_lines s room (a ++ (c ∷ l)) ≡ a ++ (line_end s ++ in_lines s line_chars (c ∷ l))
unfolding in_lines
lines_full s [] zero c l h = refl
lines_full s [] (suc room) c l h = absurd (omega arith)
lines_full s (x ∷ a) zero c l h = absurd (omega arith)
lines_full s (x ∷ a) (suc room) c l h = ap (λ (r : List ℕ). x ∷ r) (lines_full s a room c l (omega arith))

-- How many bytes line ends have.
pub second_add : (s : LineEnding) (m n : ℕ) → second_bytes s (m + n) ≡ second_bytes s m + second_bytes s n
second_add Lf m n = refl
second_add CrLf m n = refl
second_add Cr m n = refl

pub end_length : (s : LineEnding) → length (line_end s) ≡ 1 + second_bytes s 1
end_length Lf = refl
end_length CrLf = refl
end_length Cr = refl

pub end_short : (s : LineEnding) → length (line_end s) ≤ 2
end_short Lf = omega arith
end_short CrLf = omega arith
end_short Cr = omega arith

-- The line ends: one, and one more for each 64 characters past the room that is left.
abbrev pub line_count : ℕ → ℕ → ℕ
line_count room n = 1 + (n - room + 63) / 64

pub length_lines : (s : LineEnding) (l : List ℕ) (room : ℕ) → room ≤ line_chars
    → length (in_lines s room l) ≡ length l + (line_count room (length l) + second_bytes s (line_count room (length l)))
unfolding in_lines
length_lines s [] room h =
    let one : line_count room 0 ≡ 1 = omega arith in
    rw one (omega (arith, end_length s))
length_lines s (c ∷ l) zero h =
    let rest = length_lines s l 63 (omega arith) in
    let more : line_count 0 (suc (length l)) ≡ 1 + line_count 63 (length l) = omega arith in
    rw (more, second_add s 1 (line_count 63 (length l)), length-append) (omega (arith, rest, end_length s))
length_lines s (c ∷ l) (suc room) h =
    let rest = length_lines s l room (omega arith) in
    let same : line_count (suc room) (suc (length l)) ≡ line_count room (length l) = omega arith in
    rw same (omega (arith, rest))

-- Line ends are no characters and no pads.
characters_end : (s : LineEnding) (x : List ℕ) → characters (line_end s ++ x) ≡ characters x
characters_end s x = characters_append (line_end s) x ∙ ap (λ (r : List ℕ). r ++ characters x) (end_counts (style_end s nothing_follows)).0

pads_end : (s : LineEnding) (x : List ℕ) → pad_count (line_end s ++ x) ≡ pad_count x
pads_end s x = pads_append (line_end s) x ∙ rw (end_counts (style_end s nothing_follows)).1 (omega arith)

pub characters_lines : (s : LineEnding) (l : List ℕ) (room : ℕ) → characters (in_lines s room l) ≡ characters l
unfolding characters in_lines
characters_lines s [] room = (end_counts (style_end s nothing_follows)).0
characters_lines s (c ∷ l) zero =
    characters_end s (c ∷ in_lines s 63 l) ∙ ap (λ (r : List ℕ). cond (ltb (value_of c) radix) (c ∷ r) r) (characters_lines s l 63)
characters_lines s (c ∷ l) (suc room) = ap (λ (r : List ℕ). cond (ltb (value_of c) radix) (c ∷ r) r) (characters_lines s l room)

pub pads_lines : (s : LineEnding) (l : List ℕ) (room : ℕ) → pad_count (in_lines s room l) ≡ pad_count l
unfolding pad_count in_lines
pads_lines s [] room = (end_counts (style_end s nothing_follows)).1
pads_lines s (c ∷ l) zero = pads_end s (c ∷ in_lines s 63 l) ∙ ap (λ (n : ℕ). cond (eqb c pad) (suc n) n) (pads_lines s l 63)
pads_lines s (c ∷ l) (suc room) = ap (λ (n : ℕ). cond (eqb c pad) (suc n) n) (pads_lines s l room)

-- ---- characters and pads in lines are strict lines

-- Characters and pads that make up n groups.
groups_of : (a : List ℕ) (p n : ℕ) → All AlphabetChar a → p ≤ 2 → length a + p ≡ 4 * n → 1 ≤ n → Groups n (a ++ replicate p pad)
groups_of [] p n h l e k = absurd (omega arith)
groups_of (x ∷ []) p n h l e k = absurd (omega arith)
groups_of (x ∷ y ∷ []) p n h l e k =
    let two : p ≡ 2 = omega arith in
    let one : n ≡ 1 = omega arith in
    rw (two, one) (Groups.two h.0 h.1.0)
groups_of (x ∷ y ∷ z ∷ []) p n h l e k =
    let pads : p ≡ 1 = omega arith in
    let one : n ≡ 1 = omega arith in
    rw (pads, one) (Groups.three h.0 h.1.0 h.1.1.0)
groups_of (x ∷ y ∷ z ∷ w ∷ []) p n h l e k =
    let none : p ≡ 0 = omega arith in
    let one : n ≡ 1 = omega arith in
    rw (none, one) (Groups.four h.0 h.1.0 h.1.1.0 h.1.1.1.0)
groups_of (x ∷ y ∷ z ∷ w ∷ v ∷ r) p zero h l e k = absurd (omega arith)
groups_of (x ∷ y ∷ z ∷ w ∷ v ∷ r) p (suc n) h l e k =
    Groups.more h.0 h.1.0 h.1.1.0 h.1.1.1.0 (groups_of (v ∷ r) p n h.1.1.1.1 l (omega arith) (omega arith))

-- An alphabet character is of no line end.
pub char_plain : (c : ℕ) → AlphabetChar c → Plain c
char_plain c h = ((λ e. end_no_alphabet (inl e) h), (λ e. end_no_alphabet (inr e) h))

-- What starts with a byte of no line end does not start with LF.
pub plain_no_lf : (c : ℕ) (l : List ℕ) → Plain c → NoLF (c ∷ l)
plain_no_lf c l h r q = h.1 (head-eq_of_cons-eq q)

-- Behind the characters a of a line: those still to come, and the pads.
pub lines_strict : (s : LineEnding) (b : List ℕ) (p room n : ℕ) (a : List ℕ) → All AlphabetChar a → All AlphabetChar b → p ≤ 2 → length a + room ≡ line_chars
    → length a + (length b + p) ≡ 4 * n → 1 ≤ length a + length b → StrictLines (a ++ in_lines s room (b ++ replicate p pad))
unfolding in_lines
lines_strict s [] p room n a ha hb l e f k =
    rw (lines_short s (replicate p pad) room (rw length-replicate (omega arith)), ← append_assoc a (replicate p pad) (line_end s))
    (StrictLines.final n (a ++ replicate p pad) (line_end s) (groups_of a p n ha l (omega arith) (omega arith)) (omega arith) (style_end s nothing_follows))
lines_strict s (c ∷ b) p zero n a ha hb l e f k =
    StrictLines.line a (line_end s) (c ∷ in_lines s 63 (b ++ replicate p pad)) ha (omega arith) (style_end s (plain_no_lf c _ (char_plain c hb.0)))
    (lines_strict s b p 63 (n - 16) (c ∷ []) (hb.0, tt) hb.1 l (omega arith) (omega arith) (omega arith))
lines_strict s (c ∷ b) p (suc room) n a ha hb l e f k =
    subst StrictLines (append_snoc a c (in_lines s room (b ++ replicate p pad)))
    (lines_strict s b p room n (a ++ (c ∷ [])) (all_append AlphabetChar a (c ∷ []) ha (hb.0, tt)) hb.1 l
    (rw length-append (omega arith)) (rw length-append (omega arith)) (rw length-append (omega arith)))

-- ---- and there are no others

-- Characters in front stay in front, and line ends in front or behind are left out.
chars_front : (a x : List ℕ) → All AlphabetChar a → chars_then_pads (a ++ x) ≡ a ++ chars_then_pads x
chars_front a x h =
    let pads : pad_count (a ++ x) ≡ pad_count x = pads_append a x ∙ rw (pads_alphabet a h) (omega arith) in
    rw (characters_append a x, characters_alphabet a h, pads) (append_assoc a (characters x) (replicate (pad_count x) pad))

pub end_front : {e rest : List ℕ} (x : List ℕ) → LineEnd e rest → chars_then_pads (e ++ x) ≡ chars_then_pads x
end_front {e} x h =
    let pads : pad_count (e ++ x) ≡ pad_count x = pads_append e x ∙ rw (end_counts h).1 (omega arith) in
    rw (characters_append e x, (end_counts h).0, pads)

end_back : {e rest : List ℕ} (x : List ℕ) → LineEnd e rest → chars_then_pads (x ++ e) ≡ chars_then_pads x
end_back {e} x h =
    let pads : pad_count (x ++ e) ≡ pad_count x = pads_append x e ∙ rw (end_counts h).1 (omega arith) in
    rw (characters_append x e, (end_counts h).0, pads, append-nil)

-- Groups are characters and then pads.
pads_flat : (p : ℕ) → chars_then_pads (replicate p pad) ≡ replicate p pad
pads_flat p = rw (characters_pads p, pads_pads p)

padded_flat : (a : List ℕ) (p : ℕ) → All AlphabetChar a → chars_then_pads (a ++ replicate p pad) ≡ a ++ replicate p pad
padded_flat a p h = chars_front a (replicate p pad) h ∙ ap (λ (r : List ℕ). a ++ r) (pads_flat p)

groups_flat : {n : ℕ} {g : List ℕ} → Groups n g → (chars_then_pads g ≡ g) × (2 ≤ length (characters g))
groups_flat (Groups.four {a} {b} {c} {d} ha hb hc hd) =
    let h : All AlphabetChar (a ∷ b ∷ c ∷ d ∷ []) = (ha, (hb, (hc, (hd, tt)))) in
    (padded_flat (a ∷ b ∷ c ∷ d ∷ []) 0 h, rw (characters_alphabet (a ∷ b ∷ c ∷ d ∷ []) h) (omega arith))
groups_flat (Groups.three {a} {b} {c} ha hb hc) =
    let h : All AlphabetChar (a ∷ b ∷ c ∷ []) = (ha, (hb, (hc, tt))) in
    (padded_flat (a ∷ b ∷ c ∷ []) 1 h, rw (characters_append (a ∷ b ∷ c ∷ []) (pad ∷ []), characters_alphabet (a ∷ b ∷ c ∷ []) h) (omega arith))
groups_flat (Groups.two {a} {b} ha hb) =
    let h : All AlphabetChar (a ∷ b ∷ []) = (ha, (hb, tt)) in
    (padded_flat (a ∷ b ∷ []) 2 h, rw (characters_append (a ∷ b ∷ []) (pad ∷ pad ∷ []), characters_alphabet (a ∷ b ∷ []) h) (omega arith))
groups_flat (Groups.more {a} {b} {c} {d} {rest = rest} ha hb hc hd g) =
    let h : All AlphabetChar (a ∷ b ∷ c ∷ d ∷ []) = (ha, (hb, (hc, (hd, tt)))) in (
      chars_front (a ∷ b ∷ c ∷ d ∷ []) rest h ∙ ap (λ (r : List ℕ). a ∷ b ∷ c ∷ d ∷ r) (groups_flat g).0,
      rw (characters_append (a ∷ b ∷ c ∷ d ∷ []) rest, characters_alphabet (a ∷ b ∷ c ∷ d ∷ []) h) (omega arith),
    )

-- Groups have no line ends.
pub pad_plain : Plain pad
pad_plain = ((λ (e : pad ≡ CR). omega arith), (λ (e : pad ≡ LF). omega arith))

groups_count : {n : ℕ} {g : List ℕ} → Groups n g → 1 ≤ n
groups_count (Groups.four ha hb hc hd) = omega arith
groups_count (Groups.three ha hb hc) = omega arith
groups_count (Groups.two ha hb) = omega arith
groups_count (Groups.more ha hb hc hd g) = omega arith

groups_plain : {n : ℕ} {g : List ℕ} → Groups n g → All Plain g
groups_plain (Groups.four ha hb hc hd) = (char_plain _ ha, (char_plain _ hb, (char_plain _ hc, (char_plain _ hd, tt))))
groups_plain (Groups.three ha hb hc) = (char_plain _ ha, (char_plain _ hb, (char_plain _ hc, (pad_plain, tt))))
groups_plain (Groups.two ha hb) = (char_plain _ ha, (char_plain _ hb, (pad_plain, (pad_plain, tt))))
groups_plain (Groups.more ha hb hc hd g) = (char_plain _ ha, (char_plain _ hb, (char_plain _ hc, (char_plain _ hd, groups_plain g))))

-- Strict lines have two characters at least.
pub lines_some : {l : List ℕ} → StrictLines l → 2 ≤ length (characters l)
lines_some (StrictLines.final n g e hg hn he) = rw (characters_append g e, length-append) (omega (arith, (groups_flat hg).1))
lines_some (StrictLines.line a e rest ha full he l) =
    rw (characters_append a (e ++ rest), characters_alphabet a ha, length-append) (omega arith)

-- What fills a line ends there, where more follows: here by its length.
full_then : (s : LineEnding) (a l : List ℕ) → length a ≡ line_chars → 1 ≤ length l → in_lines s line_chars (a ++ l) ≡ a ++ (line_end s ++ in_lines s line_chars l)
full_then s a [] h k = absurd (omega arith)
full_then s a (c ∷ l) h k = lines_full s a line_chars c l h

-- There is something on strict lines.
pub lines_any : {l : List ℕ} → StrictLines l → l ≢ []
unfolding characters
lines_any {l} h e =
    let z : 2 ≤ length (characters []) = subst (λ (x : List ℕ). 2 ≤ length (characters x)) e (lines_some h) in
    omega (arith, z)

-- Before x, which does not start with LF.
pub strict_lines_written : (s : LineEnding) {l : List ℕ} → StrictLines l → (x : List ℕ) → NoLF x → Alike s (l ++ x)
    → (in_lines s line_chars (chars_then_pads l) ≡ l) × Alike s x
strict_lines_written s (StrictLines.final n g e hg hn he) x nx h =
    let short : length g ≤ line_chars = omega (arith, groups_length hg) in
    let behind : Alike s (e ++ x) = alike_skip s g (e ++ x) (groups_plain hg) (rw (append_assoc g e x) at h) in
    let end = alike_end s he x (λ n. nx) behind in (
      ap (in_lines s line_chars) (end_back g he ∙ (groups_flat hg).0) ∙ lines_short s g line_chars short ∙ ap (λ (y : List ℕ). g ++ y) (sym end.0),
      end.1,
    )
strict_lines_written s (StrictLines.line a e rest ha full he l) x nx h =
    let some : 1 ≤ length (chars_then_pads rest) = rw length-append (omega (arith, lines_some l)) in
    let behind : Alike s (e ++ (rest ++ x)) = alike_skip s a (e ++ (rest ++ x)) (all_imp AlphabetChar Plain char_plain a ha) (rw (append_assoc a (e ++ rest) x, append_assoc e rest x) at h) in
    let end = alike_end s he (rest ++ x) (no_lf_more rest x (lines_any l)) behind in
    let lines = strict_lines_written s l x nx end.1 in (
      ap (in_lines s line_chars) (chars_front a (e ++ rest) ha ∙ ap (λ (y : List ℕ). a ++ y) (end_front rest he))
          ∙ full_then s a (chars_then_pads rest) full some
          ∙ (λ i. a ++ (sym end.0 i ++ lines.0 i)),
      lines.1,
    )

-- Strict lines do not start with LF.
front_no_lf : (a x : List ℕ) → a ≢ [] → All Plain a → NoLF (a ++ x)
front_no_lf [] x some h = absurd (some refl)
front_no_lf (c ∷ a) x some h = plain_no_lf c (a ++ x) h.0

pub lines_no_lf : {l : List ℕ} → StrictLines l → NoLF l
lines_no_lf (StrictLines.final n g e hg hn he) = front_no_lf g e (λ z. omega (arith, groups_length hg, groups_count hg, ap length z)) (groups_plain hg)
lines_no_lf (StrictLines.line a e rest ha full he l) = front_no_lf a (e ++ rest) (λ z. omega (arith, full, ap length z)) (all_imp AlphabetChar Plain char_plain a ha)
