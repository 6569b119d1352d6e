-- The lines of data as they are written, a group of four characters at a time. Assumes nothing.
use mathlib.Core.Path.{◌≡◌, refl, sym, ap, ◌∙◌}
use mathlib.Core.Logic.{◌⊎◌, inl, inr}
use mathlib.Core.Bool.{Bool, true, false, cond}
use mathlib.Core.List.{List, [], ◌∷◌, ◌++◌, map, append_assoc, append-nil, map-append}
use Prim.Native.Nat.{ℕ, zero, suc, min, ◌+◌, ◌-◌, ◌%◌, ◌≤◌, ◌<◌}
use native.Mathlib.Omega.{arith}
use lib.Dec.{eqb}
use lib.ListN.{length, take, replicate, length-append}
use borrow.Author.Tests.{eqb-true, eqb-false}
use Rattle.base_64.specs.Alphabet.{char_of, pad}
use Rattle.base_64.specs.Groups.{value1, value2, value3, value4, to_values, pads_for, encode}
use Rattle.base_64.proofs.Groups.{length_encode}
use Rattle.grammar.specs.Marks.{begin, end, hyphens}
use Rattle.grammar.specs.Grammars.{line_chars}
use Rattle.grammar.specs.LineEnds.{line_end}
use Rattle.grammar.specs.declared.LineEnding.{LineEnding}
use Rattle.writing.specs.Text.{in_lines, written_text}
use Rattle.writing.proofs.Placed.{placed, Put, put_none, put_size, put_more, put_cleared}

-- A group's characters.
abbrev pub group_chars : ℕ
group_chars = 4

-- A line that has room for whole groups.
abbrev pub WholeGroups : ℕ → Type 0
WholeGroups room = (room % group_chars ≡ 0) × (room ≤ line_chars)

-- Before a further character: a full line ends, and another begins.
abbrev pub line_break : LineEnding → ℕ → List ℕ
line_break s room = cond (eqb room 0) (line_end s) []

abbrev pub room_then : ℕ → ℕ
room_then room = cond (eqb room 0) line_chars room

-- A group, on a new line where the line is full.
abbrev pub group_text : LineEnding → ℕ → List ℕ → List ℕ
group_text s room group = line_break s room ++ group

-- There is room for a group then.
pub group_fits : (room : ℕ) → WholeGroups room → group_chars ≤ room_then room
group_fits room h = go (eqb room 0) refl
  where
    go : (b : Bool) → eqb room 0 ≡ b → group_chars ≤ cond b line_chars room
    go true e = omega arith
    go false e = omega (arith, eqb-false room 0 e)

-- A boundary with its line end.
abbrev pub boundary_line : LineEnding → List ℕ → List ℕ → List ℕ
boundary_line s word label = word ++ (label ++ (hyphens ++ line_end s))

-- The text is the opening's line, the lines of the data and the closing's line.
pub text_lines : (s : LineEnding) (label content : List ℕ)
    → written_text s label content ≡ boundary_line s begin label ++ (in_lines s line_chars (encode content) ++ boundary_line s end label)
text_lines s label content = simp append_assoc

-- ---- bytes by groups, and their characters in lines

-- Whole groups, and other bytes behind them.
pub whole_values : (g r : List ℕ) → length g % 3 ≡ 0 → to_values (g ++ r) ≡ to_values g ++ to_values r
whole_values [] r h = refl
whole_values (x ∷ []) r h = absurd (omega arith)
whole_values (x ∷ y ∷ []) r h = absurd (omega arith)
whole_values (x ∷ y ∷ z ∷ g) r h = ap (λ (v : List ℕ). value1 x ∷ value2 x y ∷ value3 y z ∷ value4 z ∷ v) (whole_values g r (omega arith))

whole_pads : (g r : List ℕ) → length g % 3 ≡ 0 → pads_for (g ++ r) ≡ pads_for r
whole_pads [] r h = refl
whole_pads (x ∷ []) r h = absurd (omega arith)
whole_pads (x ∷ y ∷ []) r h = absurd (omega arith)
whole_pads (x ∷ y ∷ z ∷ g) r h = whole_pads g r (omega arith)

-- They have no pads.
pub whole_encode : (g : List ℕ) → length g % 3 ≡ 0 → encode g ≡ map char_of (to_values g)
whole_encode g h =
    let none : pads_for g ≡ 0 = ap pads_for (sym (append-nil g)) ∙ whole_pads g [] h in
    rw (none, append-nil)

encode_whole : (g r : List ℕ) → length g % 3 ≡ 0 → encode (g ++ r) ≡ encode g ++ encode r
encode_whole g r h =
    (λ i. map char_of (whole_values g r h i) ++ replicate (whole_pads g r h i) pad)
    ∙ ap (λ (l : List ℕ). l ++ replicate (pads_for r) pad) (map-append char_of (to_values g) (to_values r))
    ∙ append_assoc (map char_of (to_values g)) (map char_of (to_values r)) (replicate (pads_for r) pad)
    ∙ ap (λ (l : List ℕ). l ++ encode r) (sym (whole_encode g h))

-- The first group of bytes, three of them or all that there are, and those behind it.
pub encode_group : (d g r : List ℕ) → d ≡ g ++ r → length g ≡ min 3 (length d) → encode d ≡ encode g ++ encode r
encode_group d g [] e size = rw (e, append-nil, append-nil)
encode_group d g (x ∷ r) e size =
    let whole : length g % 3 ≡ 0 = omega (arith, ap length e ∙ length-append g (x ∷ r)) in
    ap encode e ∙ encode_whole g (x ∷ r) whole

-- What fits on the line stands on it.
lines_cut : (s : LineEnding) (room : ℕ) (g l : List ℕ) → length g ≤ room → in_lines s room (g ++ l) ≡ g ++ in_lines s (room - length g) l
unfolding in_lines
lines_cut s room [] l h =
    let all : room ≡ room - 0 = omega arith in
    ap (λ (n : ℕ). in_lines s n l) all
lines_cut s zero (c ∷ g) l h = absurd (omega arith)
lines_cut s (suc room) (c ∷ g) l h =
    let less : suc room - suc (length g) ≡ room - length g = omega arith in
    rw less (ap (λ (r : List ℕ). c ∷ r) (lines_cut s room g l (omega arith)))

-- A full line ends where more follows.
full_line : (s : LineEnding) (l : List ℕ) → 0 < length l → in_lines s 0 l ≡ line_end s ++ in_lines s line_chars l
unfolding in_lines
full_line s [] h = absurd (omega arith)
full_line s (c ∷ l) h = refl

pub broken_line : (s : LineEnding) (room : ℕ) (l : List ℕ) → 0 < length l → in_lines s room l ≡ line_break s room ++ in_lines s (room_then room) l
broken_line s room l h = go (eqb room 0) refl
  where
    go : (b : Bool) → eqb room 0 ≡ b → in_lines s room l ≡ cond b (line_end s) [] ++ in_lines s (cond b line_chars room) l
    go true e =
        let full : room ≡ 0 = eqb-true room 0 e in
        ap (λ (n : ℕ). in_lines s n l) full ∙ full_line s l h
    go false e = refl

group_lines : (s : LineEnding) (room : ℕ) (g l : List ℕ) → WholeGroups room → length g ≡ group_chars
    → in_lines s room (g ++ l) ≡ group_text s room g ++ in_lines s (room_then room - group_chars) l
group_lines s room g l h size =
    broken_line s room (g ++ l) (omega (arith, length-append g l))
    ∙ ap (λ (r : List ℕ). line_break s room ++ r) (lines_cut s (room_then room) g l (omega (arith, group_fits room h)))
    ∙ ap (λ (n : ℕ). line_break s room ++ (g ++ in_lines s (room_then room - n) l)) size
    ∙ sym (append_assoc (line_break s room) g (in_lines s (room_then room - group_chars) l))

room_line : (room : ℕ) → (room ≡ 0) ⊎ (room ≡ line_chars) → room_then room ≡ line_chars
room_line room (inl e) = rw e
room_line room (inr e) = rw e

room_begun : (room : ℕ) → WholeGroups room → WholeGroups (room_then room)
room_begun room h = go (eqb room 0)
  where
    go : (b : Bool) → WholeGroups (cond b line_chars room)
    go true = omega arith
    go false = h

room_whole : (room : ℕ) → WholeGroups room → WholeGroups (room_then room - group_chars)
room_whole room h = go (eqb room 0) refl
  where
    go : (b : Bool) → eqb room 0 ≡ b → WholeGroups (cond b line_chars room - group_chars)
    go true e = omega arith
    go false e = omega (arith, eqb-false room 0 e)

-- ---- the output on its way to the lines of data

-- Some of the lines of data stand in the output from `from` on, up to `at`, where the line has room for `room` characters; the
-- others are to come, from the bytes that are left.
pub record Lined (s : LineEnding) (content old : List ℕ) (from : ℕ) (out : List ℕ) (at room : ℕ) (left : List ℕ) : Type 0 where
  pub done : List ℕ
  pub others : in_lines s line_chars (encode content) ≡ done ++ in_lines s room (encode left)
  pub written : Put old from done out at
  pub whole : WholeGroups room

pub lined_none : (s : LineEnding) (content old : List ℕ) (from : ℕ) → Lined s content old from old from line_chars content
lined_none s content old from = record { done = []; others = refl; written = put_none old from; whole = omega arith }

module _ {s : LineEnding} {content old : List ℕ} {from : ℕ} {out : List ℕ} {at room : ℕ} {left : List ℕ} (w : Lined s content old from out at room left)
    (fits : from + length (in_lines s line_chars (encode content)) ≤ length old) where
  -- What is still to come has room.
  pub lined_room : at + length (in_lines s room (encode left)) ≤ length old
  lined_room = omega (arith, w.written.ends, ap length w.others ∙ length-append w.done (in_lines s room (encode left)))

  pub lined_same : length out ≡ length old
  lined_same = put_size w.written (omega (arith, fits, ap length w.others ∙ length-append w.done (in_lines s room (encode left))))

  -- What is put next is a first part of what is still to come.
  pub lined_more : (a : List ℕ) {room' : ℕ} (left' : List ℕ) → in_lines s room (encode left) ≡ a ++ in_lines s room' (encode left') → WholeGroups room'
      → {new : List ℕ} {end : ℕ} → Put out at a new end → Lined s content old from new end room' left'
  lined_more a {room'} left' parts whole put =
      let others : in_lines s line_chars (encode content) ≡ (w.done ++ a) ++ in_lines s room' (encode left') =
      w.others ∙ ap (λ (l : List ℕ). w.done ++ l) parts ∙ sym (append_assoc w.done a (in_lines s room' (encode left'))) in
      record {
        done = w.done ++ a;
        others = others;
        written = put_more w.done a w.written put (omega (arith, fits, ap length others ∙ length-append (w.done ++ a) (in_lines s room' (encode left'))));
        whole = whole;
      }

  -- A group of the bytes to come: it has room, and behind it are the others.
  module _ (g r : List ℕ) (parts : left ≡ g ++ r) (some : 0 < length left) (size : length g ≡ min 3 (length left)) where
    group_parts : in_lines s room (encode left) ≡ group_text s room (encode g) ++ in_lines s (room_then room - group_chars) (encode r)
    group_parts =
        ap (in_lines s room) (encode_group left g r parts size)
        ∙ group_lines s room (encode g) (encode r) w.whole (omega (arith, length_encode g))

    pub group_room : at + length (group_text s room (encode g)) ≤ length old
    group_room = omega (arith, lined_room, ap length group_parts ∙ length-append (group_text s room (encode g)) (in_lines s (room_then room - group_chars) (encode r)))

    pub lined_group : {new : List ℕ} {end : ℕ} → Put out at (group_text s room (encode g)) new end
        → Lined s content old from new end (room_then room - group_chars) r
    lined_group put = lined_more (group_text s room (encode g)) r group_parts (omega (arith, room_whole room w.whole)) put

  -- A full line of the bytes to come, from a line's begin on: its characters have room, and behind them are the others.
  module _ (g r : List ℕ) (parts : left ≡ g ++ r) (size : length g ≡ 48) (begun : room ≡ line_chars) where
    line_parts : in_lines s room (encode left) ≡ encode g ++ in_lines s 0 (encode r)
    line_parts =
        let chars : length (encode g) ≡ 64 = omega (arith, length_encode g) in
        let none : line_chars - length (encode g) ≡ 0 = omega arith in
        (λ j. in_lines s (begun j) (encode (parts j)))
        ∙ ap (in_lines s line_chars) (encode_whole g r (omega arith))
        ∙ lines_cut s line_chars (encode g) (encode r) (omega arith)
        ∙ ap (λ (n : ℕ). encode g ++ in_lines s n (encode r)) none

    line_room : at + line_chars ≤ length old
    line_room = omega (arith, lined_room, ap length line_parts ∙ length-append (encode g) (in_lines s 0 (encode r)), length_encode g)

    lined_line : {new : List ℕ} {end : ℕ} → Put out at (encode g) new end → Lined s content old from new end 0 r
    lined_line put = lined_more (encode g) r line_parts (omega arith) put

  -- Where bytes are to come, a full line ends, and another begins.
  module _ (some : 0 < length left) where
    break_parts : in_lines s room (encode left) ≡ line_break s room ++ in_lines s (room_then room) (encode left)
    break_parts = broken_line s room (encode left) (omega (arith, length_encode left))

    break_room : at + length (line_break s room) ≤ length old
    break_room = omega (arith, lined_room, ap length break_parts ∙ length-append (line_break s room) (in_lines s (room_then room) (encode left)))

    lined_break : {new : List ℕ} {end : ℕ} → Put out at (line_break s room) new end → Lined s content old from new end (room_then room) left
    lined_break put = lined_more (line_break s room) left break_parts (room_begun room w.whole) put

  -- All that is to come is written too.
  pub lined_all : {new : List ℕ} {end : ℕ} → Put out at (in_lines s room (encode left)) new end → Put old from (in_lines s line_chars (encode content)) new end
  lined_all put = rw w.others (put_more w.done (in_lines s room (encode left)) w.written put (rw w.others at fits))

-- ---- the last line

-- It ends behind a last group, or at once where no bytes are left.
pub last_none : (s : LineEnding) (room : ℕ) (left : List ℕ) → left ≡ [] → in_lines s room (encode left) ≡ line_end s
unfolding in_lines
last_none s room left none = ap (λ (l : List ℕ). in_lines s room (encode l)) none

pub last_group : (s : LineEnding) (room : ℕ) (left : List ℕ) → WholeGroups room → 0 < length left → length left ≤ 3
    → in_lines s room (encode left) ≡ group_text s room (encode left) ++ line_end s
last_group s room left h some few =
    ap (in_lines s room) (sym (append-nil (encode left)))
    ∙ group_lines s room (encode left) [] h (omega (arith, length_encode left))
    ∙ ap (λ (l : List ℕ). group_text s room (encode left) ++ l) (last_none s (room_then room - group_chars) [] refl)

-- ---- a full line of the data

-- The first line of those whose bytes are to come, before bytes behind them all: its begin and its characters have room, and then it is
-- written.
module _ {s : LineEnding} {content old : List ℕ} {from : ℕ} {out : List ℕ} {at room : ℕ} (rest line others behind : List ℕ)
    (w : Lined s content old from out at room (rest ++ behind)) (fits : from + length (in_lines s line_chars (encode content)) ≤ length old)
    (same : length out ≡ length old) (parts : rest ≡ line ++ others) (size : length line ≡ 48) (begun : (room ≡ 0) ⊎ (room ≡ line_chars)) where
  all_parts : rest ++ behind ≡ line ++ (others ++ behind)
  all_parts = ap (λ (l : List ℕ). l ++ behind) parts ∙ append_assoc line others behind

  some_left : 0 < length (rest ++ behind)
  some_left = omega (arith, ap length all_parts ∙ length-append line (others ++ behind))

  pub begin_room : at + length (line_break s room) ≤ length old
  begin_room = break_room w fits some_left

  module _ {mid : List ℕ} {next : ℕ} (put : Put out at (line_break s room) mid next) where
    mid_same : length mid ≡ length old
    mid_same = put_size put (omega (arith, begin_room)) ∙ same

    pub chars_room : next + line_chars ≤ length mid
    chars_room = omega (arith, mid_same, line_room (lined_break w fits some_left put) fits line (others ++ behind) all_parts size (room_line room begun))

    chars_put : {new : List ℕ} → new ≡ placed mid next (encode line) → Put mid next (encode line) new (next + line_chars)
    chars_put e = record { output = e; ends = omega (arith, length_encode line) }

    pub line_lined : {new : List ℕ} → new ≡ placed mid next (encode line) → Lined s content old from new (next + line_chars) 0 (others ++ behind)
    line_lined e = lined_line (lined_break w fits some_left put) fits line (others ++ behind) all_parts size (room_line room begun) (chars_put e)

-- ---- the whole text

pub text_length : (s : LineEnding) (label content : List ℕ)
    → length (written_text s label content)
    ≡ length (boundary_line s begin label) + (length (in_lines s line_chars (encode content)) + length (boundary_line s end label))
text_length s label content =
    ap length (text_lines s label content)
    ∙ length-append (boundary_line s begin label) (in_lines s line_chars (encode content) ++ boundary_line s end label)
    ∙ ap (λ (n : ℕ). length (boundary_line s begin label) + n) (length-append (in_lines s line_chars (encode content)) (boundary_line s end label))

-- The text from the start on, and zeros behind it.
pub text_put : (s : LineEnding) (label content : List ℕ) {o0 o1 o2 o3 o4 : List ℕ} {e1 e2 e3 : ℕ} → length (written_text s label content) ≤ length o0
    → Put o0 0 (boundary_line s begin label) o1 e1 → Put o1 e1 (in_lines s line_chars (encode content)) o2 e2 → Put o2 e2 (boundary_line s end label) o3 e3
    → o4 ≡ take e3 o3 ++ replicate (length o3 - e3) 0
    → o4 ≡ written_text s label content ++ replicate (length o0 - length (written_text s label content)) 0
text_put s label content {o0} {o1} {o2} {o3} {o4} {e1} {e2} {e3} fits p1 p2 p3 cleared =
    let lines : List ℕ = in_lines s line_chars (encode content) in
    let whole = text_length s label content in
    let same = text_lines s label content in
    let l1 = put_size p1 (omega arith) in
    let behind : Put o1 e1 (lines ++ boundary_line s end label) o3 e3 =
    put_more lines (boundary_line s end label) p2 p3 (omega (arith, p1.ends, length-append lines (boundary_line s end label))) in
    let all : Put o0 0 (boundary_line s begin label ++ (lines ++ boundary_line s end label)) o3 e3 =
    put_more (boundary_line s begin label) (lines ++ boundary_line s end label) p1 behind (omega (arith, ap length same)) in
    put_cleared (written_text s label content) (rw (← same) at all) (put_size all (omega (arith, ap length same))) cleared
