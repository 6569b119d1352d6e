-- What is put step by step is put. Assumes nothing.
use mathlib.Core.Path.{◌≡◌, refl, sym, ap, ◌∙◌}
use mathlib.Core.Logic.{◌⊎◌}
use mathlib.Core.List.{List, [], ◌∷◌, ◌++◌}
use Prim.Native.Nat.{ℕ, min, ◌+◌, ◌-◌, ◌≤◌, ◌<◌}
use native.Mathlib.Omega.{arith}
use lib.ListN.{length, get_or, take, drop, length-append, length-take, length-drop}
use borrow.Rule.Slice.PartMut.{put_mid}
use Rattle.std.proofs.lemmas.List.{take_more}
use Rattle.base_64.specs.Groups.{encode}
use Rattle.base_64.proofs.Groups.{length_encode}
use Rattle.grammar.specs.Grammars.{line_chars}
use Rattle.writing.specs.Text.{in_lines, written_lines}
use Rattle.writing.proofs.Placed.{Put, placed, placed_part, put_none, put_more, put_size}
use Rattle.writing.proofs.Progress.{group_chars, line_break, room_then, group_text, lined_none, lined_same, lined_room, group_room, lined_group, lined_all, begin_room, chars_room, line_lined}
use Rattle.writer.specs.Steps.{HasRoom, Puts, PutsLines}
use Rattle.writer.specs.declared.text.TextWriter.{TextWriter}

pub puts_same : {old new : TextWriter} {a b : List ℕ} → a ≡ b → Puts old a new → Puts old b new
puts_same e p = record { lent = p.lent; ending = p.ending; put = rw e at p.put }

pub room_front : (w : TextWriter) (a b : List ℕ) → HasRoom w (a ++ b) → HasRoom w a
room_front w a b h = omega (arith, length-append a b)

-- Bytes, and others behind them: these have room then, and both are put.
module _ {old mid : TextWriter} {a : List ℕ} (p : Puts old a mid) (b : List ℕ) (h : HasRoom old (a ++ b)) where
  pub room_behind : HasRoom mid b
  room_behind = omega (arith, length-append a b, p.put.ends, put_size p.put (omega (arith, length-append a b)))

  pub puts_then : {new : TextWriter} → Puts mid b new → Puts old (a ++ b) new
  puts_then q = record { lent = q.lent ∙ p.lent; ending = q.ending ∙ p.ending; put = put_more a b p.put q.put h }

-- The first bytes of some, and the next one.
pub puts_none : (w : TextWriter) → Puts w [] w
puts_none w = record { lent = refl; ending = refl; put = put_none w.out.now w.at }

module _ {old now : TextWriter} (bytes : List ℕ) (i : ℕ) (p : Puts old (take i bytes) now) (fits : HasRoom old bytes) (h : i < length bytes) where
  pub byte_room : HasRoom now (get_or bytes i 0 ∷ [])
  byte_room = omega (arith, p.put.ends, length-take i bytes, put_size p.put (omega (arith, length-take i bytes)))

  pub byte_puts : {new : TextWriter} → Puts now (get_or bytes i 0 ∷ []) new → Puts old (take (i + 1) bytes) new
  byte_puts q = puts_same (sym (take_more bytes i 0 h)) (puts_then p (get_or bytes i 0 ∷ []) (omega (arith, length-append (take i bytes) (get_or bytes i 0 ∷ []), length-take i bytes)) q)

pub lines_none : (w : TextWriter) (content : List ℕ) → w.room ≡ line_chars → PutsLines w content content w
lines_none w content e = record { lent = refl; ending = refl; lined = rw e (lined_none w.ending content w.out.now w.at) }

module _ {old now : TextWriter} {content left : List ℕ} (w : PutsLines old content left now) (fits : HasRoom old (written_lines old.ending content)) where
  same : length now.out.now ≡ length old.out.now
  same = lined_same w.lined fits

  -- The lines that are left.
  pub left_room : HasRoom now (in_lines now.ending now.room (encode left))
  left_room = rw w.ending (omega (arith, same, lined_room w.lined fits))

  pub lines_all : {new : TextWriter} → Puts now (in_lines now.ending now.room (encode left)) new → Puts old (written_lines old.ending content) new
  lines_all q = record { lent = q.lent ∙ w.lent; ending = q.ending ∙ w.ending; put = lined_all w.lined fits (rw w.ending at q.put) }

  -- The first group of those that are left.
  module _ (g r group : List ℕ) (parts : left ≡ g ++ r) (some : 0 < length left) (size : length g ≡ min 3 (length left)) (is_group : group ≡ encode g) where
    pub next_room : HasRoom now (group_text now.ending now.room group)
    next_room = rw (w.ending, is_group) (omega (arith, same, group_room w.lined fits g r parts some size))

    pub next_lines : {new : TextWriter} → Puts now (group_text now.ending now.room group) new → new.room ≡ room_then now.room - group_chars → PutsLines old content r new
    next_lines q room = record { lent = q.lent ∙ w.lent; ending = q.ending ∙ w.ending; lined = rw room (lined_group w.lined fits g r parts some size (rw (w.ending, is_group) at q.put)) }

-- A full line of those that are left, before bytes behind them all: its begin and its characters have room, and then it is put.
module _ {old now : TextWriter} {content : List ℕ} (rest line others behind : List ℕ) (w : PutsLines old content (rest ++ behind) now)
    (fits : HasRoom old (written_lines old.ending content)) (parts : rest ≡ line ++ others) (size : length line ≡ 48) (begun : (now.room ≡ 0) ⊎ (now.room ≡ line_chars)) where
  pub begin_fits : HasRoom now (line_break now.ending now.room)
  begin_fits = rw w.ending (omega (arith, same w fits, begin_room rest line others behind w.lined fits (same w fits) parts size begun))

  module _ {mid : TextWriter} (q : Puts now (line_break now.ending now.room) mid) where
    begin_put : Put now.out.now now.at (line_break old.ending now.room) mid.out.now mid.at
    begin_put = rw w.ending at q.put

    pub line_fits : mid.at + line_chars ≤ length mid.out.now
    line_fits = chars_room rest line others behind w.lined fits (same w fits) parts size begun begin_put

    -- The part of the output that the characters are put into.
    pub part_length : length (take (mid.at + line_chars - mid.at) (drop mid.at mid.out.now)) ≡ 64
    part_length = simp (length-take, length-drop) (omega (arith, line_fits))

    pub next_line : {chars : List ℕ} → chars ≡ encode line → {new : TextWriter} → new.out.ghost_name ≡ mid.out.ghost_name → new.ending ≡ mid.ending
        → new.at ≡ mid.at + line_chars → new.room ≡ 0 → new.out.now ≡ put_mid mid.at (mid.at + line_chars - mid.at) mid.out.now chars → PutsLines old content (others ++ behind) new
    next_line {chars} made lent ending at room put =
        let many : mid.at + line_chars - mid.at ≡ length chars = omega (arith, ap length made, length_encode line) in
        let placed_chars = put ∙ placed_part mid.out.now mid.at _ chars many ∙ ap (placed mid.out.now mid.at) made in
        record {
          lent = lent ∙ (q.lent ∙ w.lent);
          ending = ending ∙ (q.ending ∙ w.ending);
          lined = rw (at, room) (line_lined rest line others behind w.lined fits (same w fits) parts size begun begin_put placed_chars);
        }
