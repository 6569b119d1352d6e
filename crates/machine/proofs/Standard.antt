-- The standard grammar at the machine: what its phases accept is what the grammar's relations say. Assumes nothing.
use mathlib.Core.Path.{◌≡◌, refl, ◌∙◌}
use mathlib.Core.Logic.{◌⊎◌, inl, inr}
use mathlib.Core.Bool.{true, false, false≢true}
use mathlib.Core.List.{List, [], ◌∷◌, ◌++◌, append-nil, cons≢nil}
use Prim.Native.Nat.{ℕ, zero, suc, ◌+◌, ◌≤◌}
use lib.Dec.{eqb}
use lib.ListN.{length, replicate}
use native.Mathlib.Omega.{arith}
use Rattle.base_64.specs.Lists.{All}
use Rattle.base_64.specs.Alphabet.{AlphabetChar, pad}
use Rattle.grammar.specs.Marks.{CR, LF, hyphen, Blank, LineEnd}
use Rattle.grammar.specs.Grammars.{FinalLine, StandardLines, BlankLines, StandardBody, StandardAfter}
use Rattle.grammar.specs.declared.Grammar.{Grammar}
use Rattle.machine.proofs.Machine.{standard_row, next, state, run, part_of, accepting}
use Rattle.machine.specs.declared.StandardPhase.{StandardPhase}
use Rattle.machine.specs.declared.StandardPhase.TheVariants as standard
use Rattle.machine.specs.declared.Phase.TheVariants.{Standard}
use Rattle.machine.specs.declared.Part.TheVariants as part
use Rattle.machine.proofs.Runs.{row_takes, chars_close}
use Rattle.machine.proofs.Bodies.{seen_behind, EndThen, end_then, Ending, SecondPad, second, Padded, Chars, BodyRest, AfterRest, Closes, Way, ToClosing}
use Rattle.machine.proofs.LineEnds.{line_end_last, line_end_closes, line_end_accepted}
use Rattle.machine.proofs.Rows.{Byte, byte, Pad, dead, live, never, Columns, columns, none, off, row_move, move_before, move_after, move_way, row_accepting, after_no_body}

-- ---- Back: what may come behind a byte or a line end makes what may come from the phase

-- A line end in front of a P.
end_first : {P : List ℕ → Type 0} (e l : List ℕ) → LineEnd e l → P l → EndThen P (e ++ l)
end_first e l h w = end_then [] e l tt h w

-- A blank in front of it.
end_blank : {P : List ℕ → Type 0} (e l : List ℕ) → Byte Blank e l → EndThen P l → EndThen P (e ++ l)
end_blank _ _ (byte {c = c} h) (end_then b e l hb he w) = end_then (c ∷ b) e l (h, hb) he w

-- The final line, from its end.
final_line : (a : List ℕ) (k : ℕ) {l : List ℕ} → All AlphabetChar a → k ≤ 2 → Ending l → StandardLines (a ++ (replicate k pad ++ l))
final_line a k ha hk (end_then b e l hb he q) = StandardLines.final (FinalLine.final a k b (e ++ l) ha hk hb (line_end_last e l he q))

-- The final line, from behind its first pad.
padded_line : (a : List ℕ) {l : List ℕ} → All AlphabetChar a → Padded l → StandardLines (a ++ (pad ∷ l))
padded_line a ha (inl (end_then b e l hb he (inl q))) = final_line a 1 ha (omega arith) (end_then b e l hb he q)
padded_line a ha (inl (end_then b e _ hb he (inr (second (end_then c f l hc hf q))))) =
    StandardLines.final (FinalLine.split a b e c (f ++ l) ha hb he hc (line_end_last f l hf q))
padded_line a ha (inr (second h)) = final_line a 2 ha (omega arith) h

-- The final line may be pads alone.
lines_pad : (e l : List ℕ) → Byte Pad e l → Padded l → StandardLines (e ++ l)
lines_pad _ _ (byte q) w = rw q (padded_line [] tt w)

-- A line that starts with a character.
lines_char : (e l : List ℕ) → Byte AlphabetChar e l → Chars l → StandardLines (e ++ l)
lines_char _ _ (byte {c = c} h) (Chars.line a l ha (end_then b e rest hb he (inl q))) = final_line (c ∷ a) 0 (h, ha) (omega arith) (end_then b e rest hb he q)
lines_char _ _ (byte {c = c} h) (Chars.line a l ha (end_then b e rest hb he (inr w))) = StandardLines.line (c ∷ a) b e rest cons≢nil (h, ha) hb he w
lines_char _ _ (byte {c = c} h) (Chars.padded a l ha w) = padded_line (c ∷ a) (h, ha) w

-- The final line may be empty.
lines_ending : {l : List ℕ} → Ending l → StandardLines l
lines_ending h = final_line [] 0 tt (omega arith) h

-- One more character.
chars_char : (e l : List ℕ) → Byte AlphabetChar e l → Chars l → Chars (e ++ l)
chars_char _ _ (byte {c = c} h) (Chars.line a l ha t) = Chars.line (c ∷ a) l (h, ha) t
chars_char _ _ (byte {c = c} h) (Chars.padded a l ha w) = Chars.padded (c ∷ a) l (h, ha) w

-- The first pad behind characters.
chars_pad : (e l : List ℕ) → Byte Pad e l → Padded l → Chars (e ++ l)
chars_pad _ l (byte q) w = rw q (Chars.padded [] l tt w)

-- The second pad.
second_pad : (e l : List ℕ) → Byte Pad e l → Ending l → SecondPad (e ++ l)
second_pad _ _ (byte q) h = rw q (second h)

-- A blank in front of the lines.
blank_lines_blank : (e l : List ℕ) → Byte Blank e l → BlankLines l → BlankLines (e ++ l)
blank_lines_blank _ _ (byte h) w = BlankLines.blank h w

-- A line end in front of the lines; the last one ends the final line, which is empty.
blank_lines_end : (e l : List ℕ) → LineEnd e l → (l ≡ []) ⊎ BlankLines l → BlankLines (e ++ l)
blank_lines_end e l h (inl q) = BlankLines.lines (lines_ending (end_first e l h q))
blank_lines_end e l h (inr w) = BlankLines.line_end_lem e l h w

-- A blank behind the opening.
body_blank : (e l : List ℕ) → Byte Blank e l → StandardBody l → StandardBody (e ++ l)
body_blank _ _ (byte {c = c} h) (StandardBody.standard b e rest hb he w) = StandardBody.standard (c ∷ b) e rest (h, hb) he w

-- A blank behind the closing.
after_blank : (e l : List ℕ) → Byte Blank e l → StandardAfter l → StandardAfter (e ++ l)
after_blank _ l (byte {c = c} h) (StandardAfter.no_end hb) = StandardAfter.no_end {b = c ∷ l} (h, hb)
after_blank _ _ (byte {c = c} h) (StandardAfter.one_end b e hb he) = StandardAfter.one_end (c ∷ b) e (h, hb) he

-- Blanks and a line end behind the closing.
after_ending : {l : List ℕ} → Ending l → StandardAfter l
after_ending (end_then b e l hb he q) = StandardAfter.one_end b (e ++ l) hb (line_end_last e l he q)

-- The table, read backwards.
standard_columns : (p : StandardPhase) → Columns (Standard p) (standard_row p)
standard_columns standard.Opened =
    columns (live refl body_blank (never _)) (dead refl) (live refl (λ e l h w. StandardBody.standard [] e l tt h w) (never _))
    (dead refl) (dead refl) (none refl) false≢true
standard_columns standard.Leading =
    columns (live refl blank_lines_blank (never _)) (dead refl) (live refl blank_lines_end (never _))
    (live refl (λ e l h w. BlankLines.lines (lines_char e l h w)) (never _))
    (live refl (λ e l h w. BlankLines.lines (lines_pad e l h w)) (never _)) (none refl) false≢true
standard_columns standard.BlankLine =
    columns (live refl (λ e l h w. inr (blank_lines_blank e l h w)) (never _)) (dead refl)
    (live refl (λ e l h w. inr (blank_lines_end e l h w)) (never _))
    (live refl (λ e l h w. inr (BlankLines.lines (lines_char e l h w))) (never _))
    (live refl (λ e l h w. inr (BlankLines.lines (lines_pad e l h w))) (never _)) (off refl refl (inl refl)) false≢true
standard_columns standard.Data =
    columns (live refl (λ e l h w. Chars.line [] _ tt (end_blank e l h w)) (never _)) (dead refl)
    (live refl (λ e l h w. Chars.line [] _ tt (end_first e l h w)) (never _))
    (live refl chars_char (never _)) (live refl chars_pad (never _)) (none refl) false≢true
standard_columns standard.Trailing =
    columns (live refl end_blank (never _)) (dead refl) (live refl end_first (never _)) (dead refl) (dead refl) (none refl) false≢true
standard_columns standard.Line =
    columns (live refl (λ e l h w. inr (lines_ending (end_blank e l h w))) (never _)) (dead refl)
    (live refl (λ e l h w. inr (lines_ending (end_first e l h w))) (never _))
    (live refl (λ e l h w. inr (lines_char e l h w)) (never _))
    (live refl (λ e l h w. inr (lines_pad e l h w)) (never _)) (off refl refl (inl refl)) false≢true
standard_columns standard.OnePad =
    columns (live refl (λ e l h w. inl (end_blank e l h w)) (never _)) (dead refl)
    (live refl (λ e l h w. inl (end_first e l h w)) (never _))
    (dead refl) (live refl (λ e l h w. inr (second_pad e l h w)) (never _)) (none refl) false≢true
standard_columns standard.PadTrailing =
    columns (live refl end_blank (never _)) (dead refl) (live refl end_first (never _)) (dead refl) (dead refl) (none refl) false≢true
standard_columns standard.PadLine =
    columns (dead refl) (dead refl) (dead refl) (dead refl) (live refl (λ e l h w. inr (second_pad e l h w)) (never _)) (off refl refl (inl refl)) false≢true
standard_columns standard.Ending =
    columns (live refl end_blank (never _)) (dead refl) (live refl end_first (never _)) (dead refl) (dead refl) (none refl) false≢true
standard_columns standard.Final = columns (dead refl) (dead refl) (dead refl) (dead refl) (dead refl) (off refl refl refl) false≢true
standard_columns standard.Closed =
    columns (live refl (never _) after_blank) (dead refl) (live refl (never _) (λ e l h w. after_ending (end_first e l h w)))
    (dead refl) (dead refl) (none refl) (λ _. StandardAfter.no_end {b = []} tt)
standard_columns standard.Ended = columns (dead refl) (dead refl) (dead refl) (dead refl) (dead refl) (none refl) (λ _. refl)

-- What may come of a body behind a byte makes what may come before it.
pub standard_before : (g : Grammar) (p : StandardPhase) (c : ℕ) (l : List ℕ)
    → BodyRest (next g (Standard p) c) (seen_behind (eqb c CR) l) → BodyRest (Standard p) (c ∷ l)
standard_before g p c = move_before (row_move (standard_columns p) c)

-- The same behind the closing.
pub standard_after : (g : Grammar) (p : StandardPhase) (c : ℕ) (l : List ℕ)
    → AfterRest (next g (Standard p) c) (seen_behind (eqb c CR) l) → AfterRest (Standard p) (c ∷ l)
standard_after g p c = move_after (row_move (standard_columns p) c)

-- From a phase of the body each byte kills the machine, leaves it in the body or starts the closing.
pub standard_ways : (g : Grammar) (p : StandardPhase) (c : ℕ) → part_of (Standard p) ≡ part.Body → Way (Standard p) (next g (Standard p) c) c
standard_ways g p c = move_way (row_move (standard_columns p) c)

-- Where the machine accepts, nothing more has to come.
pub standard_accepting : (p : StandardPhase) → accepting (Standard p) ≡ true → AfterRest (Standard p) []
standard_accepting p = row_accepting (standard_columns p)

-- From each phase of the body line ends lead to the closing.
pub standard_way : (g : Grammar) (p : StandardPhase) → part_of (Standard p) ≡ part.Body → ToClosing g (Standard p)
standard_way g standard.Opened e = record { bytes = LF ∷ LF ∷ []; closes = λ z. refl }
standard_way g standard.Leading e = record { bytes = LF ∷ []; closes = λ z. refl }
standard_way g standard.BlankLine e = record { bytes = []; closes = λ z. refl }
standard_way g standard.Data e = record { bytes = LF ∷ []; closes = λ z. refl }
standard_way g standard.Trailing e = record { bytes = LF ∷ []; closes = λ z. refl }
standard_way g standard.Line e = record { bytes = []; closes = λ z. refl }
standard_way g standard.OnePad e = record { bytes = LF ∷ []; closes = λ z. refl }
standard_way g standard.PadTrailing e = record { bytes = LF ∷ []; closes = λ z. refl }
standard_way g standard.PadLine e = record { bytes = []; closes = λ z. refl }
standard_way g standard.Ending e = record { bytes = LF ∷ []; closes = λ z. refl }
standard_way g standard.Final e = record { bytes = []; closes = λ z. refl }
standard_way g standard.Closed e = absurd (after_no_body e)
standard_way g standard.Ended e = absurd (after_no_body e)

-- ---- On: the machine reads what the grammar says

module _ (g : Grammar) where
  -- The machine reads a blank.
  blank_run : (p : StandardPhase) (c : ℕ) (l : List ℕ) → Blank c → run g (state (Standard p) false) (c ∷ l) ≡ run g (state (standard_row p).blank false) l
  blank_run p c l (inl e) = rw e
  blank_run p c l (inr e) = rw e

  -- Blanks and a line end in front of what closes: blanks lead to a phase m that they keep, and a line end leads from both to one.
  line_closes : (p m : StandardPhase) → (standard_row p).blank ≡ Standard m → (standard_row m).blank ≡ Standard m → (standard_row m).end ≡ (standard_row p).end
      → (b e l : List ℕ) → All Blank b → LineEnd e l → Closes g (standard_row p).end l → Closes g (Standard p) (b ++ (e ++ l))
  line_closes p m x y w [] e l hb he k = line_end_closes g (Standard p) refl refl he k
  line_closes p m x y w (c ∷ b) e l hb he k = λ z.
      blank_run p c ((b ++ (e ++ l)) ++ (hyphen ∷ z)) hb.0 ∙ rw x (line_closes m m y y refl b e l hb.1 he (rw w k) z)

  -- From p blanks and a line end lead to the closing.
  abbrev Ends : StandardPhase → Type 0
  Ends p = (b e : List ℕ) → All Blank b → LineEnd e [] → Closes g (Standard p) (b ++ e)

  -- They do where a hyphen leads on from there.
  phase_ends : (p m : StandardPhase) → (standard_row p).blank ≡ Standard m → (standard_row m).blank ≡ Standard m → (standard_row m).end ≡ (standard_row p).end
      → Closes g (standard_row p).end [] → Ends p
  phase_ends p m x y w k b e hb he = rw append-nil at (line_closes p m x y w b e [] hb he k)

  -- A phase where a line may start.
  record Start (p : StandardPhase) : Type 0 where
    ends : Ends p
    char : (standard_row p).alphabet ≡ Standard standard.Data
    pad : (standard_row p).pad ≡ Standard standard.OnePad

  -- A line may start behind the opening's line end,
  leading_start : Start standard.Leading
  leading_start = record { ends = phase_ends standard.Leading standard.Leading refl refl refl (λ z. refl); char = refl; pad = refl }

  -- behind a blank line,
  blank_line_start : Start standard.BlankLine
  blank_line_start = record { ends = phase_ends standard.BlankLine standard.Leading refl refl refl (λ z. refl); char = refl; pad = refl }

  -- go on behind a character,
  data_start : Start standard.Data
  data_start = record { ends = phase_ends standard.Data standard.Trailing refl refl refl (λ z. refl); char = refl; pad = refl }

  -- and start behind a data line.
  line_start : Start standard.Line
  line_start = record { ends = phase_ends standard.Line standard.Ending refl refl refl (λ z. refl); char = refl; pad = refl }

  -- At most two pads and the end of the final line.
  pads_close : (p : StandardPhase) → Start p → (k : ℕ) (b e : List ℕ) → k ≤ 2 → All Blank b → LineEnd e [] → Closes g (Standard p) (replicate k pad ++ (b ++ e))
  pads_close p s zero b e hk hb he = s.ends b e hb he
  pads_close p s (suc zero) b e hk hb he = λ z. rw (s.pad, run) (phase_ends standard.OnePad standard.PadTrailing refl refl refl (λ z. refl) b e hb he z)
  pads_close p s (suc (suc zero)) b e hk hb he = λ z. rw (s.pad, run) (phase_ends standard.Ending standard.Ending refl refl refl (λ z. refl) b e hb he z)
  pads_close p s (suc (suc (suc k))) b e hk hb he = absurd (omega arith)

  -- Pads on two lines and the end of the final line.
  split_closes : (p : StandardPhase) → Start p → (b e c f : List ℕ) → All Blank b → LineEnd e (pad ∷ (c ++ f)) → All Blank c → LineEnd f []
      → Closes g (Standard p) (pad ∷ (b ++ (e ++ (pad ∷ (c ++ f)))))
  split_closes p s b e c f hb he hc hf = λ z. rw (s.pad, run)
      (line_closes standard.OnePad standard.PadTrailing refl refl refl b e (pad ∷ (c ++ f)) hb he
      (phase_ends standard.Ending standard.Ending refl refl refl (λ y. refl) c f hc hf) z)

  -- One or more alphabet characters.
  data_closes : (p : StandardPhase) → Start p → (c : ℕ) (a l : List ℕ) → All AlphabetChar (c ∷ a) → Closes g (Standard standard.Data) l
      → Closes g (Standard p) (c ∷ (a ++ l))
  data_closes p s c a l h k =
      chars_close g (λ _. Standard standard.Data) (λ _ _. row_takes (standard_row standard.Data) refl) (Standard p) (length a + 0) 0 c a l
      (row_takes (standard_row p) s.char) h refl k

  -- The lines.
  lines_close : (p : StandardPhase) → Start p → {l : List ℕ} → StandardLines l → Closes g (Standard p) l
  lines_close p s (StandardLines.final (FinalLine.final [] k b e ha hk hb he)) = pads_close p s k b e hk hb he
  lines_close p s (StandardLines.final (FinalLine.final (c ∷ a) k b e ha hk hb he)) =
      data_closes p s c a (replicate k pad ++ (b ++ e)) ha (pads_close standard.Data data_start k b e hk hb he)
  lines_close p s (StandardLines.final (FinalLine.split [] b e c f ha hb he hc hf)) = split_closes p s b e c f hb he hc hf
  lines_close p s (StandardLines.final (FinalLine.split (d ∷ a) b e c f ha hb he hc hf)) =
      data_closes p s d a (pad ∷ (b ++ (e ++ (pad ∷ (c ++ f))))) ha (split_closes standard.Data data_start b e c f hb he hc hf)
  lines_close p s (StandardLines.line [] b e l n ha hb he w) = absurd (n refl)
  lines_close p s (StandardLines.line (c ∷ a) b e l n ha hb he w) =
      data_closes p s c a (b ++ (e ++ l)) ha (line_closes standard.Data standard.Trailing refl refl refl b e l hb he (lines_close standard.Line line_start w))

  -- Blanks and line ends, then the lines, at the two phases that they keep to.
  blank_lines_close : (p : StandardPhase) → Start p → (standard_row p).blank ≡ Standard standard.Leading → (standard_row p).end ≡ Standard standard.BlankLine
      → {l : List ℕ} → BlankLines l → Closes g (Standard p) l
  blank_lines_close p s x y (BlankLines.lines w) = lines_close p s w
  blank_lines_close p s x y (BlankLines.blank {c = c} {rest = l} h w) = λ z.
      blank_run p c (l ++ (hyphen ∷ z)) h ∙ rw x (blank_lines_close standard.Leading leading_start refl refl w z)
  blank_lines_close p s x y (BlankLines.line_end_lem e l he w) = line_end_closes g (Standard p) refl refl he (rw y (blank_lines_close standard.BlankLine blank_line_start refl refl w))

  -- The machine reads a body up to the closing.
  pub standard_closes : {l : List ℕ} → StandardBody l → Closes g (Standard standard.Opened) l
  standard_closes (StandardBody.standard b e l hb he w) =
      line_closes standard.Opened standard.Opened refl refl refl b e l hb he (blank_lines_close standard.Leading leading_start refl refl w)

  -- Blanks behind the closing, in front of what is accepted there.
  blanks_accepted : (b l : List ℕ) → All Blank b → accepting (run g (state (Standard standard.Closed) false) l).phase ≡ true
      → accepting (run g (state (Standard standard.Closed) false) (b ++ l)).phase ≡ true
  blanks_accepted [] l h k = k
  blanks_accepted (c ∷ b) l h k = rw (blank_run standard.Closed c (b ++ l) h.0) (blanks_accepted b l h.1 k)

  -- The machine accepts what stands behind the closing.
  pub standard_ends : {l : List ℕ} → StandardAfter l → accepting (run g (state (Standard standard.Closed) false) l).phase ≡ true
  standard_ends (StandardAfter.no_end {b = b} h) = rw append-nil at (blanks_accepted b [] h refl)
  standard_ends (StandardAfter.one_end b e hb he) = blanks_accepted b e hb (line_end_accepted g (Standard standard.Closed) refl refl refl he)
