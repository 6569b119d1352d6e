-- The scan of a whole text has the text's reading, and its numbers are the lengths of the reading's parts; the scan of any
-- other text stops at the end of its longest start. Assumes nothing.
use mathlib.Core.Path.{◌≡◌, refl, sym, ap, ◌∙◌}
use mathlib.Core.Logic.{◌≢◌}
use mathlib.Core.Bool.{Bool, true, false, cond, true≢false}
use mathlib.Core.List.{List, [], ◌++◌, append-nil}
use Prim.Native.Nat.{ℕ, ◌+◌, ◌≤◌}
use lib.Dec.{eqb}
use lib.ListN.{length, take, drop, length-take, take-append-drop}
use lib.Seq.{take_at, take-append_seam}
use native.Mathlib.Omega.{arith}
use borrow.Author.Tests.{eqb-true, eq-eqb}
use Rattle.grammar.specs.Message.{Reading, text_of, Shape}
use Rattle.grammar.specs.Starts.{Parse, LongestStart, HasOpening, HasClosing}
use Rattle.grammar.specs.declared.Grammar.{Grammar}
use Rattle.grammar.specs.declared.Grammar.TheVariants as grammar
use Rattle.machine.proofs.Machine.{run, start, part_of, trace, accepting, dead}
use Rattle.machine.specs.declared.Phase.{Phase}
use Rattle.machine.specs.declared.Phase.TheVariants as phase
use Rattle.machine.proofs.Parts.{rank}
use Rattle.machine.proofs.Messages as messages
use Rattle.machine.proofs.Messages.{accepted_parses, Progress, progress}
use Rattle.machine.proofs.Acceptance.{parse_accepted}
use Rattle.machine.proofs.Starts.{lives_longest, opening_rank, closing_rank}
use Rattle.reading.specs.Scan.{no_tally, stopped, scan_of}
use Rattle.reading.specs.Read.{is_whole}
use Rattle.reading.specs.declared.Scan.{Scan}
use Rattle.reading.proofs.Judgements.{Tells}
use Rattle.reading.proofs.Tallies.{tally_run, tally_of, tally_reading, live_scan, Stops, scan_stops}

-- The scan of a text from its start.
abbrev pub scanned : Grammar → List ℕ → Scan
scanned g text = scan_of g (start g) 0 no_tally text

pub start_live : (g : Grammar) → dead (start g).phase ≡ false
start_live grammar.Lax = refl
start_live grammar.Standard = refl
start_live grammar.Strict = refl

start_fresh : (g : Grammar) → (start g).cr ≡ false
start_fresh grammar.Lax = refl
start_fresh grammar.Standard = refl
start_fresh grammar.Strict = refl

accepting_live : (p : Phase) → accepting p ≡ true → dead p ≡ false
accepting_live phase.Before e = refl
accepting_live (phase.Word b n) e = refl
accepting_live (phase.Label b q) e = refl
accepting_live (phase.Lax q) e = refl
accepting_live (phase.Standard q) e = refl
accepting_live (phase.Strict q) e = refl
accepting_live phase.Dead e = absurd (true≢false (sym e))

pub live_not_dead : (p : Phase) → dead p ≡ false → p ≢ phase.Dead
live_not_dead p e q = true≢false (sym (ap dead q) ∙ e)

pub stops : (g : Grammar) (text : List ℕ) → Stops g (start g) 0 no_tally text (scanned g text)
stops g text = scan_stops g (start g) 0 no_tally text (start_live g)

-- A message that a scan has read: its text stands at the front, and the scan's numbers are those of its parts.
pub record MessageRead (g : Grammar) (text : List ℕ) : Type 0 where
  pub reading : Reading
  pub rest : List ℕ
  pub joined : text ≡ text_of reading ++ rest
  pub shape : Shape g reading
  pub counted : (scanned g text).tally ≡ tally_of reading
  pub ends : (scanned g text).length ≡ length (text_of reading)

-- Where the machine accepts what the scan has read, that is a message.
pub message_read : (g : Grammar) (text : List ℕ) → accepting (scanned g text).phase ≡ true → MessageRead g text
message_read g text h =
    let k : ℕ = (stops g text).bytes in
    let p : messages.Parsed g (take k text) = accepted_parses g (take k text) (sym (ap accepting (stops g text).reached) ∙ h) in
    record {
      reading = p.reading;
      rest = drop k text;
      joined = sym (take-append-drop k text) ∙ ap (λ l. l ++ drop k text) p.joined;
      shape = p.shape;
      counted =
          (stops g text).summed
          ∙ ap (λ l. tally_run g (start g) l no_tally) p.joined
          ∙ tally_reading g (start g) p.reading (start_fresh g) (ap (trace g (start g)) (sym p.joined) ∙ p.parts);
      ends = omega (arith, (stops g text).counted, (stops g text).within, length-take k text, ap length p.joined);
    }

-- What the two tests of a whole scan say.
whole_tests : (a b : Bool) → cond a b false ≡ true → (a ≡ true) × (b ≡ true)
whole_tests true b e = (refl, e)
whole_tests false b e = absurd (true≢false (sym e))

pub record WholeReading (g : Grammar) (text : List ℕ) : Type 0 where
  pub reading : Reading
  pub joined : text ≡ text_of reading
  pub shape : Shape g reading
  pub counted : (scanned g text).tally ≡ tally_of reading

-- Fronts of one length are the same.
pub front_same : (a b c d : List ℕ) → a ++ b ≡ c ++ d → length a ≡ length c → a ≡ c
front_same a b c d e n = sym (take-append_seam a b) ∙ ap (take (length a)) e ∙ take_at c d (length a) (sym n)

-- A whole scan has read the text, and it is one message.
pub whole_reading : (g : Grammar) (text : List ℕ) → is_whole (scanned g text) (length text) ≡ true → WholeReading g text
whole_reading g text e =
    let w : (eqb (scanned g text).length (length text) ≡ true) × (accepting (scanned g text).phase ≡ true) = whole_tests _ _ e in
    let m : MessageRead g text = message_read g text w.1 in
    record {
      reading = m.reading;
      joined =
          front_same text [] (text_of m.reading) m.rest (append-nil text ∙ m.joined)
          (sym (eqb-true (scanned g text).length (length text) w.0) ∙ m.ends);
      shape = m.shape;
      counted = m.counted;
    }

-- The scan of each text of the grammar is whole.
pub parse_whole : (g : Grammar) (text : List ℕ) → Parse g text → is_whole (scanned g text) (length text) ≡ true
parse_whole g text p =
    let h : accepting (run g (start g) text).phase ≡ true = parse_accepted g text p in
    let s : scanned g text ≡ stopped (run g (start g) text) (0 + length text) (tally_run g (start g) text no_tally) = live_scan g (start g) 0 no_tally text (accepting_live (run g (start g) text).phase h) in
    rw (s, h, eq-eqb (0 + length text) (length text) (omega arith))

-- ---- Any other text

-- The scan stops at the end of the longest start.
pub scan_longest : (g : Grammar) (text : List ℕ) → LongestStart (Parse g) text (scanned g text).length
scan_longest g text =
    let e : (scanned g text).length ≡ (stops g text).bytes = omega (arith, (stops g text).counted) in
    rw e
    (lives_longest
    g
    text
    (stops g text).bytes
    (stops g text).within
    (live_not_dead _ (sym (ap dead (stops g text).reached) ∙ (stops g text).lives))
    (stops g text).ends)

-- The part that was being read there tells what that start has.
abbrev pub stop_start : Grammar → List ℕ → List ℕ
stop_start g text = take (scanned g text).length text

pub reached_phase : (g : Grammar) (text : List ℕ) → (scanned g text).phase ≡ (run g (start g) (stop_start g text)).phase
reached_phase g text =
    let e : (stops g text).bytes ≡ (scanned g text).length = omega (arith, (stops g text).counted) in
    (stops g text).reached ∙ ap (λ k. (run g (start g) (take k text)).phase) e

pub not_dead : (g : Grammar) (text : List ℕ) → (run g (start g) (stop_start g text)).phase ≢ phase.Dead
not_dead g text k = live_not_dead (scanned g text).phase (stops g text).lives (reached_phase g text ∙ k)

has_opening : (g : Grammar) (text : List ℕ) → 2 ≤ rank (part_of (scanned g text).phase) → HasOpening g (stop_start g text)
has_opening g text h = go (progress g (stop_start g text)) (rw (reached_phase g text) at h)
  where
    go : Progress g (stop_start g text) → 2 ≤ rank (part_of (run g (start g) (stop_start g text)).phase) → HasOpening g (stop_start g text)
    go (messages.in_opening k) h = absurd (omega arith)
    go (messages.dead k) h = absurd (not_dead g text k)
    go (messages.in_body o k) h = o
    go (messages.in_closing o c k) h = o
    go (messages.behind_closing o c k) h = o

has_closing : (g : Grammar) (text : List ℕ) → 3 ≤ rank (part_of (scanned g text).phase) → HasClosing g (stop_start g text)
has_closing g text h = go (progress g (stop_start g text)) (rw (reached_phase g text) at h)
  where
    go : Progress g (stop_start g text) → 3 ≤ rank (part_of (run g (start g) (stop_start g text)).phase) → HasClosing g (stop_start g text)
    go (messages.in_opening k) h = absurd (omega arith)
    go (messages.dead k) h = absurd (not_dead g text k)
    go (messages.in_body o k) h = absurd (omega (arith, ap rank k))
    go (messages.in_closing o c k) h = c
    go (messages.behind_closing o c k) h = c

no_opening : (g : Grammar) (text : List ℕ) → rank (part_of (scanned g text).phase) ≤ 1 → ¬ HasOpening g (stop_start g text)
no_opening g text h o = omega (arith, rw (reached_phase g text) at h, opening_rank g (stop_start g text) o)

no_closing : (g : Grammar) (text : List ℕ) → rank (part_of (scanned g text).phase) ≤ 2 → ¬ HasClosing g (stop_start g text)
no_closing g text h o = omega (arith, rw (reached_phase g text) at h, closing_rank g (stop_start g text) o)

pub scan_tells : (g : Grammar) (text : List ℕ) → Tells g (stop_start g text) (part_of (scanned g text).phase)
scan_tells g text =
    record { has_opening = has_opening g text; has_closing = has_closing g text; no_opening = no_opening g text; no_closing = no_closing g text }
