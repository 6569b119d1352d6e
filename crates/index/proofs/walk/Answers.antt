-- Assumes nothing.
use Rattle.std.proofs.Common.{◌≡◌, ℕ, true, ◌+◌, ◌≤◌, ◌<◌, List, length, drop, refl, sym, ap, ◌∙◌, arith, length-drop}
use Rattle.std.specs.Prelude.{Ok}
use Rattle.std.proofs.lemmas.Result.{err_from_is_err_and}
use Rattle.grammar.specs.declared.Grammar.{Grammar}
use Rattle.machine.proofs.Machine.{later, accepting}
use Rattle.machine.specs.declared.State.{State}
use Rattle.reading.specs.Limits.{text_limit}
use Rattle.reading.specs.Layouts.{TallyFits}
use Rattle.reading.specs.Read.{Judgement}
use Rattle.reading.specs.declared.Scan.{Scan}
use Rattle.reading.specs.declared.Sound.{Sound}
use Rattle.reading.proofs.Whole.{stops}
use Rattle.indexing.specs.Index.{Holdable, entered, entry_in, scan_from, judged_message}
use Rattle.indexing.proofs.Scans.{NextScan, same, nothing, next_scan, message_fits}
use Rattle.indexing.proofs.Walks.{Reached, reached_start, reached_next, reached_refused, reached_end, sound_holdable}
use Rattle.index.proofs.walk.Goals as goal

-- A turn's scan ends within the text,
scan-within : {g : Grammar} {text : List ℕ} {first : State} {at count : ℕ} {table : List ℕ} → Reached g text first at count table
    → (s : Scan) → s ≡ scan_from g text at first → at + s.length ≤ length text
scan-within {g} {text} {first} {at} reached s scanned = rw scanned (go _ (next_scan g first (drop at text) reached.is_start))
  where
    go : (r : Scan) → NextScan g (drop at text) r → at + r.length ≤ length text
    go r same = omega (arith, reached.within, stops g (drop at text), length-drop at text)
    go r nothing = omega (arith, reached.within)

-- and so do the parts of a message that the machine accepts.
scan-fits : {g : Grammar} {text : List ℕ} {first : State} {at count : ℕ} {table : List ℕ} → Reached g text first at count table
    → (s : Scan) → s ≡ scan_from g text at first → accepting s.phase ≡ true → TallyFits s.length s.tally
scan-fits {g} {text} {first} {at} reached s scanned a =
    rw scanned (message_fits g text at first reached.is_start reached.within (sym (ap (λ (r : Scan). accepting r.phase) scanned) ∙ a)).tally

-- A turn's judgement, of the scan as it is defined.
judged : (g : Grammar) (text : List ℕ) (first : State) (at : ℕ) (s : Scan) (j : Judgement) → s ≡ scan_from g text at first → j ≡ judged_message g text at s
    → judged_message g text at (scan_from g text at first) ≡ j
judged g text first at s j scanned e = sym (ap (judged_message g text at) scanned) ∙ sym e

-- The message of a turn passed, so its numbers can be held, and its end is further on in the text.
passed : {g : Grammar} {text : List ℕ} {first : State} {at count : ℕ} {table : List ℕ} → Reached g text first at count table → length text ≤ text_limit
    → (s : Scan) → s ≡ scan_from g text at first → (m : Sound) → Ok m ≡ judged_message g text at s
    → Holdable (entry_in at s.length m.found) × (0 < s.length) × (at + s.length ≤ length text)
passed {g} {text} {first} {at} reached short s scanned m e =
    rw scanned (sound_holdable g text at first reached.is_start reached.within short m (judged g text first at s _ scanned e))

-- What a turn leaves behind it.
turned : {g : Grammar} {text : List ℕ} {first : State} {at count : ℕ} {table : List ℕ} → Reached g text first at count table → at < length text
    → (s : Scan) → s ≡ scan_from g text at first → (m : Sound) → Ok m ≡ judged_message g text at s
    → (next : State) → next ≡ later → (t : List ℕ) → t ≡ entered table count (entry_in at s.length m.found)
    → Reached g text next (at + s.length) (count + 1) t
turned {g} {text} {first} {at} reached h s scanned m e next start t filled =
    let j = judged g text first at s _ scanned e in
    rw (filled, start, scanned) (reached_next reached h m j)

pub loop-at-init : goal.loop-at-init
loop-at-init c = (refl, rw c.start-first.ensures (reached_start _ _ _ c.requires.1))

pub judge_message-requires-clause-within : goal.judge_message-requires-clause-within
judge_message-requires-clause-within c = scan-within c.loop-at.invariant.1 _ c.scan_text-scan.ensures

pub judge_message-requires-clause-parts : goal.judge_message-requires-clause-parts
judge_message-requires-clause-parts c = scan-fits c.loop-at.invariant.1 _ c.scan_text-scan.ensures

pub returns-in_err-sound : goal.returns-in_err-sound
returns-in_err-sound c =
    let p = err_from_is_err_and c.from_residual.result c.from_residual.ensures.1 in
    let j = judged _ _ _ _ _ _ c.scan_text-scan.ensures c.in_err-sound.ensures in
    rw (p.1, p.2) (reached_refused c.loop-at.invariant.1 c.loop-at-test.true _ j _)

pub put_entry-requires : goal.put_entry-requires
put_entry-requires c =
    let reached = c.loop-at.invariant.1 in
    let fits = passed reached c.requires.0 _ c.scan_text-scan.ensures _ c.in_ok-sound.ensures in
    (omega (arith, reached.few, reached.within, c.requires.0), fits.0)

pub overflow_add-at : goal.overflow_add-at
overflow_add-at c =
    let fits = passed c.loop-at.invariant.1 c.requires.0 _ c.scan_text-scan.ensures _ c.in_ok-sound.ensures in
    omega (arith, fits.2, c.requires.0)

pub loop-at-smaller : goal.loop-at-smaller
loop-at-smaller c =
    let fits = passed c.loop-at.invariant.1 c.requires.0 _ c.scan_text-scan.ensures _ c.in_ok-sound.ensures in
    omega (arith, fits.1, fits.2)

pub loop-at-preserved : goal.loop-at-preserved
loop-at-preserved c = (
  c.put_entry.auto.table ∙ c.loop-at.invariant.0,
  turned
      c.loop-at.invariant.1
      c.loop-at-test.true
      _
      c.scan_text-scan.ensures
      _
      c.in_ok-sound.ensures
      _
      c.later-first.ensures
      _
      c.put_entry.ensures,
)

pub returns : goal.returns
returns c = reached_end c.loop-at.invariant.1 c.loop-at-test.false
