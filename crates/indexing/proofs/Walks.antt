-- The walk over a bundle's messages: what the index's loop has reached at each message's start, and what it comes to.
-- Assumes nothing.
use mathlib.Core.Path.{◌≡◌, refl, sym, ap, ◌∙◌}
use mathlib.Core.Logic.{inl, inr}
use mathlib.Core.Bool.{Bool, true, false, cond}
use mathlib.Core.List.{List, [], ◌∷◌, ◌++◌, append_assoc}
use Prim.Native.Nat.{ℕ, zero, suc, ◌+◌, ◌-◌, ◌≤◌, ◌<◌}
use lib.Dec.{ltb}
use lib.ListN.{length, take, drop, replicate, length-append, length-replicate}
use lib.Seq.{take-append_seam, drop-append-add}
use native.Mathlib.Nat.{sub-zero, suc-sub-suc}
use native.Mathlib.Omega.{arith}
use borrow.Author.Tests.{ltb-true, ltb-false}
use Rattle.grammar.specs.Grammars.{grammar_of}
use Rattle.grammar.specs.declared.Grammar.{Grammar}
use Rattle.std.specs.Prelude.{Option, Some, None, Ok, Err}
use Rattle.grammar.proofs.Families.{told_small}
use Rattle.grammar.specs.Families.{family_of}
use Rattle.machine.proofs.Machine.{start, later, accepting}
use Rattle.machine.specs.declared.State.{State}
use Rattle.reading.specs.Limits.{text_limit, label_limit}
use Rattle.reading.specs.Ends.{counted_style}
use Rattle.reading.specs.Layouts.{spanned, layout_of}
use Rattle.reading.specs.Read.{Judgement, found_in, labels_agree, counts_fit, spare_clear, judged_parts}
use Rattle.reading.specs.declared.Found.{Found}
use Rattle.reading.specs.declared.Layout.{Layout}
use Rattle.reading.specs.declared.Refusal.{Refusal}
use Rattle.reading.specs.declared.Refusal.TheVariants.{TextTooLong}
use Rattle.reading.specs.declared.Scan.{Scan}
use Rattle.reading.specs.declared.Sound.{Sound}
use Rattle.reading.specs.declared.Tally.{Tally}
use Rattle.indexing.specs.Answers.{entry_numbers, size_for}
use Rattle.indexing.specs.Index.{numbers_of, numbers_of_all, Holdable, entered, entry_in, scan_from, judged_message, StartState, onward, walk, walk_of, walk_by, surveyed, Filled}
use Rattle.indexing.specs.declared.Entry.{Entry}
use Rattle.indexing.proofs.Scans.{MessageFits, message_fits}
use Rattle.indexing.proofs.Entries.{numbers_length}
use Rattle.indexing.proofs.Turns.{walk_on, walk_end}

-- ---- What a judgement that passed tells

-- A test whose failure refuses was passed,
passed : (b : Bool) (j : Judgement) (r : Refusal) (m : Sound) → cond b j (Err r) ≡ Ok m
    → (b ≡ true) × (j ≡ Ok m)
passed true j r m e = (refl, e)
passed false j r m e = (cc, cc)

-- and one whose success refuses was not.
failed : (b : Bool) (j : Judgement) (r : Refusal) (m : Sound) → cond b (Err r) j ≡ Ok m
    → j ≡ Ok m
failed true j r m e = cc
failed false j r m e = e

-- What the parts of a message tell, by the layout and the tally that they were given.
abbrev told : List ℕ → Layout → Tally → Sound
told text l t = record { layout = l; found = found_in text l t; style = counted_style t.ends }

parts_sound : (g : Grammar) (text : List ℕ) (l : Layout) (t : Tally) (s : Sound) → judged_parts g text l t ≡ Ok s → told text l t ≡ s
parts_sound g text l t s e =
    let a = failed (ltb label_limit l.opened.length) _ _ s e in
    let b = passed (labels_agree text l) _ _ s a in
    let c = passed (counts_fit t.characters t.pads) _ _ s b.1 in
    let d = passed (spare_clear g text l t) _ _ s c.1 in
    cc

-- The scan of a message that passed: it accepts, and what is reported of the message comes from its tally.
record SoundScan (text : List ℕ) (from : ℕ) (s : Scan) (found : Found) : Type 0 where
  accepted : accepting s.phase ≡ true
  told : found ≡ found_in text (layout_of from s.tally) s.tally

sound_scan : (g : Grammar) (text : List ℕ) (from : ℕ) (s : Scan) (m : Sound) → judged_message g text from s ≡ Ok m
    → SoundScan text from s m.found
sound_scan g text from s m e =
    let p = passed (accepting s.phase) _ _ m e in
    record { accepted = p.0; told = sym (ap (λ (q : Sound). q.found) (parts_sound g text (layout_of from s.tally) s.tally m p.1)) }

-- The numbers of a message that passed can be held by a table, and the scan read a byte and stayed within the text.
pub sound_holdable : (g : Grammar) (text : List ℕ) (from : ℕ) (first : State) → StartState g first → from ≤ length text → length text ≤ text_limit
    → (m : Sound) → judged_message g text from (scan_from g text from first) ≡ Ok m
    → Holdable (entry_in from (scan_from g text from first).length m.found)
    × (0 < (scan_from g text from first).length) × (from + (scan_from g text from first).length ≤ length text)
sound_holdable g text from first i w h m e =
    let s : SoundScan text from (scan_from g text from first) m.found = sound_scan g text from _ m e in
    let f : MessageFits text from (scan_from g text from first) = message_fits g text from first i w s.accepted in
    let small = told_small (family_of (spanned text (layout_of from (scan_from g text from first).tally).opened)) in
    rw s.told (omega (arith, f, small))

-- ---- The numbers of messages

numbers_snoc : (es : List Entry) (e : Entry) → numbers_of_all (es ++ (e ∷ [])) ≡ numbers_of_all es ++ numbers_of e
numbers_snoc [] e = refl
numbers_snoc (d ∷ es) e = ap (λ l. numbers_of d ++ l) (numbers_snoc es e)

-- ---- The table

-- The zeros behind the first m of n.
drop_zeros : (m n : ℕ) → m ≤ n → drop {A = ℕ} m (replicate n 0) ≡ replicate (n - m) 0
drop_zeros zero n h = rw sub-zero
drop_zeros (suc m) zero h = absurd (omega arith)
drop_zeros (suc m) (suc n) h = rw suc-sub-suc (drop_zeros m n (omega arith))

-- The zeros behind the numbers of messages are as many as the table's length says.
filled_by : (es : List Entry) (table : List ℕ) (zeros : ℕ) → table ≡ 0 ∷ (numbers_of_all es ++ replicate zeros 0) → Filled (Ok es) table
filled_by es table zeros e h =
    let n : zeros ≡ length table - size_for (length es) = omega (arith, ap length e, length-append (numbers_of_all es) (replicate zeros 0), length-replicate {A = ℕ} zeros 0, numbers_length es) in
    e ∙ ap (λ k. 0 ∷ (numbers_of_all es ++ replicate k 0)) n

-- A table of zeros has them all behind the count's place.
filled_start : (table : List ℕ) → table ≡ replicate (length table) 0 → Filled (Ok []) table
filled_start [] z h = absurd (omega arith)
filled_start (c ∷ table) z h = filled_by [] (c ∷ table) (length table) z h

-- A table with the numbers of a message over those behind its first n.
abbrev overwritten : List ℕ → ℕ → Entry → List ℕ
overwritten table n e = take n table ++ (numbers_of e ++ drop (n + entry_numbers) table)

-- They are put over zeros, so only zeros are lost.
over_zeros : (front : List ℕ) (zeros : ℕ) (e : Entry) → entry_numbers ≤ zeros
    → overwritten (front ++ replicate zeros 0) (length front) e ≡ front ++ (numbers_of e ++ replicate (zeros - entry_numbers) 0)
over_zeros front zeros e h =
    rw (take-append_seam front (replicate zeros 0), drop-append-add front (replicate zeros 0) entry_numbers, drop_zeros entry_numbers zeros h)

-- A table without room for one message more has none for all of them, and nothing is asked of it then.
filled_next : (es : List Entry) (e : Entry) (table : List ℕ) → Filled (Ok es) table → Filled (Ok (es ++ (e ∷ []))) (entered table (length es) e)
filled_next es e table f = go (ltb (length table) (size_for (length es) + entry_numbers)) refl
  where
    front : size_for (length es) ≡ length (0 ∷ numbers_of_all es)
    front = omega (arith, numbers_length es)

    next : (zeros : ℕ) → entry_numbers ≤ zeros → table ≡ 0 ∷ (numbers_of_all es ++ replicate zeros 0)
        → overwritten table (size_for (length es)) e ≡ 0 ∷ (numbers_of_all (es ++ (e ∷ [])) ++ replicate (zeros - entry_numbers) 0)
    next zeros h w = rw (numbers_snoc es e, append_assoc, front, w) (over_zeros (0 ∷ numbers_of_all es) zeros e h)

    go : (b : Bool) → ltb (length table) (size_for (length es) + entry_numbers) ≡ b
        → Filled (Ok (es ++ (e ∷ []))) (cond b table (overwritten table (size_for (length es)) e))
    go true t h = absurd (omega (arith, ltb-true (length table) (size_for (length es) + entry_numbers) t, length-append es (e ∷ [])))
    go false t h =
        let n : size_for (length es) + entry_numbers ≤ length table = ltb-false (length table) (size_for (length es) + entry_numbers) t in
        let zeros : ℕ = length table - size_for (length es) in
        filled_by (es ++ (e ∷ [])) (overwritten table (size_for (length es)) e) (zeros - entry_numbers) (next zeros (omega arith) (f (omega arith))) h

-- ---- The loop

-- What the index's loop has reached: from here on the walk gives what it gives from the start.
pub record Reached (g : Grammar) (text : List ℕ) (first : State) (at count : ℕ) (table : List ℕ) : Type 0 where
  pub entries : List Entry
  pub most : ℕ
  pub ahead : walk most g text at first entries ≡ walk_of g text
  pub enough : length text ≤ at + most
  pub counted : count ≡ length entries
  pub few : count ≤ at
  pub within : at ≤ length text
  pub is_start : StartState g first
  pub filled : Filled (Ok entries) table

-- The loop starts over a table of zeros.
pub reached_start : (g : Grammar) (text table : List ℕ) → table ≡ replicate (length table) 0 → Reached g text (start g) 0 0 table
reached_start g text table z =
    record {
      entries = [];
      most = length text;
      ahead = refl;
      enough = omega arith;
      counted = refl;
      few = omega arith;
      within = omega arith;
      is_start = inl refl;
      filled = filled_start table z;
    }

-- Within the text the bound of the walk is not reached, so it goes by the judgement of the next message.
reached_on : {g : Grammar} {text : List ℕ} {first : State} {at count : ℕ} {table : List ℕ} (r : Reached g text first at count table) → at < length text
    → (j : Judgement) → judged_message g text at (scan_from g text at first) ≡ j
    → walk_of g text
    ≡ onward j at (scan_from g text at first).length (λ e. walk (r.most - 1) g text (at + (scan_from g text at first).length) later (r.entries ++ (e ∷ [])))
reached_on {g} {text} {first} {at} r h j e =
    let m : r.most ≡ suc (r.most - 1) = omega (arith, r.enough) in
    sym r.ahead ∙ ap (λ k. walk k g text at first r.entries) m ∙ walk_on (r.most - 1) g text at first r.entries h j e

-- A message that passed is entered, and the walk goes on behind it.
pub reached_next : {g : Grammar} {text : List ℕ} {first : State} {at count : ℕ} {table : List ℕ} → Reached g text first at count table → at < length text
    → (m : Sound) → judged_message g text at (scan_from g text at first) ≡ Ok m
    → Reached g text later (at + (scan_from g text at first).length) (count + 1) (entered table count (entry_in at (scan_from g text at first).length m.found))
reached_next {g} {text} {first} {at} {count} {table} r h m e =
    let s : SoundScan text at (scan_from g text at first) m.found = sound_scan g text at _ m e in
    let f : MessageFits text at (scan_from g text at first) = message_fits g text at first r.is_start r.within s.accepted in
    let k : Entry = entry_in at (scan_from g text at first).length m.found in
    record {
      entries = r.entries ++ (k ∷ []);
      most = r.most - 1;
      ahead = sym (reached_on r h _ e);
      enough = omega (arith, f.some, r.enough);
      counted = omega (arith, r.counted, length-append r.entries (k ∷ []));
      few = omega (arith, f.some, r.few);
      within = f.within;
      is_start = inr refl;
      filled = rw r.counted (filled_next r.entries k table r.filled);
    }

-- A message that did not pass is the walk's refusal, and then nothing is asked of the table.
pub reached_refused : {g : Grammar} {text : List ℕ} {first : State} {at count : ℕ} {table : List ℕ} → Reached g text first at count table → at < length text
    → (r : Refusal) → judged_message g text at (scan_from g text at first) ≡ Err r → (t : List ℕ)
    → (Err r ≡ surveyed (walk_of g text)) × Filled (walk_of g text) t
reached_refused {g} {text} {first} {at} k h r e t =
    let w : walk_of g text ≡ Err r = reached_on k h _ e in
    rw w (refl, tt)

-- Behind the text there is no message left.
pub reached_end : {g : Grammar} {text : List ℕ} {first : State} {at count : ℕ} {table : List ℕ} → Reached g text first at count table → length text ≤ at
    → (Ok count ≡ surveyed (walk_of g text)) × Filled (walk_of g text) table
reached_end {g} {text} {first} {at} k h =
    let w : walk_of g text ≡ Ok k.entries = sym k.ahead ∙ walk_end k.most g text at first k.entries h in
    rw w (ap Ok k.counted, k.filled)

-- ---- How many messages a text has

-- A walk finds a message at each of its steps, at most.
walk_most : (most : ℕ) (g : Grammar) (text : List ℕ) (at : ℕ) (first : State) (es fs : List Entry) → walk most g text at first es ≡ Ok fs
    → length fs ≤ length es + most
walk_most zero g text at first es fs e =
    let q : es ≡ fs = cc in
    omega (arith, ap length q)
walk_most (suc most) g text at first es fs e =
    go (ltb at (length text)) (judged_message g text at (scan_from g text at first)) e
    (λ k. walk_most most g text (at + (scan_from g text at first).length) later (es ++ (k ∷ [])) fs)
  where
    go : (b : Bool) (j : Judgement)
        → cond b
        (onward j at (scan_from g text at first).length (λ k. walk most g text (at + (scan_from g text at first).length) later (es ++ (k ∷ []))))
        (Ok es)
        ≡ Ok fs
        → ((k : Entry) → walk most g text (at + (scan_from g text at first).length) later (es ++ (k ∷ [])) ≡ Ok fs → length fs ≤ length (es ++ (k ∷ [])) + most)
        → length fs ≤ length es + suc most
    go true (Err r) e ih =
        let z : ◌≡◌ {A = ℕ} 0 1 = cc in
        omega arith
    go true (Ok m) e ih =
        let k : Entry = entry_in at (scan_from g text at first).length m.found in
        omega (arith, ih k e, length-append es (k ∷ []))
    go false j e ih =
        let q : es ≡ fs = cc in
        omega (arith, ap length q)

-- A text within the limit has few messages.
pub walk_few : (number : ℕ) (text : List ℕ) (es : List Entry) → walk_by (grammar_of number) text ≡ Ok es → length es ≤ text_limit
walk_few number text es e = go (grammar_of number) e
  where
    limited : (g : Grammar) (b : Bool) → ltb text_limit (length text) ≡ b → cond b (Err TextTooLong) (walk_of g text) ≡ Ok es → length es ≤ text_limit
    limited g true t e =
        let z : ◌≡◌ {A = ℕ} 0 1 = cc in
        omega arith
    limited g false t e = omega (arith, ltb-false text_limit (length text) t, walk_most (length text) g text 0 (start g) [] es e)

    go : (n : Option Grammar) → walk_by n text ≡ Ok es → length es ≤ text_limit
    go None e =
        let z : ◌≡◌ {A = ℕ} 0 1 = cc in
        omega arith
    go (Some g) e = limited g (ltb text_limit (length text)) refl e
