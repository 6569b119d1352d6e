-- What the index call is defined to answer is what the requirements' rows say, and the rows leave one answer and one table
-- only. Assumes nothing.
use mathlib.Core.Path.{◌≡◌, refl, sym, ap, ◌∙◌, subst}
use mathlib.Core.Logic.{◌≢◌}
use mathlib.Core.Bool.{Bool, true, false}
use mathlib.Core.List.{List, [], ◌∷◌, ◌++◌, append_assoc, append-nil, nil≢cons}
use Prim.Native.Nat.{ℕ, zero, suc, ◌+◌, ◌-◌, ◌≤◌, ◌<◌}
use lib.Dec.{ltb}
use lib.ListN.{length, take, drop, replicate, length-append}
use lib.Seq.{take_at, drop_at, take-append-add}
use native.Mathlib.Omega.{arith}
use native.Mathlib.Nat.{zero-add}
use borrow.Author.Tests.{ltb-true, ltb-false, lt-ltb, le-ltb}
use Rattle.base_64.specs.Lists.{All}
use Rattle.base_64.proofs.Lists.{all_append}
use Rattle.grammar.specs.Grammars.{grammar_of}
use Rattle.grammar.specs.Message.{Reading, text_of}
use Rattle.grammar.specs.Bundle.{joined_text, Shapes, table_of}
use Rattle.grammar.specs.Starts.{BundleParse, LongestStart}
use Rattle.grammar.specs.declared.Grammar.{Grammar}
use Rattle.std.specs.Prelude.{Option, Some, None, Ok, Err}
use Rattle.output.specs.declared.CallError.TheVariants.{TooSmall}
use Rattle.grammar.proofs.Bundle.{front_shapes, next_shape}
use Rattle.machine.proofs.Machine.{run, start, later, part_of, accepting}
use Rattle.machine.specs.declared.Part.{Part}
use Rattle.machine.proofs.Bundles as bundles
use Rattle.machine.proofs.Bundles.{Unextended, start_behind, joined_more, unextended_more}
use Rattle.reading.specs.Limits.{text_limit}
use Rattle.reading.specs.Meaning as rows
use Rattle.reading.specs.Meaning.{Admitted, Sound}
use Rattle.reading.specs.Layouts.{layout_of}
use Rattle.reading.specs.Read.{Judgement, grammar_refusal, judged_parts}
use Rattle.reading.specs.Scan.{no_tally, scan_of}
use Rattle.reading.specs.declared.Refusal.{Refusal}
use Rattle.reading.proofs.Judgements as judgements
use Rattle.reading.proofs.Judgements.{judged_reading, parts_judged, Verdict, reading_judged, fails_judged, sound_judged, Tells, part_fails, fails_part}
use Rattle.reading.proofs.Meaning.{longest_unique}
use Rattle.reading.proofs.Places.{opening_length, text_length}
use Rattle.reading.proofs.Tallies.{tally_of}
use Rattle.indexing.specs.Answers.{size_for, table_size, IndexAnswer}
use Rattle.indexing.specs.Meaning as meaning
use Rattle.indexing.specs.Meaning.{AllWhole, Judged, Broken, Refuses, Passed, Indexes}
use Rattle.indexing.specs.Index.{judged_message, Walk, onward, scan_from, walk, walk_of, walk_by, answered, tabled, index_of, lent_table}
use Rattle.indexing.proofs.Entries.{entries_at, entries_length, entries_numbers, entries_more}
use Rattle.indexing.proofs.Turns.{walk_on, walk_end}
use Rattle.indexing.proofs.Whole.{whole_stops, stops_whole, all_whole_unextended, unextended_all_whole, unextended_end}
use Rattle.indexing.proofs.Steps.{scan_behind, WholeScan, whole_scan, NextWhole, next_whole, behind_run, next_broken}

-- ---- The walk behind messages

abbrev walk_behind : ℕ → Grammar → List ℕ → List Reading → Walk
walk_behind most g text rs = walk most g text (length (joined_text rs)) (start_behind g rs) (entries_at 0 rs)

scan_here : (g : Grammar) (text : List ℕ) (rs : List Reading) (rest : List ℕ) → text ≡ joined_text rs ++ rest
    → scan_from g text (length (joined_text rs)) (start_behind g rs) ≡ scan_behind g rs rest
scan_here g text rs rest e =
    ap (scan_of g (start_behind g rs) 0 no_tally) (ap (drop (length (joined_text rs))) e ∙ drop_at (joined_text rs) rest (length (joined_text rs)) refl)

-- At the end of the text all messages are found.
walk_all : (most : ℕ) (g : Grammar) (text : List ℕ) (rs : List Reading) → text ≡ joined_text rs → walk_behind most g text rs ≡ Ok (entries_at 0 rs)
walk_all most g text rs e = walk_end most g text (length (joined_text rs)) (start_behind g rs) (entries_at 0 rs) (omega (arith, ap length e))

-- A message is not empty.
text_long : (r : Reading) → 0 < length (text_of r)
text_long r = omega (arith, text_length r, opening_length r.opening_label)

-- Where something stands behind the messages, the text goes on.
goes_on : (text : List ℕ) (rs : List Reading) (rest : List ℕ) → text ≡ joined_text rs ++ rest → 0 < length rest → length (joined_text rs) < length text
goes_on text rs rest e h = omega (arith, ap length e ∙ length-append (joined_text rs) rest)

-- A whole message is judged, whatever stands around it.
whole_judged : (g : Grammar) (text : List ℕ) (rs : List Reading) (r : Reading) (x : List ℕ) → text ≡ joined_text rs ++ (text_of r ++ x)
    → Shapes g (rs ++ (r ∷ [])) → bundles.Stops g (run g (start g) (text_of r)) x
    → judged_message g text (length (joined_text rs)) (scan_behind g rs (text_of r ++ x)) ≡ judged_reading g (length (joined_text rs)) r
whole_judged g text rs r x e m h =
    let w : WholeScan g rs r x = whole_scan g rs r x m h in
    rw (w.accepts, w.counted)
    (ap (λ t. judged_parts g t (layout_of (length (joined_text rs)) (tally_of r)) (tally_of r)) e ∙ parts_judged g (joined_text rs) r x)

-- Where it stands, the walk goes on by that judgement.
abbrev stepped : ℕ → Grammar → List ℕ → List Reading → Reading → Judgement → Walk
stepped most g text rs r j =
    onward j (length (joined_text rs)) (length (text_of r))
    (λ e. walk most g text (length (joined_text rs) + length (text_of r)) later (entries_at 0 rs ++ (e ∷ [])))

walk_whole : (most : ℕ) (g : Grammar) (text : List ℕ) (rs : List Reading) (r : Reading) (x : List ℕ) → text ≡ joined_text rs ++ (text_of r ++ x)
    → Shapes g (rs ++ (r ∷ [])) → bundles.Stops g (run g (start g) (text_of r)) x
    → walk_behind (suc most) g text rs ≡ stepped most g text rs r (judged_reading g (length (joined_text rs)) r)
walk_whole most g text rs r x e m h =
    let some : 0 < length (text_of r ++ x) = omega (arith, length-append (text_of r) x, text_long r) in
    let here = scan_here g text rs (text_of r ++ x) e in
    walk_on most g text (length (joined_text rs)) (start_behind g rs) (entries_at 0 rs) (goes_on text rs (text_of r ++ x) e some) _
    (ap (judged_message g text (length (joined_text rs))) here ∙ whole_judged g text rs r x e m h)
    ∙ rw (here, (whole_scan g rs r x m h).ends)

-- Behind a message that passed, the walk goes on.
behind_more : (g : Grammar) (rs : List Reading) (r : Reading) → later ≡ start_behind g (rs ++ (r ∷ []))
behind_more g [] r = refl
behind_more g (s ∷ rs) r = refl

walk_sound : (most : ℕ) (g : Grammar) (text : List ℕ) (rs : List Reading) (r : Reading) → Sound g r
    → stepped most g text rs r (judged_reading g (length (joined_text rs)) r) ≡ walk_behind most g text (rs ++ (r ∷ []))
walk_sound most g text rs r s =
    let n : length (joined_text rs) + length (text_of r) ≡ length (joined_text (rs ++ (r ∷ []))) = sym (ap length (joined_more rs r) ∙ length-append (joined_text rs) (text_of r)) in
    ap (stepped most g text rs r) (sound_judged g (length (joined_text rs)) r s)
    ∙ rw (n, behind_more g rs r)
    (ap (walk most g text (length (joined_text (rs ++ (r ∷ [])))) (start_behind g (rs ++ (r ∷ [])))) (sym (entries_more 0 rs r ∙ rw zero-add)))

-- A message that is not whole is refused where its scan stops.
walk_broken : (most : ℕ) (g : Grammar) (text : List ℕ) (rs : List Reading) (rest : List ℕ) → text ≡ joined_text rs ++ rest → 0 < length rest
    → accepting (scan_behind g rs rest).phase ≡ false
    → walk_behind (suc most) g text rs
    ≡ Err (grammar_refusal (part_of (scan_behind g rs rest).phase) (length (joined_text rs) + (scan_behind g rs rest).length))
walk_broken most g text rs rest e some a =
    let refused : Judgement = Err (grammar_refusal (part_of (scan_behind g rs rest).phase) (length (joined_text rs) + (scan_behind g rs rest).length)) in
    let judged : judged_message g text (length (joined_text rs)) (scan_behind g rs rest) ≡ refused = rw a in
    walk_on most g text (length (joined_text rs)) (start_behind g rs) (entries_at 0 rs) (goes_on text rs rest e some) refused
    (ap (judged_message g text (length (joined_text rs))) (scan_here g text rs rest e) ∙ judged)

-- ---- What a walk means

pub data Means (text : List ℕ) (number : ℕ) : Walk → Type 0 where
  passed : (g : Grammar) (rs : List Reading) → Passed text number g rs → Means text number (Ok (entries_at 0 rs))
  refused : {refusal : Refusal} → Refuses text number refusal → Means text number (Err refusal)

judged_end : (text : List ℕ) (number : ℕ) (g : Grammar) (rs : List Reading) → Judged text number g rs [] → Passed text number g rs
judged_end text number g rs j =
    record { admitted = j.admitted; joined = j.joined ∙ append-nil (joined_text rs); shapes = j.shapes; sound = j.sound }

judged_more : (text : List ℕ) (number : ℕ) (g : Grammar) (rs : List Reading) (r : Reading) (x : List ℕ) → Judged text number g rs (text_of r ++ x)
    → Shapes g (rs ++ (r ∷ [])) → bundles.Stops g (run g (start g) (text_of r)) x → Sound g r → Judged text number g (rs ++ (r ∷ [])) x
judged_more text number g rs r x j m h s =
    record {
      admitted = j.admitted;
      joined = j.joined ∙ sym (append_assoc (joined_text rs) (text_of r) x) ∙ ap (λ l. l ++ x) (sym (joined_more rs r));
      shapes = m;
      whole = unextended_all_whole g (rs ++ (r ∷ [])) x m (unextended_more g rs r x m (subst (λ u. bundles.Stops g u x) (sym (behind_run g rs r m)) h));
      sound = all_append (Sound g) rs (r ∷ []) j.sound (s, tt);
    }

walk_means : (text : List ℕ) (number : ℕ) (g : Grammar) (most : ℕ) (rs : List Reading) (rest : List ℕ) → length rest ≤ most
    → Judged text number g rs rest → Means text number (walk_behind most g text rs)
walk_means text number g zero rs [] h j = passed g rs (judged_end text number g rs j)
walk_means text number g zero rs (c ∷ rest) h j = absurd (omega arith)
walk_means text number g (suc most) rs [] h j =
    rw (walk_all (suc most) g text rs (judged_end text number g rs j).joined) (passed g rs (judged_end text number g rs j))
walk_means text number g (suc most) rs (c ∷ l) h j =
    go (accepting (scan_behind g rs (c ∷ l)).phase) refl (λ qs x. walk_means text number g most qs x)
  where
    unextended : Unextended g rs (c ∷ l)
    unextended = all_whole_unextended g rs (c ∷ l) j.whole

    whole : (r : Reading) (x : List ℕ) → length (text_of r ++ x) ≤ suc most → Judged text number g rs (text_of r ++ x) → Shapes g (rs ++ (r ∷ []))
        → bundles.Stops g (run g (start g) (text_of r)) x
        → ((qs : List Reading) (x : List ℕ) → length x ≤ most → Judged text number g qs x → Means text number (walk_behind most g text qs))
        → Means text number (walk_behind (suc most) g text rs)
    whole r x n k m s ih = rw (walk_whole most g text rs r x k.joined m s) (by_verdict _ refl (reading_judged g (length (joined_text rs)) r))
      where
        by_verdict : (v : Judgement) → judged_reading g (length (joined_text rs)) r ≡ v → Verdict g (length (joined_text rs)) r v
            → Means text number (stepped most g text rs r v)
        by_verdict v e (judgements.sound q) =
            subst (Means text number) (sym (walk_sound most g text rs r q) ∙ ap (stepped most g text rs r) e)
            (ih (rs ++ (r ∷ [])) x (omega (arith, length-append (text_of r) x, text_long r)) (judged_more text number g rs r x k m s q))
        by_verdict v e (judgements.fails f) = refused (meaning.message_fails g rs r x k m (stops_whole g r x s) f)

    go : (a : Bool) → accepting (scan_behind g rs (c ∷ l)).phase ≡ a
        → ((qs : List Reading) (x : List ℕ) → length x ≤ most → Judged text number g qs x → Means text number (walk_behind most g text qs))
        → Means text number (walk_behind (suc most) g text rs)
    go true a ih =
        let w : NextWhole g rs (c ∷ l) = next_whole g rs (c ∷ l) j.shapes a in
        whole w.reading w.behind (omega (arith, ap length w.joined)) (subst (Judged text number g rs) w.joined j) w.shapes w.stops ih
    go false a ih =
        let b = next_broken g rs (c ∷ l) j.shapes unextended a in
        rw (walk_broken most g text rs (c ∷ l) j.joined (omega arith) a)
        (refused
        (meaning.grammar_fails g rs (c ∷ l) _
        record {
          judged = j;
          none = subst (λ t. ¬ BundleParse g t) (sym j.joined) (b.none (λ e. nil≢cons (sym e)));
          longest = subst (λ t. LongestStart (BundleParse g) t (length (joined_text rs) + (scan_behind g rs (c ∷ l)).length)) (sym j.joined) b.longest;
          unfinished = b.unfinished;
        }
        (part_fails g _ _ _ b.tells)))

-- Checks 1 and 2 pass.
walk_known : (text : List ℕ) (number : ℕ) (g : Grammar) → Admitted text number g → walk_by (grammar_of number) text ≡ walk_of g text
walk_known text number g a = ap (λ n. walk_by n text) a.known ∙ rw (le-ltb text_limit (length text) a.short)

pub walk_by_means : (text : List ℕ) (number : ℕ) → Means text number (walk_by (grammar_of number) text)
walk_by_means text number = by_number (grammar_of number) refl
  where
    known : (g : Grammar) → grammar_of number ≡ Some g → (a : Bool) → ltb text_limit (length text) ≡ a → Means text number (walk_by (grammar_of number) text)
    known g e true long =
        rw (ap (λ n. walk_by n text) e) (rw long (refused (meaning.not_admitted (rows.text_too_long g e (ltb-true text_limit (length text) long)))))
    known g e false short =
        let a : Admitted text number g = record { known = e; short = ltb-false text_limit (length text) short } in
        rw (walk_known text number g a)
        (walk_means text number g (length text) [] text (omega arith) record { admitted = a; joined = refl; shapes = tt; whole = tt; sound = tt })

    by_number : (n : Option Grammar) → grammar_of number ≡ n → Means text number (walk_by (grammar_of number) text)
    by_number None e = rw (ap (λ n. walk_by n text) e) (refused (meaning.not_admitted (rows.unknown_grammar e)))
    by_number (Some g) e = known g e (ltb text_limit (length text)) refl

-- ---- Each row leaves one walk only

-- The walk over messages that are whole and pass.
record Over (g : Grammar) (text : List ℕ) (rs : List Reading) (rest : List ℕ) (from : Walk) : Type 0 where
  most : ℕ
  enough : length rest ≤ most
  same : from ≡ walk_behind most g text rs

walk_over : (g : Grammar) (text : List ℕ) (most : ℕ) (done rs : List Reading) (rest : List ℕ) → text ≡ joined_text done ++ (joined_text rs ++ rest)
    → Shapes g (done ++ rs) → AllWhole g rs rest → All (Sound g) rs → length (joined_text rs ++ rest) ≤ most
    → Over g text (done ++ rs) rest (walk_behind most g text done)
walk_over g text most done [] rest e m w s n = record { most = most; enough = n; same = ap (walk_behind most g text) (sym (append-nil done)) }
walk_over g text zero done (r ∷ rs) rest e m w s n =
    absurd (omega (arith, text_long r, length-append (text_of r ++ joined_text rs) rest, length-append (text_of r) (joined_text rs)))
walk_over g text (suc most) done (r ∷ rs) rest e m w s n =
    let x : List ℕ = joined_text rs ++ rest in
    let assoc : (text_of r ++ joined_text rs) ++ rest ≡ text_of r ++ x = append_assoc (text_of r) (joined_text rs) rest in
    let cut : text ≡ joined_text done ++ (text_of r ++ x) = e ∙ ap (λ l. joined_text done ++ l) assoc in
    let moved : done ++ (r ∷ rs) ≡ (done ++ (r ∷ [])) ++ rs = sym (append_assoc done (r ∷ []) rs) in
    let shapes : Shapes g ((done ++ (r ∷ [])) ++ rs) = subst (Shapes g) moved m in
    let further : text ≡ joined_text (done ++ (r ∷ [])) ++ x = cut ∙ sym (append_assoc (joined_text done) (text_of r) x) ∙ ap (λ l. l ++ x) (sym (joined_more done r)) in
    let step : walk_behind (suc most) g text done ≡ walk_behind most g text (done ++ (r ∷ [])) = walk_whole most g text done r x cut (front_shapes g (done ++ (r ∷ [])) rs shapes) (whole_stops g r x w.0)
    ∙ walk_sound most g text done r s.0 in
    let o : Over g text ((done ++ (r ∷ [])) ++ rs) rest (walk_behind most g text (done ++ (r ∷ []))) = walk_over g text most (done ++ (r ∷ [])) rs rest further shapes w.1 s.1 (omega (arith, ap length assoc, length-append (text_of r) x, text_long r)) in
    record { most = o.most; enough = o.enough; same = step ∙ o.same ∙ ap (walk_behind o.most g text) (sym moved) }

judged_over : (text : List ℕ) (number : ℕ) (g : Grammar) (rs : List Reading) (rest : List ℕ) → Judged text number g rs rest
    → Over g text rs rest (walk_by (grammar_of number) text)
judged_over text number g rs rest j =
    let o : Over g text rs rest (walk_of g text) = walk_over g text (length text) [] rs rest j.joined j.shapes j.whole j.sound (omega (arith, ap length j.joined)) in
    record { most = o.most; enough = o.enough; same = walk_known text number g j.admitted ∙ o.same }

pub passed_walk : (text : List ℕ) (number : ℕ) (g : Grammar) (rs : List Reading) → Passed text number g rs
    → walk_by (grammar_of number) text ≡ Ok (entries_at 0 rs)
passed_walk text number g rs p =
    let j : Judged text number g rs [] = record {
      admitted = p.admitted;
      joined = p.joined ∙ sym (append-nil (joined_text rs));
      shapes = p.shapes;
      whole = unextended_all_whole g rs [] p.shapes (unextended_end g rs);
      sound = p.sound;
    } in
    let o = judged_over text number g rs [] j in
    o.same ∙ walk_all o.most g text rs p.joined

-- Something has a byte.
some_bytes : (l : List ℕ) → l ≢ [] → 0 < length l
some_bytes [] n = absurd (n refl)
some_bytes (c ∷ l) n = omega arith

-- What stands behind the judged messages of a broken text.
broken_rest : (text : List ℕ) (number : ℕ) (g : Grammar) (rs : List Reading) (rest : List ℕ) (k : ℕ) → Broken text number g rs rest k → rest ≢ []
broken_rest text number g rs rest k b e =
    b.none
    record { readings = rs; joined = b.judged.joined ∙ ap (λ l. joined_text rs ++ l) e ∙ append-nil (joined_text rs); shapes = b.judged.shapes }

-- No message is whole there.
broken_refuses : (text : List ℕ) (number : ℕ) (g : Grammar) (rs : List Reading) (rest : List ℕ) (k : ℕ) → Broken text number g rs rest k
    → accepting (scan_behind g rs rest).phase ≡ false
broken_refuses text number g rs rest k b = go (accepting (scan_behind g rs rest).phase) refl
  where
    longer : (r : Reading) (x : List ℕ) → rest ≡ text_of r ++ x → Shapes g (rs ++ (r ∷ [])) → (c : Bool) → ltb k (length (text_of r)) ≡ c → ⊥
    longer r x e m true h =
        let n : ℕ = length (joined_text rs) + length (text_of r) in
        let whole : text ≡ joined_text (rs ++ (r ∷ [])) ++ x = b.judged.joined ∙ ap (λ l. joined_text rs ++ l) e ∙ sym (append_assoc (joined_text rs) (text_of r) x) ∙ ap (λ l. l ++ x) (sym (joined_more rs r)) in
        let size : n ≡ length (joined_text (rs ++ (r ∷ []))) = sym (ap length (joined_more rs r) ∙ length-append (joined_text rs) (text_of r)) in
        let front : take n text ≡ joined_text (rs ++ (r ∷ [])) = ap (take n) whole ∙ take_at (joined_text (rs ++ (r ∷ []))) x n (sym size) in
        b.longest.longest n
        (omega (arith, ltb-true k (length (text_of r)) h))
        (omega (arith, size, ap length whole, length-append (joined_text (rs ++ (r ∷ []))) x))
        record { rest = []; whole = record { readings = rs ++ (r ∷ []); joined = append-nil (take n text) ∙ front; shapes = m } }
    longer r x e m false h =
        let sum : k ≡ length (text_of r) + (k - length (text_of r)) = omega (arith, ltb-false k (length (text_of r)) h) in
        b.unfinished r (take (k - length (text_of r)) x) (next_shape g rs r [] m)
        (ap (take k) e ∙ ap (λ i. take i (text_of r ++ x)) sum ∙ take-append-add (text_of r) x (k - length (text_of r)))

    go : (a : Bool) → accepting (scan_behind g rs rest).phase ≡ a → a ≡ false
    go true a =
        let w : NextWhole g rs rest = next_whole g rs rest b.judged.shapes a in
        absurd (longer w.reading w.behind w.joined w.shapes (ltb k (length (text_of w.reading))) refl)
    go false a = refl

-- The scan of what stands there stops at its longest start, and tells which part of the message it was reading.
pub broken_tells : (text : List ℕ) (number : ℕ) (g : Grammar) (rs : List Reading) (rest : List ℕ) (k : ℕ) → Broken text number g rs rest k
    → ((scan_behind g rs rest).length ≡ k) × Tells g (take k rest) (part_of (scan_behind g rs rest).phase)
broken_tells text number g rs rest k b =
    let next = next_broken g rs rest b.judged.shapes (all_whole_unextended g rs rest b.judged.whole) (broken_refuses text number g rs rest k b) in
    let q : length (joined_text rs) + (scan_behind g rs rest).length ≡ length (joined_text rs) + k = longest_unique _ _ next.longest (subst (λ t. LongestStart (BundleParse g) t (length (joined_text rs) + k)) b.judged.joined b.longest) in
    let same : (scan_behind g rs rest).length ≡ k = omega (arith, q) in
    (same, subst (λ i. Tells g (take i rest) (part_of (scan_behind g rs rest).phase)) same next.tells)

pub refuses_walk : (text : List ℕ) (number : ℕ) (refusal : Refusal) → Refuses text number refusal → walk_by (grammar_of number) text ≡ Err refusal
refuses_walk text number refusal (meaning.not_admitted (rows.unknown_grammar e)) = ap (λ n. walk_by n text) e
refuses_walk text number refusal (meaning.not_admitted (rows.text_too_long g e h)) =
    ap (λ n. walk_by n text) e ∙ rw (lt-ltb text_limit (length text) h)
refuses_walk text number refusal (meaning.message_fails g rs r x j m w f) =
    let o = judged_over text number g rs (text_of r ++ x) j in
    o.same ∙ last o.most o.enough
  where
    last : (most : ℕ) → length (text_of r ++ x) ≤ most → walk_behind most g text rs ≡ Err refusal
    last zero n = absurd (omega (arith, length-append (text_of r) x, text_long r))
    last (suc most) n =
        walk_whole most g text rs r x j.joined m (whole_stops g r x w)
        ∙ ap (stepped most g text rs r) (fails_judged g (length (joined_text rs)) r refusal f)
refuses_walk text number refusal (meaning.grammar_fails g rs rest k b f) =
    let o = judged_over text number g rs rest b.judged in
    o.same ∙ last o.most o.enough
  where
    some : 0 < length rest
    some = some_bytes rest (broken_rest text number g rs rest k b)

    last : (most : ℕ) → length rest ≤ most → walk_behind most g text rs ≡ Err refusal
    last zero n = absurd (omega (arith, some))
    last (suc most) n =
        let (same, tells) = broken_tells text number g rs rest k b in
        let p : Part = part_of (scan_behind g rs rest).phase in
        walk_broken most g text rs rest b.judged.joined some (broken_refuses text number g rs rest k b)
        ∙ ap (λ i. Err (grammar_refusal p (length (joined_text rs) + i))) same
        ∙ ap Err (fails_part g (take k rest) (length (joined_text rs) + k) p refusal tells f)

-- ---- The call

passed_answer : (rs : List Reading) (room : ℕ) → size_for (length rs) ≤ room
    → (answered (Ok (entries_at 0 rs)) room ≡ Ok (table_size (size_for (length rs))))
    × (tabled (Ok (entries_at 0 rs)) room ≡ table_of rs ++ replicate (room - size_for (length rs)) 0)
passed_answer rs room h =
    let t : ltb room (size_for (length rs)) ≡ false = le-ltb room (size_for (length rs)) h in
    (rw (entries_length 0 rs, t), rw (entries_length 0 rs, t, entries_numbers 0 rs))

small_answer : (rs : List Reading) (room : ℕ) → room < size_for (length rs)
    → (answered (Ok (entries_at 0 rs)) room ≡ Err (TooSmall (table_size (size_for (length rs)))))
    × (tabled (Ok (entries_at 0 rs)) room ≡ replicate room 0)
small_answer rs room h =
    let t : ltb room (size_for (length rs)) ≡ true = lt-ltb room (size_for (length rs)) h in
    (rw (entries_length 0 rs, t), rw (entries_length 0 rs, t))

-- What `index` is defined to answer and to fill in is what the rows say.
pub index_means : (text : List ℕ) (number room : ℕ) → Indexes text number room (index_of text number room) (lent_table text number room)
index_means text number room = go (walk_by (grammar_of number) text) (walk_by_means text number)
  where
    fits : (g : Grammar) (rs : List Reading) → Passed text number g rs → (b : Bool) → ltb room (size_for (length rs)) ≡ b
        → Indexes text number room (answered (Ok (entries_at 0 rs)) room) (tabled (Ok (entries_at 0 rs)) room)
    fits g rs p true e =
        let h : room < size_for (length rs) = ltb-true room (size_for (length rs)) e in
        rw ((small_answer rs room h).0, (small_answer rs room h).1) (meaning.table_too_small g rs p h)
    fits g rs p false e =
        let h : size_for (length rs) ≤ room = ltb-false room (size_for (length rs)) e in
        rw ((passed_answer rs room h).0, (passed_answer rs room h).1) (meaning.accepted g rs p h)

    go : (w : Walk) → Means text number w → Indexes text number room (answered w room) (tabled w room)
    go w (passed g rs p) = fits g rs p (ltb room (size_for (length rs))) refl
    go w (refused f) = meaning.refused f

-- The rows leave no other answer and no other table.
pub indexes_index : (text : List ℕ) (number room : ℕ) (a : IndexAnswer) (t : List ℕ) → Indexes text number room a t
    → (a ≡ index_of text number room) × (t ≡ lent_table text number room)
indexes_index text number room a t (meaning.accepted g rs p h) =
    let w = passed_walk text number g rs p in
    (sym (ap (λ x. answered x room) w ∙ (passed_answer rs room h).0), sym (ap (λ x. tabled x room) w ∙ (passed_answer rs room h).1))
indexes_index text number room a t (meaning.refused {refusal} f) =
    let w = refuses_walk text number refusal f in
    (sym (ap (λ x. answered x room) w), sym (ap (λ x. tabled x room) w))
indexes_index text number room a t (meaning.table_too_small g rs p h) =
    let w = passed_walk text number g rs p in
    (sym (ap (λ x. answered x room) w ∙ (small_answer rs room h).0), sym (ap (λ x. tabled x room) w ∙ (small_answer rs room h).1))

pub indexes_unique : (text : List ℕ) (number room : ℕ) (a b : IndexAnswer) (s t : List ℕ) → Indexes text number room a s → Indexes text number room b t
    → (a ≡ b) × (s ≡ t)
indexes_unique text number room a b s t h k =
    let x = indexes_index text number room a s h in
    let y = indexes_index text number room b t k in
    (x.0 ∙ sym y.0, x.1 ∙ sym y.1)
