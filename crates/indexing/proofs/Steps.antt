-- One message of a bundle, behind others: what its scan reads where it is whole, and where it is not. Assumes nothing.
use mathlib.Core.Path.{◌≡◌, refl, sym, ap, ◌∙◌, subst}
use mathlib.Core.Logic.{◌≢◌, ◌⊎◌, inl, inr}
use mathlib.Core.Bool.{Bool, true, false, true≢false}
use mathlib.Core.List.{List, [], ◌∷◌, ◌++◌, append-nil}
use Prim.Native.Nat.{ℕ, suc, ◌+◌, ◌≤◌}
use lib.Dec.{ltb}
use lib.ListN.{length, take, drop, get_or, length-append, length-take, take-append-drop, drop_of_length-le}
use lib.Seq.{take_all, take-length, take-suc, drop-cons}
use native.Mathlib.Omega.{arith}
use borrow.Author.Tests.{ltb-true, ltb-false}
use Rattle.base_64.proofs.Lists.{all_back}
use Rattle.grammar.specs.Marks.{begin, hyphens, opening, hyphen}
use Rattle.grammar.specs.Message.{Reading, text_of, Shape}
use Rattle.grammar.specs.Bundle.{joined_text, Later, Shapes}
use Rattle.grammar.specs.Starts.{BundleParse, LongestStart, HasOpening, HasClosing}
use Rattle.grammar.specs.declared.Grammar.{Grammar}
use Rattle.grammar.proofs.Message.{reading_unique}
use Rattle.grammar.proofs.Bundle.{text_some, later_shapes, next_shape}
use Rattle.machine.proofs.Machine.{run, start, part_of, dead, accepting}
use Rattle.machine.specs.declared.Phase.TheVariants.{Dead}
use Rattle.machine.specs.declared.State.{State}
use Rattle.machine.proofs.Runs.{run_append}
use Rattle.machine.proofs.Bundles as bundles
use Rattle.machine.proofs.Bundles.{later_same, prefix_same, shape_accepted, accepting_lives, Unextended, start_behind, accepted_more, bundle_longest, rest_later, behind_accepts}
use Rattle.reading.specs.Scan.{no_tally, scan_of}
use Rattle.reading.specs.declared.Scan.{Scan}
use Rattle.reading.proofs.Judgements.{Tells}
use Rattle.reading.proofs.Tallies.{tally_of, Stops, scan_stops}
use Rattle.reading.proofs.Whole.{scanned, front_same, MessageRead, message_read, start_live, live_not_dead, reached_phase, not_dead, scan_tells}
use Rattle.reading.proofs.Meaning.{longest_unique}
use Rattle.indexing.specs.Index.{StartState}
use Rattle.indexing.proofs.Scans.{NextScan, same, nothing, next_scan, accepting_scan}

-- ---- The scan behind messages

pub behind_state : (g : Grammar) (rs : List Reading) → StartState g (start_behind g rs)
behind_state g [] = inl refl
behind_state g (r ∷ rs) = inr refl

behind_live : (g : Grammar) (rs : List Reading) → dead (start_behind g rs).phase ≡ false
behind_live g [] = start_live g
behind_live g (r ∷ rs) = refl

abbrev pub scan_behind : Grammar → List Reading → List ℕ → Scan
scan_behind g rs rest = scan_of g (start_behind g rs) 0 no_tally rest

stop : (g : Grammar) (rs : List Reading) (rest : List ℕ) → Stops g (start_behind g rs) 0 no_tally rest (scan_behind g rs rest)
stop g rs rest = scan_stops g (start_behind g rs) 0 no_tally rest (behind_live g rs)

-- Where a scan stops, nothing stands behind or a byte that kills.
ends_stops : (g : Grammar) (s : State) (l : List ℕ) (k : ℕ) → k ≤ length l → (k ≡ length l) ⊎ ((run g s (take (suc k) l)).phase ≡ Dead)
    → bundles.Stops g (run g s (take k l)) (drop k l)
ends_stops g s l k w e = go (ltb k (length l)) refl e
  where
    go : (b : Bool) → ltb k (length l) ≡ b → (k ≡ length l) ⊎ ((run g s (take (suc k) l)).phase ≡ Dead)
        → bundles.Stops g (run g s (take k l)) (drop k l)
    go false h e = rw (drop_of_length-le l (ltb-false _ _ h)) tt
    go true h (inl q) = absurd (omega (arith, ltb-true k (length l) h))
    go true h (inr q) =
        rw (drop-cons l k 0 (ltb-true _ _ h))
        (ap (λ (u : State). u.phase) (sym (run_append g s (take k l) (get_or l k 0 ∷ [])))
        ∙ ap (λ m. (run g s m).phase) (sym (take-suc l k 0 (ltb-true _ _ h)))
        ∙ q)

-- A message behind others is read as if it were the first.
pub behind_run : (g : Grammar) (rs : List Reading) (r : Reading) → Shapes g (rs ++ (r ∷ [])) → run g (start_behind g rs) (text_of r) ≡ run g (start g) (text_of r)
behind_run g [] r m = refl
behind_run g (s ∷ rs) r m = later_same g r (all_back (Later g) rs (r ∷ []) m.1).0

-- ---- A whole message

-- The scan of a message that is whole: its numbers are those of the message's parts.
pub record WholeScan (g : Grammar) (rs : List Reading) (r : Reading) (x : List ℕ) : Type 0 where
  pub accepts : accepting (scan_behind g rs (text_of r ++ x)).phase ≡ true
  pub ends : (scan_behind g rs (text_of r ++ x)).length ≡ length (text_of r)
  pub counted : (scan_behind g rs (text_of r ++ x)).tally ≡ tally_of r

pub whole_scan : (g : Grammar) (rs : List Reading) (r : Reading) (x : List ℕ) → Shapes g (rs ++ (r ∷ []))
    → bundles.Stops g (run g (start g) (text_of r)) x → WholeScan g rs r x
whole_scan g rs r x m h =
    let rest : List ℕ = text_of r ++ x in
    let s : State = start_behind g rs in
    let t = stop g rs rest in
    let a : accepting (run g s (text_of r)).phase ≡ true = ap (λ (u : State). accepting u.phase) (behind_run g rs r m) ∙ shape_accepted g r (next_shape g rs r [] m) in
    let cut : take t.bytes rest ≡ text_of r = (prefix_same g s (take t.bytes rest) (text_of r) (drop t.bytes rest) x
    (live_not_dead _ (sym (ap dead t.reached) ∙ t.lives))
    (accepting_lives _ a)
    (ends_stops g s rest t.bytes t.within t.ends)
    (rw (behind_run g rs r m) h)
    (take-append-drop t.bytes rest)).0 in
    let yes : accepting (scan_behind g rs rest).phase ≡ true = ap accepting (t.reached ∙ ap (λ l. (run g s l).phase) cut) ∙ a in
    let long : (scan_behind g rs rest).length ≡ length (text_of r) = omega (arith, t.counted, t.within, length-take t.bytes rest, ap length cut) in
    let e : scan_behind g rs rest ≡ scanned g rest = accepting_scan g s rest (behind_state g rs) yes in
    let q : MessageRead g rest = message_read g rest (sym (ap (λ (u : Scan). accepting u.phase) e) ∙ yes) in
    let texts : text_of q.reading ≡ text_of r = front_same (text_of q.reading) q.rest (text_of r) x (sym q.joined) (sym q.ends ∙ sym (ap (λ (u : Scan). u.length) e) ∙ long) in
    record {
      accepts = yes;
      ends = long;
      counted = ap (λ (u : Scan). u.tally) e ∙ q.counted ∙ ap tally_of (reading_unique g g q.shape (next_shape g rs r [] m) texts);
    }

-- Where the machine accepts what the scan has read, a whole message stands there.
pub record NextWhole (g : Grammar) (rs : List Reading) (rest : List ℕ) : Type 0 where
  pub reading : Reading
  pub behind : List ℕ
  pub joined : rest ≡ text_of reading ++ behind
  pub shapes : Shapes g (rs ++ (reading ∷ []))
  pub stops : bundles.Stops g (run g (start g) (text_of reading)) behind
  pub ends : (scan_behind g rs rest).length ≡ length (text_of reading)

pub next_whole : (g : Grammar) (rs : List Reading) (rest : List ℕ) → Shapes g rs → accepting (scan_behind g rs rest).phase ≡ true → NextWhole g rs rest
next_whole g rs rest m a =
    let s : State = start_behind g rs in
    let t = stop g rs rest in
    let k : ℕ = t.bytes in
    let p = accepted_more g rs (take k rest) m (sym (ap accepting t.reached) ∙ a) in
    let r : Reading = p.0 in
    record {
      reading = r;
      behind = drop k rest;
      joined = sym (take-append-drop k rest) ∙ ap (λ l. l ++ drop k rest) p.1;
      shapes = p.2;
      stops =
          subst (λ u. bundles.Stops g u (drop k rest)) (ap (run g s) p.1 ∙ behind_run g rs r p.2) (ends_stops g s rest k t.within t.ends);
      ends = omega (arith, t.counted, t.within, length-take k rest, ap length p.1);
    }

-- ---- A message that is not whole

-- Nothing has no opening and no closing.
nothing_opened : (g : Grammar) → ¬ HasOpening g []
nothing_opened g o =
    omega (
      arith,
      ap length o.joined,
      length-append o.before (opening o.label ++ o.rest),
      length-append (opening o.label) o.rest,
      length-append begin (o.label ++ hyphens),
    )

nothing_closed : (g : Grammar) → ¬ HasClosing g []
nothing_closed g o =
    nothing_opened g
    record { before = o.before; label = o.label; rest = o.body ++ (hyphen ∷ o.rest); joined = o.joined; is_before = o.is_before; is_label = o.is_label }

next_tells : (g : Grammar) (rest : List ℕ) (s : Scan) → NextScan g rest s → Tells g (take s.length rest) (part_of s.phase)
next_tells g rest s same = scan_tells g rest
next_tells g rest s nothing =
    record {
      has_opening = λ h. absurd (omega arith);
      has_closing = λ h. absurd (omega arith);
      no_opening = λ h. nothing_opened g;
      no_closing = λ h. nothing_closed g;
    }

-- What the scan has read has no whole message.
next_unfinished : (g : Grammar) (rest : List ℕ) (s : Scan) → NextScan g rest s → accepting s.phase ≡ false → (r : Reading) (x : List ℕ) → Shape g r
    → take s.length rest ≢ text_of r ++ x
next_unfinished g rest s same a r x m e =
    let p : run g (start g) (take (scanned g rest).length rest) ≡ run g (run g (start g) (text_of r)) x = ap (run g (start g)) e ∙ run_append g (start g) (text_of r) x in
    let q : accepting (run g (run g (start g) (text_of r)) x).phase ≡ true = behind_accepts g (run g (start g) (text_of r)) x (shape_accepted g r m) (rw p at (not_dead g rest)) in
    true≢false (sym q ∙ sym (ap (λ (u : State). accepting u.phase) p) ∙ sym (ap accepting (reached_phase g rest)) ∙ a)
next_unfinished g rest s nothing a r x m e = text_some r x e

-- A bundle is its own longest start.
bundle_whole : (g : Grammar) (text : List ℕ) → BundleParse g text → LongestStart (BundleParse g) text (length text)
bundle_whole g text p =
    let e : take (length text) text ++ [] ≡ text = append-nil (take (length text) text) ∙ take-length text in
    record { within = omega arith; begins = record { rest = []; whole = rw e p }; longest = λ m low high b. omega arith }

-- What a bundle has behind some of its messages is a bundle.
rest_bundle : (g : Grammar) (rs ss : List Reading) (x : List ℕ) → Shapes g rs → Shapes g ss → Unextended g rs x → joined_text rs ++ x ≡ joined_text ss
    → (ts : List Reading) × Shapes g ts × (x ≡ joined_text ts)
rest_bundle g [] ss x m n h e = (ss, n, e)
rest_bundle g (r ∷ rs) ss x m n h e =
    let t = rest_later g r rs ss x m n h e in
    (t.0, later_shapes g t.0 t.1, t.2)

-- The next message, where the machine does not accept what the scan has read of it.
pub record NextBroken (g : Grammar) (rs : List Reading) (rest : List ℕ) (k : ℕ) : Type 0 where
  pub longest : LongestStart (BundleParse g) (joined_text rs ++ rest) (length (joined_text rs) + k)
  pub tells : Tells g (take k rest) (part_of (scan_behind g rs rest).phase)
  pub unfinished : (r : Reading) (x : List ℕ) → Shape g r → take k rest ≢ text_of r ++ x
  pub none : rest ≢ [] → ¬ BundleParse g (joined_text rs ++ rest)

pub next_broken : (g : Grammar) (rs : List Reading) (rest : List ℕ) → Shapes g rs → Unextended g rs rest
    → accepting (scan_behind g rs rest).phase ≡ false → NextBroken g rs rest (scan_behind g rs rest).length
next_broken g rs rest m h a =
    record { longest = longest; tells = next_tells g rest _ next; unfinished = next_unfinished g rest _ next a; none = λ n p. no_bundle n p }
  where
    next : NextScan g rest (scan_behind g rs rest)
    next = next_scan g (start_behind g rs) rest (behind_state g rs)

    longest : LongestStart (BundleParse g) (joined_text rs ++ rest) (length (joined_text rs) + (scan_behind g rs rest).length)
    longest =
        let t = stop g rs rest in
        let e : (scan_behind g rs rest).length ≡ t.bytes = omega (arith, t.counted) in
        rw e
        (bundle_longest g rs rest t.bytes m h t.within
        (live_not_dead _ (sym (ap dead t.reached) ∙ t.lives))
        t.ends
        (inr (sym (ap accepting t.reached) ∙ a)))

    no_bundle : rest ≢ [] → ¬ BundleParse g (joined_text rs ++ rest)
    no_bundle n p = go ts.0 ts.1 ts.2
      where
        ts : (ts : List Reading) × Shapes g ts × (rest ≡ joined_text ts)
        ts = rest_bundle g rs p.readings rest m p.shapes h p.joined

        all : take (scan_behind g rs rest).length rest ≡ rest
        all =
            let q = longest_unique _ _ longest (bundle_whole g (joined_text rs ++ rest) p) in
            take_all (scan_behind g rs rest).length rest (omega (arith, q, length-append (joined_text rs) rest))

        go : (ts : List Reading) → Shapes g ts → ¬ (rest ≡ joined_text ts)
        go [] k e = n e
        go (t ∷ ts) k e = next_unfinished g rest _ next a t (joined_text ts) k.0 (all ∙ e)
