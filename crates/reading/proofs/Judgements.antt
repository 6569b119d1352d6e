-- The checks 3 to 9 of one message, wherever it stands in a text: what the tests answer is what the rows say, and the rows
-- leave one answer only. Assumes nothing.
use mathlib.Core.Path.{◌≡◌, refl, sym, ap, ◌∙◌}
use mathlib.Core.Logic.{◌≢◌}
use mathlib.Core.Bool.{Bool, true, false, cond, true≢false}
use mathlib.Core.List.{List, [], ◌++◌}
use Prim.Native.Nat.{ℕ, ◌+◌, ◌≤◌}
use lib.Dec.{eqb, ltb}
use lib.ListN.{length, get_or}
use native.Mathlib.Omega.{arith}
use borrow.Author.Tests.{eqb-true, eq-eqb, ltb-true, ltb-false, lt-ltb, le-ltb}
use Rattle.base_64.specs.Lists.{same_bytes}
use Rattle.base_64.specs.Alphabet.{value_of}
use Rattle.base_64.specs.Groups.{CountsFit, values_of, spare_bits}
use Rattle.base_64.proofs.Lists.{same_refl, same_true, same_false}
use Rattle.base_64.proofs.Groups.{length_decode}
use Rattle.grammar.specs.Marks.{opening, closing}
use Rattle.grammar.specs.Families.{family_of}
use Rattle.grammar.specs.Message as message
use Rattle.grammar.specs.Message.{Reading, text_of, characters, pad_count, data_of}
use Rattle.grammar.specs.Starts.{HasOpening, HasClosing}
use Rattle.grammar.specs.declared.Grammar.{Grammar}
use Rattle.grammar.specs.declared.Grammar.TheVariants.{Lax, Standard, Strict}
use Rattle.machine.specs.declared.Part.{Part}
use Rattle.machine.specs.declared.Part.TheVariants as part
use Rattle.machine.proofs.Parts.{rank}
use Rattle.reading.specs.Limits.{label_limit}
use Rattle.reading.specs.Answers.{offset, byte_count}
use Rattle.reading.specs.Meaning as rows
use Rattle.reading.specs.Meaning.{label_start, body_start, closing_start, closing_label_start, Sound, GrammarFails, MessageFails}
use Rattle.reading.specs.Data.{spare_of}
use Rattle.reading.specs.Ends.{ends_in, counted_style}
use Rattle.reading.specs.Layouts.{layout_of}
use Rattle.reading.specs.Read.{Judgement, grammar_refusal, counts_fit, spare_asked, spare_clear, judged_parts}
use Rattle.reading.specs.declared.Found.{Found}
use Rattle.std.specs.Prelude.{Ok, Err}
use Rattle.reading.specs.declared.Refusal.{Refusal}
use Rattle.reading.specs.declared.Refusal.TheVariants.{BadOpening, BadBody, BadClosing, LabelTooLong, LabelsDiffer, BadCounts, SpareBits}
use Rattle.reading.proofs.Tallies.{last_index, tally_of, LastCharacter, last_character, last_index_lem, spare_text}
use Rattle.reading.proofs.Places.{reading_layout, layout_reading, label_part, body_cut, body_front, closing_label_part}
use Rattle.reading.proofs.Checks.{counts_fit_true, counts_fit_test}

-- ---- The checks 6 to 9 of a reading

abbrev spare_test : Grammar → List ℕ → Bool
spare_test g cs = spare_asked g (eqb (spare_bits (values_of cs)) 0)

abbrev pub reading_found : ℕ → Reading → Found
reading_found from r =
    record { size = byte_count (length (data_of r)); label = (reading_layout from r).opened; family = family_of r.opening_label }

abbrev pub sound_reading : ℕ → Reading → Judgement
sound_reading from r = Ok record { layout = reading_layout from r; found = reading_found from r; style = counted_style (ends_in (text_of r)) }

abbrev pub judged_reading : Grammar → ℕ → Reading → Judgement
judged_reading g from r =
    cond
    (ltb label_limit (length r.opening_label))
    (Err (LabelTooLong (offset (from + label_start r))))
    (cond
    (same_bytes r.opening_label r.closing_label)
    (cond
    (counts_fit (length (characters r.body)) (pad_count r.body))
    (cond
    (spare_test g (characters r.body))
    (sound_reading from r)
    (Err (SpareBits (offset (from + body_start r + last_index r.body)))))
    (Err (BadCounts (offset (from + closing_start r)))))
    (Err (LabelsDiffer (offset (from + closing_label_start r)))))

-- The spare bits that the last alphabet character shows are those of the characters.
spare_agrees : (front : List ℕ) (r : Reading) (back : List ℕ)
    → spare_of (length (characters r.body)) (value_of (get_or (front ++ (text_of r ++ back)) (length front + body_start r + last_index r.body) 0))
    ≡ spare_bits (values_of (characters r.body))
spare_agrees front r back =
    rw (body_cut front r back, sym (body_front front r))
    (sym (spare_text (front ++ (r.before ++ opening r.opening_label)) r.body (closing r.closing_label ++ (r.after ++ back))))

spare_clear_test : (g : Grammar) (front : List ℕ) (r : Reading) (back : List ℕ)
    → spare_clear g (front ++ (text_of r ++ back)) (reading_layout (length front) r) (tally_of r) ≡ spare_test g (characters r.body)
spare_clear_test g front r back = ap (λ n. spare_asked g (eqb n 0)) (spare_agrees front r back)

pub parts_judged : (g : Grammar) (front : List ℕ) (r : Reading) (back : List ℕ)
    → judged_parts g (front ++ (text_of r ++ back)) (layout_of (length front) (tally_of r)) (tally_of r) ≡ judged_reading g (length front) r
parts_judged g front r back =
    ap (λ l. judged_parts g (front ++ (text_of r ++ back)) l (tally_of r))
    (layout_reading (length front) r (length (characters r.body)) (pad_count r.body) (last_index r.body) (ends_in (text_of r)))
    ∙ rw (label_part front r back, closing_label_part front r back, spare_clear_test g front r back, sym (length_decode (characters r.body)))

-- ---- What a judgement of a reading means

pub data Verdict (g : Grammar) (from : ℕ) (r : Reading) : Judgement → Type 0 where
  sound : Sound g r → Verdict g from r (sound_reading from r)
  fails : {refusal : Refusal} → MessageFails g from r refusal → Verdict g from r (Err refusal)

-- Spare bits are zero as the grammar asks exactly where the test says so.
spare_test_true : (g : Grammar) (cs : List ℕ) → spare_test g cs ≡ true → message.SpareBits g cs
spare_test_true Lax cs e = tt
spare_test_true Standard cs e = eqb-true _ _ e
spare_test_true Strict cs e = eqb-true _ _ e

spare_test_passed : (g : Grammar) (cs : List ℕ) → message.SpareBits g cs → spare_test g cs ≡ true
spare_test_passed Lax cs h = refl
spare_test_passed Standard cs h = eq-eqb _ _ h
spare_test_passed Strict cs h = eq-eqb _ _ h

-- Spare bits that are not zero have a character.
spare_some : (g : Grammar) (l : List ℕ) → ¬ message.SpareBits g (characters l) → characters l ≢ []
spare_some Lax l n e = n tt
spare_some Standard l n e = n (rw e)
spare_some Strict l n e = n (rw e)

-- A test that is false refutes what passes it.
test_refutes : {b : Bool} {P : Type 0} → (P → b ≡ true) → b ≡ false → ¬ P
test_refutes f e p = true≢false (sym (f p) ∙ e)

pub reading_judged : (g : Grammar) (from : ℕ) (r : Reading) → Verdict g from r (judged_reading g from r)
reading_judged g from r =
    go
    (ltb label_limit (length r.opening_label))
    refl
    (same_bytes r.opening_label r.closing_label)
    refl
    (counts_fit (length (characters r.body)) (pad_count r.body))
    refl
    (spare_test g (characters r.body))
    refl
  where
    spare_fails : length r.opening_label ≤ label_limit → r.opening_label ≡ r.closing_label → CountsFit (length (characters r.body)) (pad_count r.body)
        → ¬ message.SpareBits g (characters r.body) → MessageFails g from r (SpareBits (offset (from + body_start r + last_index r.body)))
    spare_fails s e f n =
        let c : LastCharacter r.body = last_character r.body (spare_some g r.body n) in
        rw c.index (rows.spare_bits s e f n c.front c.char c.back c.joined c.is_char c.none_behind)

    go : (a : Bool) → ltb label_limit (length r.opening_label) ≡ a → (b : Bool) → same_bytes r.opening_label r.closing_label ≡ b → (c : Bool)
        → counts_fit (length (characters r.body)) (pad_count r.body) ≡ c → (d : Bool) → spare_test g (characters r.body) ≡ d
        → Verdict g from r
        (cond a (Err (LabelTooLong (offset (from + label_start r))))
        (cond b
        (cond c
        (cond d (sound_reading from r) (Err (SpareBits (offset (from + body_start r + last_index r.body)))))
        (Err (BadCounts (offset (from + closing_start r)))))
        (Err (LabelsDiffer (offset (from + closing_label_start r))))))
    go true ea b eb c ec d ed = fails (rows.label_too_long (ltb-true _ _ ea))
    go false ea false eb c ec d ed = fails (rows.labels_differ (ltb-false _ _ ea) (same_false _ _ eb))
    go false ea true eb false ec d ed = fails (rows.bad_counts (ltb-false _ _ ea) (same_true _ _ eb) (test_refutes (counts_fit_test _ _) ec))
    go false ea true eb true ec false ed =
        fails (spare_fails (ltb-false _ _ ea) (same_true _ _ eb) (counts_fit_true _ _ ec) (test_refutes (spare_test_passed g (characters r.body)) ed))
    go false ea true eb true ec true ed =
        sound
        record {
          short_label = ltb-false _ _ ea;
          consistent = record { labels = same_true _ _ eb; counts = counts_fit_true _ _ ec; spare = spare_test_true g (characters r.body) ed };
        }

-- ---- Each row leaves one judgement only

different : (a b : List ℕ) → a ≢ b → same_bytes a b ≡ false
different a b n = go (same_bytes a b) refl
  where
    go : (x : Bool) → same_bytes a b ≡ x → x ≡ false
    go true e = absurd (n (same_true a b e))
    go false e = refl

agreed : (a b : List ℕ) → a ≡ b → same_bytes a b ≡ true
agreed a b e = ap (same_bytes a) (sym e) ∙ same_refl a

-- A test that does not pass.
unpassed : (b : Bool) {P : Type 0} → (b ≡ true → P) → ¬ P → b ≡ false
unpassed true f n = absurd (n (f refl))
unpassed false f n = refl

pub fails_judged : (g : Grammar) (from : ℕ) (r : Reading) (refusal : Refusal) → MessageFails g from r refusal
    → judged_reading g from r ≡ Err refusal
fails_judged g from r refusal (rows.label_too_long h) = rw (lt-ltb label_limit (length r.opening_label) h)
fails_judged g from r refusal (rows.labels_differ s d) =
    rw (le-ltb label_limit (length r.opening_label) s, different r.opening_label r.closing_label d)
fails_judged g from r refusal (rows.bad_counts s e f) =
    rw (
      le-ltb label_limit (length r.opening_label) s,
      agreed r.opening_label r.closing_label e,
      unpassed (counts_fit (length (characters r.body)) (pad_count r.body)) (counts_fit_true _ _) f,
    )
fails_judged g from r refusal (rows.spare_bits s e f n a c b j k m) =
    rw (
      le-ltb label_limit (length r.opening_label) s,
      agreed r.opening_label r.closing_label e,
      counts_fit_test (length (characters r.body)) (pad_count r.body) f,
      unpassed (spare_test g (characters r.body)) (spare_test_true g (characters r.body)) n,
      last_index_lem r.body a c b j k m,
    )

pub sound_judged : (g : Grammar) (from : ℕ) (r : Reading) → Sound g r → judged_reading g from r ≡ sound_reading from r
sound_judged g from r s =
    rw (
      le-ltb label_limit (length r.opening_label) s.short_label,
      agreed r.opening_label r.closing_label s.consistent.labels,
      counts_fit_test (length (characters r.body)) (pad_count r.body) s.consistent.counts,
      spare_test_passed g (characters r.body) s.consistent.spare,
    )

-- ---- The part that was being read decides between 3, 4 and 5

-- What the part that is being read behind a start tells of the start.
pub record Tells (g : Grammar) (start : List ℕ) (q : Part) : Type 0 where
  pub has_opening : 2 ≤ rank q → HasOpening g start
  pub has_closing : 3 ≤ rank q → HasClosing g start
  pub no_opening : rank q ≤ 1 → ¬ HasOpening g start
  pub no_closing : rank q ≤ 2 → ¬ HasClosing g start

pub part_fails : (g : Grammar) (start : List ℕ) (place : ℕ) (q : Part) → Tells g start q → GrammarFails g start place (grammar_refusal q place)
part_fails g start place part.Before t = rows.bad_opening (t.no_opening (omega arith))
part_fails g start place part.Opening t = rows.bad_opening (t.no_opening (omega arith))
part_fails g start place part.Body t = rows.bad_body (t.has_opening (omega arith)) (t.no_closing (omega arith))
part_fails g start place part.Closing t = rows.bad_closing (t.has_closing (omega arith))
part_fails g start place part.After t = rows.bad_closing (t.has_closing (omega arith))

refusal_opening : (q : Part) (n : ℕ) → ¬ (2 ≤ rank q) → grammar_refusal q n ≡ BadOpening (offset n)
refusal_opening part.Before n h = refl
refusal_opening part.Opening n h = refl
refusal_opening part.Body n h = absurd (h (omega arith))
refusal_opening part.Closing n h = absurd (h (omega arith))
refusal_opening part.After n h = absurd (h (omega arith))

refusal_body : (q : Part) (n : ℕ) → ¬ (rank q ≤ 1) → ¬ (3 ≤ rank q) → grammar_refusal q n ≡ BadBody (offset n)
refusal_body part.Before n h k = absurd (h (omega arith))
refusal_body part.Opening n h k = absurd (h (omega arith))
refusal_body part.Body n h k = refl
refusal_body part.Closing n h k = absurd (k (omega arith))
refusal_body part.After n h k = absurd (k (omega arith))

refusal_closing : (q : Part) (n : ℕ) → ¬ (rank q ≤ 2) → grammar_refusal q n ≡ BadClosing (offset n)
refusal_closing part.Before n h = absurd (h (omega arith))
refusal_closing part.Opening n h = absurd (h (omega arith))
refusal_closing part.Body n h = absurd (h (omega arith))
refusal_closing part.Closing n h = refl
refusal_closing part.After n h = refl

pub fails_part : (g : Grammar) (start : List ℕ) (place : ℕ) (q : Part) (refusal : Refusal) → Tells g start q → GrammarFails g start place refusal
    → grammar_refusal q place ≡ refusal
fails_part g start place q refusal t (rows.bad_opening n) = refusal_opening q place (λ k. n (t.has_opening k))
fails_part g start place q refusal t (rows.bad_body o n) = refusal_body q place (λ k. t.no_opening k o) (λ k. n (t.has_closing k))
fails_part g start place q refusal t (rows.bad_closing c) = refusal_closing q place (λ k. t.no_closing k c)
