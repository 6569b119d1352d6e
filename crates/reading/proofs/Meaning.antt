-- What the calls' definitions answer is what the requirements' rows say, and the rows leave one answer only. Assumes nothing.
use mathlib.Core.Path.{◌≡◌, refl, sym, ap, ◌∙◌, subst}
use mathlib.Core.Bool.{Bool, true, false, true≢false}
use mathlib.Core.List.{List, [], ◌++◌, append-nil}
use Prim.Native.Nat.{ℕ, ◌+◌, ◌-◌, ◌≤◌, ◌<◌}
use lib.Dec.{ltb}
use lib.ListN.{length, take, drop, replicate}
use native.Mathlib.Omega.{arith}
use native.Mathlib.Nat.{zero-add}
use borrow.Author.Tests.{ltb-true, ltb-false, lt-ltb, le-ltb}
use Rattle.base_64.specs.Groups.{decode}
use Rattle.grammar.specs.LineEnds.{LineEnds, style_of}
use Rattle.grammar.specs.Grammars.{grammar_of}
use Rattle.grammar.specs.Message.{Reading, text_of, characters, data_of}
use Rattle.grammar.specs.Starts.{LongestStart}
use Rattle.grammar.specs.declared.LineEnding.{LineEnding}
use Rattle.grammar.specs.declared.Grammar.{Grammar}
use Rattle.grammar.specs.declared.Grammar.TheVariants as grammar
use Rattle.std.specs.Prelude.{Option, Some, None, Ok, Err}
use Rattle.output.specs.declared.CallError.TheVariants as error
use Rattle.grammar.proofs.LineEnds.{some_ends}
use Rattle.grammar.proofs.Message.{reading_unique}
use Rattle.machine.proofs.Machine.{part_of}
use Rattle.machine.specs.declared.Part.{Part}
use Rattle.reading.specs.Limits.{text_limit}
use Rattle.reading.specs.Meaning as rows
use Rattle.reading.specs.Meaning.{label_start, Admitted, Parsed, Broken, Passed, Refuses, found_of, Reads, HandsBack, HandsBackPlace, HandsBackPart}
use Rattle.reading.specs.Parts.{OwnPart}
use Rattle.reading.specs.Answers.{span, ReadAnswer}
use Rattle.reading.specs.Label.{label_span, label_span_of}
use Rattle.reading.specs.Ends.{ends_in, counted_style}
use Rattle.reading.specs.Layouts.{spanned, layout_of, TallyFits, Lies}
use Rattle.reading.specs.Read.{Judgement, grammar_refusal, is_whole, judged_parts, judged_scan, judged_by, judge_of, answered, read_of, written, output_of, label_in, label_of}
use Rattle.reading.specs.declared.Found.{Found}
use Rattle.reading.specs.declared.Refusal.{Refusal}
use Rattle.reading.specs.declared.Sound.{Sound}
use denote.Ref.{Bor}
use Rattle.reading.specs.declared.Span.{Span}
use Rattle.reading.proofs.Parts.{own_length, own_unique}
use Rattle.reading.proofs.Ends.{ends_found}
use Rattle.reading.proofs.Tallies.{tally_of}
use Rattle.reading.proofs.Places.{reading_fits, reading_layout, label_part, body_part, text_length, opening_length, closing_length}
use Rattle.reading.proofs.Judgements as judgements
use Rattle.reading.proofs.Judgements.{reading_found, sound_reading, judged_reading, parts_judged, Verdict, reading_judged, fails_judged, sound_judged, Tells, part_fails, fails_part}
use Rattle.reading.proofs.Whole.{scanned, WholeReading, whole_reading, parse_whole, scan_longest, scan_tells}

-- ---- The judgement of a text that has a reading

-- It stands between nothing and nothing.
alone : (text : List ℕ) (r : Reading) → text ≡ text_of r → text ≡ [] ++ (text_of r ++ [])
alone text r e = e ∙ sym (append-nil (text_of r))

judge_reading : (text : List ℕ) (number : ℕ) (g : Grammar) (r : Reading) → Parsed text number g r → judge_of text number ≡ judged_reading g 0 r
judge_reading text number g r p =
    let w : is_whole (scanned g text) (length text) ≡ true = parse_whole g text record { reading = r; joined = p.joined; shape = p.shape } in
    let q : WholeReading g text = whole_reading g text w in
    let same : q.reading ≡ r = reading_unique g g q.shape p.shape (sym q.joined ∙ p.joined) in
    ap (λ n. judged_by n text) p.admitted.known
    ∙ rw (le-ltb text_limit (length text) p.admitted.short, w)
    (ap (λ t. judged_parts g text (layout_of 0 t) t) (q.counted ∙ ap tally_of same)
    ∙ ap (λ l. judged_parts g l (layout_of 0 (tally_of r)) (tally_of r)) (alone text r p.joined)
    ∙ parts_judged g [] r [])

-- The judgement of a text within the limit that is none of the grammar.
judge_broken : (text : List ℕ) (number : ℕ) (g : Grammar) → Admitted text number g → is_whole (scanned g text) (length text) ≡ false
    → judge_of text number ≡ Err (grammar_refusal (part_of (scanned g text).phase) (scanned g text).length)
judge_broken text number g a w = ap (λ n. judged_by n text) a.known ∙ rw (le-ltb text_limit (length text) a.short, w)

-- ---- What each judgement means

pub data Judged (text : List ℕ) (number : ℕ) : Judgement → Type 0 where
  sound : (g : Grammar) (r : Reading) → Passed text number g r → Judged text number (sound_reading 0 r)
  refused : {refusal : Refusal} → Refuses text number refusal → Judged text number (Err refusal)

verdict_judged : (text : List ℕ) (number : ℕ) (g : Grammar) (r : Reading) → Parsed text number g r → (j : Judgement) → Verdict g 0 r j → Judged text number j
verdict_judged text number g r p j (judgements.sound s) = sound g r record { parsed = p; sound = s }
verdict_judged text number g r p j (judgements.fails f) = refused (rows.message_fails g r p f)

pub judge_means : (text : List ℕ) (number : ℕ) → Judged text number (judge_of text number)
judge_means text number = by_number (grammar_of number) refl
  where
    known : (g : Grammar) → grammar_of number ≡ Some g → (a : Bool) → ltb text_limit (length text) ≡ a → (w : Bool)
        → is_whole (scanned g text) (length text) ≡ w → Judged text number (judge_of text number)
    known g e true long w ew = subst (Judged text number) (sym (ap (λ n. judged_by n text) e ∙ rw long)) (refused (rows.not_admitted (rows.text_too_long g e (ltb-true _ _ long))))
    known g e false short true ew =
        let a : Admitted text number g = record { known = e; short = ltb-false _ _ short } in
        let q : WholeReading g text = whole_reading g text ew in
        let p : Parsed text number g q.reading = record { admitted = a; joined = q.joined; shape = q.shape } in
        subst (Judged text number) (sym (judge_reading text number g q.reading p)) (verdict_judged text number g q.reading p _ (reading_judged g 0 q.reading))
    known g e false short false ew =
        let a : Admitted text number g = record { known = e; short = ltb-false _ _ short } in
        subst
        (Judged text number)
        (sym (judge_broken text number g a ew))
        (refused
        (rows.grammar_fails g _
        record { admitted = a; none = λ p. true≢false (sym (parse_whole g text p) ∙ ew); longest = scan_longest g text }
        (part_fails g _ _ (part_of (scanned g text).phase) (scan_tells g text))))

    by_number : (n : Option Grammar) → grammar_of number ≡ n → Judged text number (judge_of text number)
    by_number None e = subst (Judged text number) (sym (ap (λ n. judged_by n text) e)) (refused (rows.not_admitted (rows.unknown_grammar e)))
    by_number (Some g) e = known g e (ltb text_limit (length text)) refl (is_whole (scanned g text) (length text)) refl

-- ---- Each row leaves one judgement only

-- A text has one longest start.
pub longest_unique : {Text : List ℕ → Type 0} {text : List ℕ} (m n : ℕ) → LongestStart Text text m → LongestStart Text text n → m ≡ n
longest_unique m n a b = go (ltb m n) refl (ltb n m) refl
  where
    go : (x : Bool) → ltb m n ≡ x → (y : Bool) → ltb n m ≡ y → m ≡ n
    go true e y f = absurd (a.longest n (ltb-true _ _ e) b.within b.begins)
    go false e true f = absurd (b.longest m (ltb-true _ _ f) a.within a.begins)
    go false e false f = omega (arith, ltb-false m n e, ltb-false n m f)

-- A broken text is refused at its longest start, by the part that was being read.
judge_row : (text : List ℕ) (number : ℕ) (g : Grammar) (n : ℕ) → Broken text number g n
    → (judge_of text number ≡ Err (grammar_refusal (part_of (scanned g text).phase) n)) × (n ≡ (scanned g text).length)
judge_row text number g n b = go (is_whole (scanned g text) (length text)) refl
  where
    same : n ≡ (scanned g text).length
    same = longest_unique n (scanned g text).length b.longest (scan_longest g text)

    go : (w : Bool) → is_whole (scanned g text) (length text) ≡ w
        → (judge_of text number ≡ Err (grammar_refusal (part_of (scanned g text).phase) n)) × (n ≡ (scanned g text).length)
    go true e =
        let q : WholeReading g text = whole_reading g text e in
        absurd (b.none record { reading = q.reading; joined = q.joined; shape = q.shape })
    go false e =
        (judge_broken text number g b.admitted e ∙ ap (λ k. Err (grammar_refusal (part_of (scanned g text).phase) k)) (sym same), same)

pub refuses_judge : (text : List ℕ) (number : ℕ) (refusal : Refusal) → Refuses text number refusal → judge_of text number ≡ Err refusal
refuses_judge text number refusal (rows.not_admitted (rows.unknown_grammar e)) = ap (λ n. judged_by n text) e
refuses_judge text number refusal (rows.not_admitted (rows.text_too_long g e h)) =
    ap (λ n. judged_by n text) e ∙ rw (lt-ltb text_limit (length text) h)
refuses_judge text number refusal (rows.grammar_fails g n b f) =
    let j = judge_row text number g n b in
    let q : Part = part_of (scanned g text).phase in
    j.0 ∙ ap Err (fails_part g (take n text) n q refusal (subst (λ k. Tells g (take k text) q) (sym j.1) (scan_tells g text)) f)
refuses_judge text number refusal (rows.message_fails g r p f) = judge_reading text number g r p ∙ fails_judged g 0 r refusal f

-- A text that passes the checks 1 and 2 is judged by its scan.
pub admitted_judge : (text : List ℕ) (number : ℕ) (g : Grammar) → Admitted text number g → judge_of text number ≡ judged_scan g text (scanned g text)
admitted_judge text number g a = ap (λ n. judged_by n text) a.known ∙ rw (le-ltb text_limit (length text) a.short)

pub passed_judge : (text : List ℕ) (number : ℕ) (g : Grammar) (r : Reading) → Passed text number g r
    → judge_of text number ≡ sound_reading 0 r
passed_judge text number g r p = judge_reading text number g r p.parsed ∙ sound_judged g 0 r p.sound

-- ---- The calls

-- The data of a reading's text is that of the reading's body.
data_in : (text : List ℕ) (r : Reading) → text ≡ text_of r → decode (characters (spanned text (reading_layout 0 r).body)) ≡ data_of r
data_in text r e =
    ap (λ t. decode (characters (spanned t (reading_layout 0 r).body))) (alone text r e) ∙ ap (λ l. decode (characters l)) (body_part [] r [])

-- What is reported of a reading that stands at the start.
found_in_lem : (r : Reading) → reading_found 0 r ≡ found_of r
found_in_lem r = rw zero-add

-- The answer and the output of a judgement that passed.
passed_answer : (text : List ℕ) (r : Reading) (room : ℕ) → text ≡ text_of r → length (data_of r) ≤ room → (ss : List LineEnding) → LineEnds text ss
    → (answered (sound_reading 0 r) room ≡ Ok record { found = found_of r; style = style_of ss })
    × (written (sound_reading 0 r) text room ≡ data_of r ++ replicate (room - length (data_of r)) 0)
passed_answer text r room e h ss l =
    let found : counted_style (ends_in (text_of r)) ≡ style_of ss = ap (λ t. counted_style (ends_in t)) (sym e) ∙ ends_found l in
    (rw (le-ltb room (length (data_of r)) h) (λ i. Ok record { found = found_in_lem r i; style = found i }), rw (le-ltb room (length (data_of r)) h, data_in text r e))

small_answer : (text : List ℕ) (r : Reading) (room : ℕ) → room < length (data_of r)
    → (answered (sound_reading 0 r) room ≡ Err (error.TooSmall (found_of r)))
    × (written (sound_reading 0 r) text room ≡ replicate room 0)
small_answer text r room h = (rw (lt-ltb room (length (data_of r)) h) (ap (λ (f : Found). Err (error.TooSmall f)) (found_in_lem r)), rw (lt-ltb room (length (data_of r)) h))

-- What `read` is defined to answer and to write is what the rows say.
pub read_means : (text : List ℕ) (number room : ℕ) → Reads text number room (read_of text number room) (output_of text number room)
read_means text number room = go (judge_of text number) (judge_means text number)
  where
    fits : (g : Grammar) (r : Reading) → Passed text number g r → (b : Bool) → ltb room (length (data_of r)) ≡ b
        → Reads text number room (answered (sound_reading 0 r) room) (written (sound_reading 0 r) text room)
    fits g r p true e =
        let w = small_answer text r room (ltb-true _ _ e) in
        rw (w.0, w.1) (rows.output_too_small g r p (ltb-true _ _ e))
    fits g r p false e =
        let (ss, l) = some_ends text in
        let w = passed_answer text r room p.parsed.joined (ltb-false _ _ e) ss l in
        rw (w.0, w.1) (rows.accepted g r p (ltb-false _ _ e) ss l)

    go : (j : Judgement) → Judged text number j → Reads text number room (answered j room) (written j text room)
    go j (sound g r p) = fits g r p (ltb room (length (data_of r))) refl
    go j (refused f) = rows.refused f

-- The rows leave no other answer and no other output.
pub reads_read : (text : List ℕ) (number room : ℕ) (a : ReadAnswer) (o : List ℕ) → Reads text number room a o
    → (a ≡ read_of text number room) × (o ≡ output_of text number room)
reads_read text number room a o (rows.accepted g r p h ss l) =
    let w = passed_answer text r room p.parsed.joined h ss l in
    let j = passed_judge text number g r p in
    (sym (ap (λ x. answered x room) j ∙ w.0), sym (ap (λ x. written x text room) j ∙ w.1))
reads_read text number room a o (rows.refused {refusal} f) =
    let j = refuses_judge text number refusal f in
    (sym (ap (λ x. answered x room) j), sym (ap (λ x. written x text room) j))
reads_read text number room a o (rows.output_too_small g r p h) =
    let w = small_answer text r room h in
    let j = passed_judge text number g r p in
    (sym (ap (λ x. answered x room) j ∙ w.0), sym (ap (λ x. written x text room) j ∙ w.1))

pub reads_unique : (text : List ℕ) (number room : ℕ) (a b : ReadAnswer) (o p : List ℕ) → Reads text number room a o → Reads text number room b p
    → (a ≡ b) × (o ≡ p)
reads_unique text number room a b o p h k =
    let x = reads_read text number room a o h in
    let y = reads_read text number room b p k in
    (x.0 ∙ sym y.0, x.1 ∙ sym y.1)

-- The part where the opening label stands holds it,
pub label_in_lem : (text : List ℕ) (r : Reading) → text ≡ text_of r → spanned text (reading_layout 0 r).opened ≡ r.opening_label
label_in_lem text r e = ap (λ t. spanned t (reading_layout 0 r).opened) (alone text r e) ∙ label_part [] r []

-- and that is its offset.
label_start_lem : (text : List ℕ) (r : Reading) → spanned text (reading_layout 0 r).opened ≡ take (length r.opening_label) (drop (label_start r) text)
label_start_lem text r = rw zero-add

-- What `label` is defined to hand back is the opening label where it stands, or the empty part.
pub label_means : (text : List ℕ) (number : ℕ) → HandsBack text number (label_of text number)
label_means text number = go (judge_of text number) (judge_means text number)
  where
    go : (j : Judgement) → Judged text number j → HandsBack text number (label_in j text)
    go j (sound g r p) = rw (label_start_lem text r) (rows.label g r p (sym (label_start_lem text r) ∙ label_in_lem text r p.parsed.joined))
    go j (refused f) = rows.none f

pub hands_back_label : (text : List ℕ) (number : ℕ) (l : List ℕ) → HandsBack text number l → l ≡ label_of text number
hands_back_label text number l (rows.label g r p h) = sym (ap (λ j. label_in j text) (passed_judge text number g r p) ∙ label_start_lem text r)
hands_back_label text number l (rows.none {refusal} f) = sym (ap (λ j. label_in j text) (refuses_judge text number refusal f))

-- ---- The label's part, by its place

-- The part where the opening label stands holds it.
pub label_there : (text : List ℕ) (r : Reading) → text ≡ text_of r → spanned text (span (label_start r) (length r.opening_label)) ≡ r.opening_label
label_there text r e = ap (λ t. spanned t (span (label_start r) (length r.opening_label))) (alone text r e) ∙ rw zero-add at (label_part [] r [])

-- It is the part that the judgement of a message which passed tells.
label_span_lem : (r : Reading) → label_span (sound_reading 0 r) ≡ span (label_start r) (length r.opening_label)
label_span_lem r = ap (λ n. span n (length r.opening_label)) (zero-add (label_start r))

-- Where `label` is defined to find its part is what the rows say.
pub label_lies : (text : List ℕ) (number : ℕ) → HandsBackPlace text number (label_span_of text number).at.0 (label_span_of text number).length
label_lies text number = go (judge_of text number) (judge_means text number)
  where
    go : (j : Judgement) → Judged text number j → HandsBackPlace text number (label_span j).at.0 (label_span j).length
    go j (sound g r p) = subst (λ (s : Span). HandsBackPlace text number s.at.0 s.length) (sym (label_span_lem r)) (rows.stands g r p (label_there text r p.parsed.joined))
    go j (refused f) = rows.empty f 0

-- Where it is in a text that passed, and in one that is refused.
pub passed_span : (text : List ℕ) (number : ℕ) (g : Grammar) (r : Reading) → Passed text number g r
    → label_span_of text number ≡ span (label_start r) (length r.opening_label)
passed_span text number g r p = ap label_span (passed_judge text number g r p) ∙ label_span_lem r

pub refuses_span : (text : List ℕ) (number : ℕ) (refusal : Refusal) → Refuses text number refusal → label_span_of text number ≡ span 0 0
refuses_span text number refusal f = ap label_span (refuses_judge text number refusal f)

-- The bytes of that part are those that `label` is defined to hand back.
pub label_spanned : (text : List ℕ) (number : ℕ) → spanned text (label_span_of text number) ≡ label_of text number
label_spanned text number = go (judge_of text number)
  where
    go : (j : Judgement) → spanned text (label_span j) ≡ label_in j text
    go (Err r) = refl
    go (Ok s) = refl

-- No label starts at 0, so only a refused text has its part there.
pub zero_refused : (text : List ℕ) (number at n : ℕ) → HandsBackPlace text number at n → at ≡ 0 → (refusal : Refusal) × Refuses text number refusal
zero_refused text number at n (rows.stands g r p h) z = absurd (omega (arith, z))
zero_refused text number at n (rows.empty {refusal} f _) z = (refusal, f)

-- The rows leave no other length and no other bytes, and no other place where nothing refuses.
pub hands_back_place : (text : List ℕ) (number at n : ℕ) → HandsBackPlace text number at n
    → (n ≡ (label_span_of text number).length) × (take n (drop at text) ≡ label_of text number)
    × (((refusal : Refusal) → ¬ Refuses text number refusal) → at ≡ (label_span_of text number).at.0)
hands_back_place text number at n (rows.stands g r p h) =
    let e = passed_span text number g r p in
    (ap (λ (s : Span). s.length) (sym e), ap (spanned text) (sym e) ∙ label_spanned text number, λ _. ap (λ (s : Span). s.at.0) (sym e))
hands_back_place text number at n (rows.empty {refusal} f _) =
    let e = refuses_span text number refusal f in
    (ap (λ (s : Span). s.length) (sym e), ap (spanned text) (sym e) ∙ label_spanned text number, λ passed. absurd (passed refusal f))

-- ---- What the code has to know of a judgement that passed

pub sound_fits : (text : List ℕ) (number : ℕ) (s : Sound) → judge_of text number ≡ Ok s
    → Lies (length text) s.layout × (s.layout.body.at.0 + s.layout.body.length ≤ length text)
    × (s.found.size.0 ≡ length (decode (characters (spanned text s.layout.body))))
sound_fits text number s e = go s (subst (Judged text number) e (judge_means text number))
  where
    go : (s : Sound) → Judged text number (Ok s)
        → Lies (length text) s.layout × (s.layout.body.at.0 + s.layout.body.length ≤ length text)
        × (s.found.size.0 ≡ length (decode (characters (spanned text s.layout.body))))
    go s (sound g r p) =
        let n : length text ≡ length (text_of r) = ap length p.parsed.joined in
        let t = text_length r in
        let o = opening_length r.opening_label in
        let c = closing_length r.closing_label in
        (omega arith, omega arith, ap length (sym (data_in text r p.parsed.joined)))

-- The same by the grammar, whichever number it has.
pub known_fits : (g : Grammar) (text : List ℕ) (s : Sound) → judged_by (Some g) text ≡ Ok s
    → Lies (length text) s.layout × (s.layout.body.at.0 + s.layout.body.length ≤ length text)
    × (s.found.size.0 ≡ length (decode (characters (spanned text s.layout.body))))
known_fits grammar.Lax text s e = sound_fits text 1 s e
known_fits grammar.Standard text s e = sound_fits text 2 s e
known_fits grammar.Strict text s e = sound_fits text 3 s e

-- What the code has to know of a scan that has read a whole text of the grammar.
pub whole_fits : (g : Grammar) (text : List ℕ) → is_whole (scanned g text) (length text) ≡ true → TallyFits (length text) (scanned g text).tally
whole_fits g text e =
    let q : WholeReading g text = whole_reading g text e in
    rw (q.counted, ap length q.joined) (reading_fits q.reading)

-- A slice that is this part of the text is what the label call hands back.
pub hands_back_part : (text part : Bor (List ℕ)) (number : ℕ) (s : Span) → s ≡ label_span_of text.now number
    → OwnPart text s.at.0 s.length part → HandsBackPart text number part
hands_back_part text part number s e p =
    let n : length part.now ≡ s.length = own_length text s.at.0 s.length part p in
    record { at = s.at.0; hands_back = rw (n, e) (label_lies text.now number); is_part = rw n p }

-- Where nothing refuses, no other slice is: it has one address.
pub hands_back_one : (text part other : Bor (List ℕ)) (number : ℕ) → ((refusal : Refusal) → ¬ Refuses text.now number refusal)
    → HandsBackPart text number part → HandsBackPart text number other → (part.ref_ptr ≡ other.ref_ptr) × (part.now ≡ other.now)
hands_back_one text part other number passed p q =
    let (n, _, at) = hands_back_place text.now number _ _ p.hands_back in
    let (n', _, at') = hands_back_place text.now number _ _ q.hands_back in
    own_unique text (label_span_of text.now number).at.0 (label_span_of text.now number).length part other
    (rw (n, at passed) at p.is_part) (rw (n', at' passed) at q.is_part)
