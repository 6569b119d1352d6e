-- What demands 2 and 3 say of the write call holds. Assumes nothing.
use mathlib.Core.Path.{◌≡◌, refl, sym, ap, subst, ◌∙◌}
use mathlib.Core.Logic.{◌≢◌}
use mathlib.Core.Bool.{Bool, true, false, cond}
use mathlib.Core.List.{List, [], ◌∷◌, ◌++◌, map}
use Prim.Native.Nat.{ℕ, ◌+◌, ◌-◌, ◌/◌, ◌≤◌}
use lib.Dec.{ltb}
use lib.ListN.{length, take, replicate, length-append}
use lib.Seq.{take-append_seam}
use native.Mathlib.Omega.{arith}
use borrow.Author.Tests.{ltb-false}
use Rattle.base_64.specs.Lists.{All}
use Rattle.base_64.specs.Alphabet.{Octet}
use Rattle.base_64.proofs.Groups.{length_decode}
use Rattle.grammar.specs.Marks.{begin}
use Rattle.grammar.specs.LineEnds.{line_ending_number, line_ending_of, style_number, style_of}
use Rattle.grammar.specs.Families.{family_of}
use Rattle.grammar.specs.Grammars.{grammar_of, strict_number, StrictBody}
use Rattle.grammar.specs.Message.{Reading, text_of, Shape, characters, Consistent, data_of}
use Rattle.grammar.specs.Bundle.{joined_text, Later, Item, item_of, table_of, Bundle}
use Rattle.grammar.specs.declared.LineEnding.{LineEnding}
use Rattle.grammar.specs.declared.LineEnding.TheVariants.{Lf, CrLf, Cr}
use Rattle.grammar.specs.declared.Grammar.{Grammar}
use Rattle.grammar.specs.declared.Grammar.TheVariants.{Strict}
use Rattle.std.specs.Prelude.{Some, Ok, Err}
use Rattle.output.specs.declared.CallError.TheVariants.{TooSmall}
use Rattle.grammar.specs.declared.LineStyle.{LineStyle}
use Rattle.grammar.specs.declared.LineStyle.TheVariants.{NoLineEnd, Only, Mixed}
use Rattle.grammar.proofs.LineEnds.{Alike, number_style, some_ends}
use Rattle.grammar.proofs.Styles.{number_same}
use Rattle.grammar.proofs.Message.{strict_shape, strict_consistent}
use Rattle.grammar.proofs.Bundle.{later_shapes, bundle_unique}
use Rattle.grammar.proofs.Counts.{characters_append}
use Rattle.reading.specs.Limits.{text_limit}
use Rattle.reading.specs.Meaning.{Passed}
use Rattle.reading.proofs.Whole.{front_same}
use Rattle.reading.specs.Read.{label_of}
use Rattle.reading.specs.Answers as reader
use Rattle.reading.specs.Answers.{byte_count, span}
use Rattle.reading.proofs.Results.{passed_read, passed_label, zero_received}
use Rattle.writing.specs.Limits.{data_limit}
use Rattle.writing.specs.Answers.{text_size, refusal_number, number_of, size_of}
use Rattle.writing.specs.Text.{written_text, second_bytes, written_size}
use Rattle.writing.specs.Meaning.{Refuses, Takes}
use Rattle.writing.specs.Write.{Judgement, judge_of, answered, write_of, write_output}
use Rattle.writing.specs.Claims.{TakesExactly, AnswersZero, Writable, ZeroExactly, Written, WrittenLength, ReadsBack, data_read, Restores, largest, Largest, TakesItem, WrittenList, none, next, OneList}
use Rattle.writing.specs.declared.WriteRefusal.{WriteRefusal}
use Rattle.writing.specs.declared.WriteRefusal.TheVariants.{LabelTooLong, NotALabel, NoData, DataTooLong, UnknownStyle}
use Rattle.writing.proofs.Lines.{lines_some}
use Rattle.writing.proofs.Text.{written_reading, written_joined, written_shape, written_consistent, written_data, written_strict, style_alike, reading_written, strict_written, length_written}
use Rattle.writing.proofs.Meaning.{Judged, takes, refuses, judge_means, takes_judge, refuses_judge, takes_answer}

-- ---- what the writer takes

pub takes_exactly : TakesExactly
takes_exactly = record { only = only; always = always }
  where
    only : (label content : List ℕ) (number : ℕ) (s : LineEnding) → Takes label content → line_ending_of number ≡ Some s → (refusal : WriteRefusal)
        → ¬ Refuses label content number refusal
    only label content number s t k refusal f =
        let z : ◌≡◌ {A = ℕ} 0 1 = cc (takes_judge s label content number t k, refuses_judge label content number refusal f) in
        omega arith

    always : (label content : List ℕ) (number : ℕ) → ((refusal : WriteRefusal) → ¬ Refuses label content number refusal)
        → Takes label content × ((s : LineEnding) × (line_ending_of number ≡ Some s))
    always label content number unrefused = go (judge_of label content number) (judge_means label content number)
      where
        go : (j : Judgement) → Judged label content number j → Takes label content × ((s : LineEnding) × (line_ending_of number ≡ Some s))
        go j (takes s t k) = (t, (s, k))
        go j (refuses {refusal} f) = absurd (unrefused refusal f)

-- ---- the writer's result

refusal_some : (r : WriteRefusal) → ¬ (refusal_number r ≡ 0)
refusal_some LabelTooLong e = omega (arith, e)
refusal_some NotALabel e = omega (arith, e)
refusal_some NoData e = omega (arith, e)
refusal_some DataTooLong e = omega (arith, e)
refusal_some UnknownStyle e = omega (arith, e)

-- A label and data answered with 0 are taken, in a style, and have room.
zero_styled : (label content : List ℕ) (number room : ℕ) → number_of (write_of label content number room) ≡ 0
    → (s : LineEnding) × ((line_ending_of number ≡ Some s) × Takes label content × (length (written_text s label content) ≤ room))
zero_styled label content number room z = go (judge_of label content number) (judge_means label content number) z
  where
    fits : (s : LineEnding) → Takes label content → (b : Bool) → ltb room (written_size s (length label) (length content)) ≡ b
        → number_of (cond b (Err (TooSmall (text_size (written_size s (length label) (length content))))) (Ok (text_size (written_size s (length label) (length content))))) ≡ 0
        → length (written_text s label content) ≤ room
    fits s t true e z = absurd (omega (arith, z))
    fits s t false e z = omega (arith, ltb-false room (written_size s (length label) (length content)) e, length_written s label content t.some_data)

    go : (j : Judgement) → Judged label content number j → number_of (answered j room) ≡ 0
        → (s : LineEnding) × ((line_ending_of number ≡ Some s) × Takes label content × (length (written_text s label content) ≤ room))
    go j (takes s t k) z = (s, (k, t, fits s t (ltb room (written_size s (length label) (length content))) refl z))
    go j (refuses {refusal} f) z = absurd (refusal_some refusal z)

-- The same where the style is known.
zero_takes : (s : LineEnding) (label content : List ℕ) (number room : ℕ) → line_ending_of number ≡ Some s → number_of (write_of label content number room) ≡ 0
    → Takes label content × (length (written_text s label content) ≤ room)
zero_takes s label content number room k z =
    let (u, (l, t, h)) = zero_styled label content number room z in
    let same : u ≡ s = cc (k, l) in
    (t, subst (λ v. length (written_text v label content) ≤ room) same h)

-- A label and data that are taken, with room, are answered 0 with the written text.
takes_zero : (s : LineEnding) (label content : List ℕ) (number room : ℕ) → Takes label content → line_ending_of number ≡ Some s
    → length (written_text s label content) ≤ room → AnswersZero label content number room (written_text s label content)
takes_zero s label content number room t k h =
    let given = takes_answer s label content number room t k h in
    record { zero = ap number_of given.0; size = ap size_of given.0; held = given.1 }

-- An answer 0 is with the written text.
zero_text : (label content : List ℕ) (number room : ℕ) (text : List ℕ) → AnswersZero label content number room text → (s : LineEnding)
    → line_ending_of number ≡ Some s → Takes label content → length (written_text s label content) ≤ room → text ≡ written_text s label content
zero_text label content number room text z s k t h =
    let y = takes_zero s label content number room t k h in
    front_same text _ (written_text s label content) _ (sym z.held ∙ y.held) (sym z.size ∙ y.size)

pub zero_exactly : ZeroExactly
zero_exactly = record { only = only; always = always; some = some; each = each }
  where
    only : (label content : List ℕ) (number room : ℕ) (text : List ℕ) → All Octet content → AnswersZero label content number room text
        → Writable label content number room text
    only label content number room text octets z =
        let (s, (k, t, h)) = zero_styled label content number room z.zero in
        rw (zero_text label content number room text z s k t h)
        record { takes = t; style = s; known = k; strict = written_strict s label content octets t.is_label t.some_data; fits = h }

    always : (label content : List ℕ) (number room : ℕ) (text : List ℕ) → Writable label content number room text
        → AnswersZero label content number room text
    always label content number room text w =
        let same : text ≡ written_text w.style label content = strict_written w.style text label content w.strict in
        rw same (takes_zero w.style label content number room w.takes w.known (rw same at w.fits))

    some : (label content : List ℕ) (number room : ℕ) → number_of (write_of label content number room) ≡ 0
        → (text : List ℕ) × AnswersZero label content number room text
    some label content number room z =
        let (s, (k, t, h)) = zero_styled label content number room z in
        (written_text s label content, takes_zero s label content number room t k h)

    each : (label content : List ℕ) (number room : ℕ) (s : LineEnding) → Takes label content → line_ending_of number ≡ Some s
        → written_size s (length label) (length content) ≤ room → number_of (write_of label content number room) ≡ 0
    each label content number room s t k h = (takes_zero s label content number room t k (rw (length_written s label content t.some_data) h)).zero

-- The writer's result is the written text.
written_text_lem : (s : LineEnding) (label content text : List ℕ) → Written s label content text → Takes label content × (text ≡ written_text s label content)
written_text_lem s label content text w =
    let (t, fits) = zero_takes s label content (line_ending_number s) w.room (number_style s) w.zero in
    let given = takes_answer s label content (line_ending_number s) w.room t (number_style s) fits in
    (t, w.result ∙ (λ i. take (size_of (given.0 i)) (given.1 i)) ∙ take-append_seam (written_text s label content) _)

takes_written : (s : LineEnding) (label content : List ℕ) → Takes label content → Written s label content (written_text s label content)
takes_written s label content t =
    let room : ℕ = length (written_text s label content) in
    let given = takes_answer s label content (line_ending_number s) room t (number_style s) (omega arith) in
    record {
      room = room;
      zero = ap number_of given.0;
      result = sym ((λ i. take (size_of (given.0 i)) (given.1 i)) ∙ take-append_seam (written_text s label content) _);
    }

pub written_length : WrittenLength
written_length s label content text w =
    let (t, same) = written_text_lem s label content text w in
    rw same (length_written s label content t.some_data)

-- ---- the largest text

second_most : (s : LineEnding) (m n : ℕ) → m ≤ n → second_bytes s m ≤ second_bytes s n
second_most Lf m n h = omega arith
second_most CrLf m n h = h
second_most Cr m n h = omega arith

-- 174,763 lines and two boundaries.
largest_size : (s : LineEnding) → largest s ≡ 11359735 + second_bytes s 174765
largest_size Lf = refl
largest_size CrLf = refl
largest_size Cr = refl

written_most : (s : LineEnding) (label content : List ℕ) → Takes label content → length (written_text s label content) ≤ largest s
written_most s label content t =
    let ends : (length content + 47) / 48 + 2 ≤ 174765 = omega (arith, t.short_data) in
    omega (arith, length_written s label content t.some_data, t.short_label, t.short_data, second_most s ((length content + 47) / 48 + 2) 174765 ends, largest_size s)

largest_readable : (s : LineEnding) → largest s ≤ text_limit
largest_readable Lf = omega arith
largest_readable CrLf = omega arith
largest_readable Cr = omega arith

pub largest_text : Largest
largest_text = record {
  most = λ s label content text w. let (t, same) = written_text_lem s label content text w in rw same (written_most s label content t);
  reached = λ s label content text w l d.
      let (t, same) = written_text_lem s label content text w in
      let ends : (length content + 47) / 48 + 2 ≡ 174765 = omega (arith, d) in
      rw same (omega (arith, length_written s label content t.some_data, l, d, ap (second_bytes s) ends, largest_size s));
  readable = largest_readable;
}

-- ---- reading what was written

written_passed : (s : LineEnding) (label content : List ℕ) → All Octet content → Takes label content → (number : ℕ) (g : Grammar) → grammar_of number ≡ Some g
    → Passed (written_text s label content) number g (written_reading s label content)
written_passed s label content octets t number g known = record {
  parsed = record {
    admitted = record { known = known; short = omega (arith, written_most s label content t, largest_readable s) };
    joined = written_joined s label content;
    shape = strict_shape g _ (written_shape s label content octets t.is_label t.some_data);
  };
  sound = record { short_label = t.short_label; consistent = strict_consistent g _ (written_consistent s label content octets) };
}

pub reads_back : ReadsBack
reads_back s label content text octets w number g known room fits =
    let (t, same) = written_text_lem s label content text w in
    let passed = written_passed s label content octets t number g known in
    let back = written_data s label content octets in
    let strict = written_strict s label content octets t.is_label t.some_data in
    let given = passed_read (written_text s label content) number room g (written_reading s label content) passed (rw back fits) strict.list strict.line_ends in
    rw same (
      given.0 ∙ (λ i. Ok record { found = record { size = byte_count (length (back i)); label = span (length begin) (length label); family = family_of label }; style = strict.style i }),
      given.1 ∙ ap (λ (d : List ℕ). d ++ replicate (room - length d) 0) back,
      passed_label (written_text s label content) number g (written_reading s label content) passed,
    )

-- ---- writing what was read

-- A strict message has data.
body_some : {b : List ℕ} → StrictBody b → 2 ≤ length (characters b)
body_some (StrictBody.strict e rest he l) = rw (characters_append e rest, length-append) (omega (arith, lines_some l))

data_some : (r : Reading) → Shape Strict r → data_of r ≢ []
data_some r s e = omega (arith, body_some s.body, length_decode (characters r.body), ap length e)

restored : (s : LineEnding) (text : List ℕ) (r : Reading) → Passed text strict_number Strict r → Alike s text → length (data_of r) ≤ data_limit
    → Takes r.opening_label (data_of r) × (text ≡ written_text s r.opening_label (data_of r))
restored s text r p alike short = (
  record {
    short_label = p.sound.short_label;
    is_label = p.parsed.shape.opening_label;
    some_data = data_some r p.parsed.shape;
    short_data = short;
  },
  p.parsed.joined
      ∙ ap text_of (reading_written s r p.parsed.shape p.sound.consistent (subst (Alike s) p.parsed.joined alike))
      ∙ sym (written_joined s r.opening_label (data_of r)),
)

strict_known : (g : Grammar) → grammar_of strict_number ≡ Some g → g ≡ Strict
strict_known g e = cc

restored_answer : (s : LineEnding) (text label content l d : List ℕ) (room : ℕ) → l ≡ label → d ≡ content → Takes label content → text ≡ written_text s label content
    → length text ≤ room
    → (write_of l d (line_ending_number s) room ≡ Ok (text_size (length text))) × (write_output l d (line_ending_number s) room ≡ text ++ replicate (room - length text) 0)
restored_answer s text label content l d room is_label is_data t same fits =
    rw (is_label, is_data, same) (takes_answer s label content (line_ending_number s) room t (number_style s) (rw same at fits))

-- Where the number is that of a kind, all line ends are of that kind.
number_only : (f : LineStyle) (s : LineEnding) → style_number f ≡ line_ending_number s → f ≡ Only s
number_only NoLineEnd Lf e = absurd (omega (arith, e))
number_only NoLineEnd CrLf e = absurd (omega (arith, e))
number_only NoLineEnd Cr e = absurd (omega (arith, e))
number_only (Only u) s e = ap Only (number_same u s e)
number_only Mixed Lf e = absurd (omega (arith, e))
number_only Mixed CrLf e = absurd (omega (arith, e))
number_only Mixed Cr e = absurd (omega (arith, e))

pub restores : Restores
restores text room s zero style short out_room fits =
    let q = zero_received text strict_number room zero in
    let p : Passed text strict_number Strict q.reading = subst (λ g. Passed text strict_number g q.reading) (strict_known q.grammar q.passed.parsed.admitted.known) q.passed in
    let (ss, l) = some_ends text in
    let given = passed_read text strict_number room Strict q.reading p q.fits ss l in
    let found : style_of ss ≡ Only s = number_only (style_of ss) s (sym (ap reader.line_style_of given.0) ∙ style) in
    let is_data : data_read text room ≡ data_of q.reading = (λ i. take (reader.size_of (given.0 i)) (given.1 i)) ∙ take-append_seam (data_of q.reading) _ in
    let is_label : label_of text strict_number ≡ q.reading.opening_label = passed_label text strict_number Strict q.reading p in
    let (t, same) = restored s text q.reading p (style_alike s l found) (rw (ap reader.size_of given.0) at short) in
    restored_answer s text q.reading.opening_label (data_of q.reading) _ _ out_room is_label is_data t same fits

-- ---- lists

-- The readings of what is written of a list.
abbrev items : List Item → List LineEnding → List Reading
items [] ss = []
items (i ∷ is) [] = []
items (i ∷ is) (s ∷ ss) = written_reading s i.label i.content ∷ items is ss

-- The texts of a list joined are those of the readings joined.
list_joined : (is : List Item) (ss : List LineEnding) (text : List ℕ) → WrittenList is ss text → text ≡ joined_text (items is ss)
list_joined [] [] text none = refl
list_joined [] (s ∷ ss) text w = elim w [ ]
list_joined (i ∷ is) [] text w = elim w [ ]
list_joined (i ∷ is) (s ∷ ss) text (next _ _ _ _ t rest w ws) =
    λ k. ((written_text_lem s i.label i.content t w).1 ∙ written_joined s i.label i.content) k ++ list_joined is ss rest ws k

items_later : (is : List Item) (ss : List LineEnding) → All TakesItem is → All (Later Strict) (items is ss)
items_later [] ss h = tt
items_later (i ∷ is) [] h = tt
items_later (i ∷ is) (s ∷ ss) h =
    (record { shape = written_shape s i.label i.content h.0.octets h.0.takes.is_label h.0.takes.some_data; none_before = refl }, items_later is ss h.1)

items_consistent : (is : List Item) (ss : List LineEnding) → All TakesItem is → All (Consistent Strict) (items is ss)
items_consistent [] ss h = tt
items_consistent (i ∷ is) [] h = tt
items_consistent (i ∷ is) (s ∷ ss) h = (written_consistent s i.label i.content h.0.octets, items_consistent is ss h.1)

items_back : (is : List Item) (ss : List LineEnding) (text : List ℕ) → WrittenList is ss text → All TakesItem is → is ≡ map item_of (items is ss)
items_back [] [] text none h = refl
items_back [] (s ∷ ss) text w h = elim w [ ]
items_back (i ∷ is) [] text w h = elim w [ ]
items_back (i ∷ is) (s ∷ ss) text (next _ _ _ _ t rest w ws) h =
    let back : i.content ≡ data_of (written_reading s i.label i.content) = sym (written_data s i.label i.content h.0.octets) in
    λ k. record { label = i.label; content = back k } ∷ items_back is ss rest ws h.1 k

list_bundle : (is : List Item) (ss : List LineEnding) → All TakesItem is → (text : List ℕ) → WrittenList is ss text → Bundle Strict text is (table_of (items is ss))
list_bundle is ss h text w = record {
  readings = items is ss;
  joined = list_joined is ss text w;
  shapes = later_shapes Strict (items is ss) (items_later is ss h);
  consistent = items_consistent is ss h;
  has_list = items_back is ss text w h;
  has_table = refl;
}

list_some : (is : List Item) (ss : List LineEnding) → length ss ≡ length is → All TakesItem is → (text : List ℕ) × WrittenList is ss text
list_some [] [] e h = ([], none)
list_some [] (s ∷ ss) e h = absurd (omega (arith, e))
list_some (i ∷ is) [] e h = absurd (omega (arith, e))
list_some (i ∷ is) (s ∷ ss) e h =
    let (rest, ws) = list_some is ss (omega (arith, e)) h.1 in
    (written_text s i.label i.content ++ rest, next i is s ss _ rest (takes_written s i.label i.content h.0.takes) ws)

pub one_list : OneList
one_list = record {
  some = list_some;
  same = λ is js ss ts h k text v w. (bundle_unique Strict Strict (list_bundle is ss h text v) (list_bundle js ts k text w)).0;
}
