-- What demand 2 says of the read call and the label call holds. Assumes nothing.
use mathlib.Core.Path.{◌≡◌, refl, sym, ap, subst, ◌∙◌}
use mathlib.Core.List.{List}
use Prim.Native.Nat.{ℕ, ◌≤◌}
use lib.ListN.{length, take, drop}
use native.Mathlib.Omega.{arith}
use Rattle.grammar.specs.Message.{Reading, data_of}
use Rattle.grammar.specs.Starts.{Parse}
use Rattle.grammar.specs.declared.Grammar.{Grammar}
use Rattle.grammar.proofs.LineEnds.{some_ends}
use Rattle.reading.specs.Answers.{span, refusal_number, refusal_place, number_of, place_of, size_of, label_offset_of, label_length_of, ReadAnswer}
use Rattle.reading.specs.Meaning as rows
use Rattle.reading.specs.Meaning.{label_start, Admitted, Parsed, Passed, Broken, Reads, GrammarFails, NotAdmitted, MessageFails}
use Rattle.reading.specs.Read.{read_of, output_of, label_of}
use Rattle.reading.specs.Label.{label_span_of}
use Rattle.reading.specs.Claims.{AnswersZero, Readable, ZeroExactly, LabelExactly, GrammarRefusalNumber, PlaceExactly}
use Rattle.reading.specs.declared.Refusal.{Refusal}
use Rattle.reading.specs.declared.Span.{Span}
use Rattle.reading.proofs.Whole.{front_same}
use Rattle.reading.proofs.Meaning.{read_means, label_there, passed_span, refuses_span}
use Rattle.reading.proofs.Results.{passed_read, passed_label, zero_received}

-- ---- Texts that are accepted

-- A text that passed, with room, is answered 0 with its label and data.
passed_zero : (text : List ℕ) (number room : ℕ) (g : Grammar) (r : Reading) → Passed text number g r → length (data_of r) ≤ room
    → AnswersZero text number room (label_start r) r.opening_label (data_of r)
passed_zero text number room g r p h =
    let (ss, l) = some_ends text in
    let given = passed_read text number room g r p h ss l in
    record {
      zero = ap number_of given.0;
      size = ap size_of given.0;
      label_offset = ap label_offset_of given.0;
      label_length = ap label_length_of given.0;
      label_bytes = label_there text r p.parsed.joined;
      held = given.1;
    }

-- One answer has one label, at one offset, and one data.
zero_same : (text : List ℕ) (number room at at' : ℕ) (label label' content content' : List ℕ) → AnswersZero text number room at label content
    → AnswersZero text number room at' label' content' → (at ≡ at') × (label ≡ label') × (content ≡ content')
zero_same text number room at at' label label' content content' y z =
    let offset : at ≡ at' = sym y.label_offset ∙ z.label_offset in
    let size : length label ≡ length label' = sym y.label_length ∙ z.label_length in (
      offset,
      sym y.label_bytes ∙ (λ i. take (size i) (drop (offset i) text)) ∙ z.label_bytes,
      front_same content _ content' _ (sym y.held ∙ z.held) (sym y.size ∙ z.size),
    )

-- What is readable has passed.
readable_passed : (text : List ℕ) (number room at : ℕ) (label content : List ℕ) (i : Readable text number room at label content)
    → Passed text number i.grammar i.message.reading
readable_passed text number room at label content i =
    let m = i.message in
    record {
      parsed = record { admitted = record { known = i.known; short = i.short }; joined = m.joined; shape = m.shape };
      sound = record { short_label = omega (arith, rw m.has_label at i.short_label); consistent = m.consistent };
    }

pub zero_exactly : ZeroExactly
zero_exactly = record { only = only; always = always; some = some }
  where
    only : (text : List ℕ) (number room at : ℕ) (label content : List ℕ) → AnswersZero text number room at label content
        → Readable text number room at label content
    only text number room at label content z =
        let q = zero_received text number room z.zero in
        let p = q.passed in
        let (same_offset, same_label, same_data) = zero_same text number room at _ label _ content _ z (passed_zero text number room q.grammar q.reading p q.fits) in
        record {
          grammar = q.grammar;
          known = p.parsed.admitted.known;
          message =
              record {
                reading = q.reading;
                joined = p.parsed.joined;
                shape = p.parsed.shape;
                consistent = p.sound.consistent;
                has_label = same_label;
                has_data = same_data;
              };
          opens = same_offset;
          short_label = rw same_label p.sound.short_label;
          short = p.parsed.admitted.short;
          fits = rw same_data q.fits;
        }

    always : (text : List ℕ) (number room at : ℕ) (label content : List ℕ) → Readable text number room at label content
        → AnswersZero text number room at label content
    always text number room at label content i =
        let m = i.message in
        let p = readable_passed text number room at label content i in
        rw (i.opens, m.has_label, m.has_data) (passed_zero text number room i.grammar m.reading p (rw m.has_data at i.fits))

    some : (text : List ℕ) (number room : ℕ) → number_of (read_of text number room) ≡ 0
        → (at : ℕ) × ((label : List ℕ) × ((content : List ℕ) × AnswersZero text number room at label content))
    some text number room z =
        let q = zero_received text number room z in
        (label_start q.reading, (q.reading.opening_label, (data_of q.reading, passed_zero text number room q.grammar q.reading q.passed q.fits)))

-- ---- The label

pub label_exactly : LabelExactly
label_exactly = record { found = found; refused = λ text number refusal f. ap (λ (s : Span). s.length) (refuses_span text number refusal f) }
  where
    found : (text : List ℕ) (number room at : ℕ) (label content : List ℕ) → Readable text number room at label content
        → (label_span_of text number ≡ span at (length label)) × (label_of text number ≡ label)
    found text number room at label content i =
        let p = readable_passed text number room at label content i in
        let r = i.message.reading in
        rw (i.opens, i.message.has_label) (passed_span text number i.grammar r p, passed_label text number i.grammar r p)

-- ---- Texts that the grammar refuses

-- The rows 3 to 5 have their numbers, and their place,
pub grammar_fails_lem : (g : Grammar) (start : List ℕ) (n : ℕ) (refusal : Refusal) → GrammarFails g start n refusal
    → GrammarRefusalNumber (refusal_number refusal) × (refusal_place refusal ≡ n)
grammar_fails_lem g start n refusal (rows.bad_opening h) = ((omega arith, omega arith), refl)
grammar_fails_lem g start n refusal (rows.bad_body h k) = ((omega arith, omega arith), refl)
grammar_fails_lem g start n refusal (rows.bad_closing h) = ((omega arith, omega arith), refl)

-- and no other row has.
pub not_admitted_number : (text : List ℕ) (number : ℕ) (refusal : Refusal) → NotAdmitted text number refusal → ¬ GrammarRefusalNumber (refusal_number refusal)
not_admitted_number text number refusal (rows.unknown_grammar e) h = omega (arith, h)
not_admitted_number text number refusal (rows.text_too_long g e l) h = omega (arith, h)

pub message_fails_number : (g : Grammar) (from : ℕ) (r : Reading) (refusal : Refusal) → MessageFails g from r refusal → ¬ GrammarRefusalNumber (refusal_number refusal)
message_fails_number g from r refusal (rows.label_too_long h) n = omega (arith, n)
message_fails_number g from r refusal (rows.labels_differ h k) n = omega (arith, n)
message_fails_number g from r refusal (rows.bad_counts h k l) n = omega (arith, n)
message_fails_number g from r refusal (rows.spare_bits h k l m a c b e i j) n = omega (arith, n)

-- Checks 1 and 2 do not both pass and refuse.
admitted_passes : (text : List ℕ) (number : ℕ) (g : Grammar) (refusal : Refusal) → Admitted text number g → NotAdmitted text number refusal → ⊥
admitted_passes text number g refusal a (rows.unknown_grammar e) =
    let z : ◌≡◌ {A = ℕ} 0 1 = cc (a.known, e) in
    omega arith
admitted_passes text number g refusal a (rows.text_too_long h e l) = omega (arith, a.short)

pub place_exactly : PlaceExactly
place_exactly = record { only = only; always = always }
  where
    only : (text : List ℕ) (number room : ℕ) → GrammarRefusalNumber (number_of (read_of text number room))
        → (g : Grammar) × Broken text number g (place_of (read_of text number room))
    only text number room h = go (read_of text number room) (output_of text number room) (read_means text number room) h
      where
        go : (a : ReadAnswer) (o : List ℕ) → Reads text number room a o → GrammarRefusalNumber (number_of a) → (g : Grammar) × Broken text number g (place_of a)
        go a o (rows.accepted g r p f ss l) n = absurd (omega (arith, n))
        go a o (rows.refused {refusal} (rows.not_admitted f)) n = absurd (not_admitted_number text number refusal f n)
        go a o (rows.refused {refusal} (rows.grammar_fails g k b f)) n = (g, subst (Broken text number g) (sym (grammar_fails_lem g (take k text) k refusal f).1) b)
        go a o (rows.refused {refusal} (rows.message_fails g r p f)) n = absurd (message_fails_number g 0 r refusal f n)
        go a o (rows.output_too_small g r p f) n = absurd (omega (arith, n))

    always : (text : List ℕ) (number room : ℕ) (g : Grammar) → Admitted text number g → ¬ Parse g text
        → GrammarRefusalNumber (number_of (read_of text number room))
    always text number room g a none = go (read_of text number room) (output_of text number room) (read_means text number room)
      where
        -- a text that has a reading under the number's grammar is one of it
        parsed : (h : Grammar) (r : Reading) → Parsed text number h r → ⊥
        parsed h r p =
            let same : h ≡ g = cc (p.admitted.known, a.known) in
            none (subst (λ k. Parse k text) same record { reading = r; joined = p.joined; shape = p.shape })

        go : (b : ReadAnswer) (o : List ℕ) → Reads text number room b o → GrammarRefusalNumber (number_of b)
        go b o (rows.accepted h r p f ss l) = absurd (parsed h r p.parsed)
        go b o (rows.refused {refusal} (rows.not_admitted f)) = absurd (admitted_passes text number g refusal a f)
        go b o (rows.refused {refusal} (rows.grammar_fails h k q f)) = (grammar_fails_lem h (take k text) k refusal f).0
        go b o (rows.refused {refusal} (rows.message_fails h r p f)) = absurd (parsed h r p)
        go b o (rows.output_too_small h r p f) = absurd (parsed h r p.parsed)
