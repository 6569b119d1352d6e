-- The parts of a reading are where its layout says. Assumes nothing.
use mathlib.Core.Path.{◌≡◌, refl, ap, ◌∙◌}
use mathlib.Core.List.{List, ◌++◌, append_assoc}
use Prim.Native.Nat.{ℕ, ◌+◌}
use lib.ListN.{length, take, length-append}
use lib.Seq.{take_at, drop_at}
use native.Mathlib.Omega.{arith}
use Rattle.grammar.specs.Marks.{begin, end, hyphens, opening, closing}
use Rattle.grammar.specs.Message.{Reading, text_of}
use Rattle.reading.specs.Answers.{offset, span}
use Rattle.reading.specs.Meaning.{label_start, body_start, closing_start, closing_label_start}
use Rattle.reading.specs.Scan.{tally}
use Rattle.reading.specs.Layouts.{spanned, layout_of, TallyFits}
use Rattle.reading.specs.declared.Layout.{Layout}
use Rattle.reading.specs.declared.EndCounts.{EndCounts}
use Rattle.reading.proofs.Tallies.{tally_of, last_within, characters_short}

-- Where the parts of a reading are, whose text starts at an offset.
abbrev pub reading_layout : ℕ → Reading → Layout
reading_layout from r =
    record {
      opened = span (from + label_start r) (length r.opening_label);
      body = span (from + body_start r) (length r.body);
      closing = offset (from + closing_start r);
      closed = span (from + closing_label_start r) (length r.closing_label);
    }

-- The length of a boundary.
pub opening_length : (l : List ℕ) → length (opening l) ≡ length l + 16
opening_length l = omega (arith, length-append begin (l ++ hyphens), length-append l hyphens)

pub closing_length : (l : List ℕ) → length (closing l) ≡ length l + 14
closing_length l = omega (arith, length-append end (l ++ hyphens), length-append l hyphens)

-- A layout, by its six numbers.
abbrev six : (a b c d e f h : ℕ) → Layout
six a b c d e f h = record { opened = span a b; body = span c d; closing = offset e; closed = span f h }

six_same : {a a' b b' c c' d d' e e' f f' h h' : ℕ} → (a ≡ a') × (b ≡ b') × (c ≡ c') × (d ≡ d') × (e ≡ e') × (f ≡ f') × (h ≡ h')
    → six a b c d e f h ≡ six a' b' c' d' e' f' h'
six_same (p, q, r, s, t, u, v) = rw (p, q, r, s, t, u, v)

-- The layout that the numbers of a reading's bytes give.
pub layout_reading : (from : ℕ) (r : Reading) (n p k : ℕ) (e : EndCounts)
    → layout_of from (tally (length r.before) (length (opening r.opening_label)) (length r.body) (length (closing r.closing_label)) n p k e)
    ≡ reading_layout from r
layout_reading from r n p k e =
    let o : length (opening r.opening_label) ≡ length r.opening_label + 16 = opening_length r.opening_label in
    let c : length (closing r.closing_label) ≡ length r.closing_label + 14 = closing_length r.closing_label in
    six_same (omega arith)

-- A part between what stands before and behind it.
pub part_between : (a x b : List ℕ) (n k : ℕ) → length a ≡ n → length x ≡ k → spanned (a ++ (x ++ b)) (span n k) ≡ x
part_between a x b n k e f = ap (take k) (drop_at a (x ++ b) n e) ∙ take_at x b k f

-- The three parts of a reading that are read again, each between what stands before and behind it in a text.
label_cut : (front : List ℕ) (r : Reading) (back : List ℕ)
    → front ++ (text_of r ++ back)
    ≡ (front ++ (r.before ++ begin)) ++ (r.opening_label ++ (hyphens ++ (r.body ++ (closing r.closing_label ++ (r.after ++ back)))))
label_cut front r back = simp append_assoc

pub body_cut : (front : List ℕ) (r : Reading) (back : List ℕ)
    → front ++ (text_of r ++ back) ≡ (front ++ (r.before ++ opening r.opening_label)) ++ (r.body ++ (closing r.closing_label ++ (r.after ++ back)))
body_cut front r back = simp append_assoc

closing_label_cut : (front : List ℕ) (r : Reading) (back : List ℕ)
    → front ++ (text_of r ++ back)
    ≡ (front ++ (r.before ++ (opening r.opening_label ++ (r.body ++ end)))) ++ (r.closing_label ++ (hyphens ++ (r.after ++ back)))
closing_label_cut front r back = simp append_assoc

pub label_part : (front : List ℕ) (r : Reading) (back : List ℕ)
    → spanned (front ++ (text_of r ++ back)) (span (length front + label_start r) (length r.opening_label)) ≡ r.opening_label
label_part front r back =
    ap (λ t. spanned t (span (length front + label_start r) (length r.opening_label))) (label_cut front r back)
    ∙ part_between (front ++ (r.before ++ begin)) r.opening_label _ (length front + label_start r) (length r.opening_label) (simp length-append) refl

-- How many bytes stand before a body.
pub body_front : (front : List ℕ) (r : Reading) → length (front ++ (r.before ++ opening r.opening_label)) ≡ length front + body_start r
body_front front r = omega (arith, length-append front (r.before ++ opening r.opening_label), length-append r.before (opening r.opening_label))

pub body_part : (front : List ℕ) (r : Reading) (back : List ℕ)
    → spanned (front ++ (text_of r ++ back)) (span (length front + body_start r) (length r.body)) ≡ r.body
body_part front r back =
    ap (λ t. spanned t (span (length front + body_start r) (length r.body))) (body_cut front r back)
    ∙ part_between (front ++ (r.before ++ opening r.opening_label)) r.body _ (length front + body_start r) (length r.body) (body_front front r) refl

pub closing_label_part : (front : List ℕ) (r : Reading) (back : List ℕ)
    → spanned (front ++ (text_of r ++ back)) (span (length front + closing_label_start r) (length r.closing_label)) ≡ r.closing_label
closing_label_part front r back =
    ap (λ t. spanned t (span (length front + closing_label_start r) (length r.closing_label))) (closing_label_cut front r back)
    ∙ part_between (front ++ (r.before ++ (opening r.opening_label ++ (r.body ++ end)))) r.closing_label _
    (length front + closing_label_start r) (length r.closing_label)
    (omega (
      arith,
      length-append front (r.before ++ (opening r.opening_label ++ (r.body ++ end))),
      length-append r.before (opening r.opening_label ++ (r.body ++ end)),
      length-append (opening r.opening_label) (r.body ++ end),
      length-append r.body end,
    ))
    refl

-- The length of a reading's text.
pub text_length : (r : Reading)
    → length (text_of r) ≡ length r.before + length (opening r.opening_label) + length r.body + length (closing r.closing_label) + length r.after
text_length r = simp length-append (omega arith)

pub reading_fits : (r : Reading) → TallyFits (length (text_of r)) (tally_of r)
reading_fits r =
    let o = opening_length r.opening_label in
    let c = closing_length r.closing_label in
    record {
      opening = omega arith;
      closing = omega arith;
      sum = omega (arith, text_length r);
      characters = characters_short r.body;
      last = last_within r.body;
    }
