-- The samples hold of the grammars. A reading is shown at the narrowest grammar that has it, and widening does the rest; a
-- refusal is shown by uniqueness: the reading of a wider grammar does not meet it. Assumes nothing.
use mathlib.Core.Path.{◌≡◌, refl, sym, ◌∙◌, subst, ap}
use mathlib.Core.Logic.{inl, inr}
use mathlib.Core.List.{List, [], ◌∷◌, ◌++◌, head-eq_of_cons-eq, cons≢nil, append_cancel_left}
use Prim.Native.Nat.{ℕ, zero, suc, ◌≤◌}
use native.Mathlib.Omega.{arith}
use lib.Dec.{lit<, lit≤}
use lib.ListN.{drop, replicate}
use Rattle.base_64.specs.Lists.{All, same_bytes}
use Rattle.base_64.specs.Alphabet.{AlphabetChar, alphabet, place_in, value_of}
use Rattle.grammar.specs.Marks.{hyphens, begin, end, White, lf, LabelChars, Label}
use Rattle.grammar.specs.Grammars.{StandardLines, BlankLines, StandardBody, StandardAfter, Groups, StrictLines, StrictBody, Before, Body, After}
use Rattle.grammar.specs.Message.{Reading, text_of, Shape, Consistent, data_of, Message, characters, pad_count}
use Rattle.grammar.specs.Families.{family_in}
use Rattle.grammar.specs.Bundle.{joined_text, Shapes, Bundle}
use Rattle.grammar.specs.Samples.{BundleRefused, Samples, begin_a, end_b, begin_aB, end_aB, begin_empty, end_empty, around, M, unended_m, item_a}
use Rattle.grammar.specs.declared.Grammar.{Grammar}
use Rattle.grammar.specs.declared.Grammar.TheVariants.{Lax, Standard, Strict}
use Rattle.grammar.proofs.Runs.{run_unique}
use Rattle.grammar.proofs.Marks.{empty_label, end_some, label_unique}
use Rattle.grammar.proofs.Grammars.{empty_final_line, split_final_line, behind_pad_line, strict_body_long, strict_body_standard, standard_body_lax, strict_body_short}
use Rattle.grammar.proofs.Counts.{lax_body_pads}
use Rattle.grammar.proofs.Message.{Wider, strict_standard, standard_lax, spare_zero_lem, spare_dropped, shape_widens, shape_lax, consistent_widens, no_white_hyphen, text_then, reading_unique}
use Rattle.grammar.proofs.Bundle.{strict_bundle, readings_unique}

-- A text with a reading is refused by each grammar that the reading does not meet.
unmet : (g h : Grammar) (r : Reading) → Shape h r → (Shape g r → Consistent g r → ⊥) → (label content : List ℕ) → ¬ Message g (text_of r) label content
unmet g h r s bad label content m =
    let e : m.reading ≡ r = reading_unique g h m.shape s (sym m.joined) in
    bad (subst (Shape g) e m.shape) (subst (Consistent g) e m.consistent)

-- ---- readings that open with "A"

abbrev reading : List ℕ → List ℕ → List ℕ → Reading
reading body closing_label after = record { before = []; opening_label = 65 ∷ []; body = body; closing_label = closing_label; after = after }

-- Most of them close with "A" and LF.
abbrev pub closed : List ℕ → Reading
closed body = reading body (65 ∷ []) (10 ∷ [])

capital : (c : ℕ) → (46 ≤ c) × (c ≤ 126) → Label (c ∷ [])
capital c h = Label.chars (LabelChars.last (inr h))

none_before : (g : Grammar) → Before g []
none_before Lax = tt
none_before Standard = refl
none_before Strict = refl

lf_after : (g : Grammar) → After g (10 ∷ [])
lf_after Lax = (inr (inr (inl refl)), tt)
lf_after Standard = StandardAfter.one_end [] (10 ∷ []) tt lf
lf_after Strict = lf

shape : (g : Grammar) (body : List ℕ) (c : ℕ) (after : List ℕ) → (46 ≤ c) × (c ≤ 126) → Body g body → After g after
    → Shape g (reading body (c ∷ []) after)
shape g body c after hc hb ha = record {
  before = none_before g;
  opening_label = capital 65 (omega arith);
  body = hb;
  closing_label = capital c hc;
  after = ha;
}

closed_shape : (g : Grammar) (body : List ℕ) → Body g body → Shape g (closed body)
closed_shape g body h = shape g body 65 (10 ∷ []) (omega arith) h (lf_after g)

message : (g : Grammar) (r : Reading) → Shape g r → Consistent g r → Message g (text_of r) r.opening_label (data_of r)
message g r s c = record { reading = r; joined = refl; shape = s; consistent = c; has_label = refl; has_data = refl }

-- ---- M

-- The line `Zg==`, and others like it.
two_pads : (c : ℕ) → AlphabetChar c → StrictLines (90 ∷ c ∷ 61 ∷ 61 ∷ 10 ∷ [])
unfolding value_of place_in alphabet
two_pads c h = StrictLines.final 1 (90 ∷ c ∷ 61 ∷ 61 ∷ []) (10 ∷ []) (Groups.two (lit< tt) h) (lit≤ tt) lf

abbrev m_body : List ℕ
m_body = 10 ∷ 90 ∷ 103 ∷ 61 ∷ 61 ∷ 10 ∷ []

m_line : StrictLines (90 ∷ 103 ∷ 61 ∷ 61 ∷ 10 ∷ [])
unfolding value_of place_in alphabet
m_line = two_pads 103 (lit< tt)

m_strict_body : StrictBody m_body
m_strict_body = StrictBody.strict (10 ∷ []) (90 ∷ 103 ∷ 61 ∷ 61 ∷ 10 ∷ []) lf m_line

m_consistent : (after : List ℕ) → Consistent Strict (reading m_body (65 ∷ []) after)
unfolding value_of place_in alphabet characters pad_count
m_consistent after = record { labels = refl; counts = inr (inl (refl, refl)); spare = refl }

-- `Zh==`: the spare bits are 1.
abbrev pub zh_body : List ℕ
zh_body = 10 ∷ 90 ∷ 104 ∷ 61 ∷ 61 ∷ 10 ∷ []

zh_strict_body : StrictBody zh_body
unfolding value_of place_in alphabet
zh_strict_body = StrictBody.strict (10 ∷ []) (90 ∷ 104 ∷ 61 ∷ 61 ∷ 10 ∷ []) lf (two_pads 104 (lit< tt))

-- Each grammar that asks for zero refuses it.
zh_refused : {g h : Grammar} → Wider g h → (label content : List ℕ) → ¬ Message g (around zh_body) label content
unfolding value_of place_in alphabet characters
zh_refused {g} w =
    unmet g Strict (closed zh_body) (closed_shape Strict zh_body zh_strict_body)
    (λ s c. let e : ◌≡◌ {A = ℕ} 1 0 = spare_zero_lem w (characters zh_body) c.spare in omega arith)

pub zh_shape : Shape Lax (closed zh_body)
zh_shape = closed_shape Lax zh_body (standard_body_lax (strict_body_standard zh_strict_body))

pub zh_consistent : Consistent Lax (closed zh_body)
unfolding value_of place_in alphabet characters pad_count
zh_consistent = record { labels = refl; counts = inr (inl (refl, refl)); spare = spare_dropped (characters zh_body) }

zh_lax : Message Lax (around zh_body) (65 ∷ []) (102 ∷ [])
unfolding value_of place_in alphabet characters
zh_lax = message Lax (closed zh_body) zh_shape zh_consistent

-- Labels that differ.
b_lax : (label content : List ℕ) → ¬ Message Lax (begin_a ++ (m_body ++ (end_b ++ (10 ∷ [])))) label content
b_lax =
    unmet Lax Lax (reading m_body (66 ∷ []) (10 ∷ []))
    (shape Lax m_body 66 (10 ∷ []) (omega arith) (standard_body_lax (strict_body_standard m_strict_body)) (lf_after Lax))
    (λ s c. let e : ◌≡◌ {A = ℕ} 65 66 = head-eq_of_cons-eq c.labels in omega arith)

-- Without the last LF: strict wants a line end behind the closing.

unended_shape : Shape Standard (reading m_body (65 ∷ []) [])
unended_shape = shape Standard m_body 65 [] (omega arith) (strict_body_standard m_strict_body) (StandardAfter.no_end tt)

unended_consistent : Consistent Standard (reading m_body (65 ∷ []) [])
unended_consistent = consistent_widens strict_standard (reading m_body (65 ∷ []) []) (m_consistent [])

-- What stands behind the opening of "A": the body, then the closing.
behind_A : (g : Grammar) (r : Reading) → Shape g r → (x : List ℕ) → begin_a ++ x ≡ text_of r
    → (z : List ℕ) × (r.body ++ (end ++ z) ≡ x ++ [])
behind_A g r h x e =
    let s = shape_lax g r h in
    let p1 = run_unique White r.before [] _ _ s.before tt no_white_hyphen no_white_hyphen
    (sym (text_then r []) ∙ ap (λ (t : List ℕ). t ++ []) (sym e)) in
    let p2 = label_unique s.opening_label (capital 65 (omega arith)) _ _ (append_cancel_left begin _ _ p1.1) in
    (_, append_cancel_left (drop 2 hyphens) _ _ p2.1)

-- ---- a label with a hyphen inside

hyphen_label : Message Strict (begin_aB ++ (m_body ++ (end_aB ++ (10 ∷ [])))) (65 ∷ 45 ∷ 66 ∷ []) (102 ∷ [])
unfolding value_of place_in alphabet characters pad_count
hyphen_label =
    let label : Label (65 ∷ 45 ∷ 66 ∷ []) = Label.chars (LabelChars.separated {c = 65} (inr (omega arith)) (inl refl) (LabelChars.last {c = 66} (inr (omega arith)))) in
    message Strict
    record { before = []; opening_label = 65 ∷ 45 ∷ 66 ∷ []; body = m_body; closing_label = 65 ∷ 45 ∷ 66 ∷ []; after = 10 ∷ [] }
    record { before = refl; opening_label = label; body = m_strict_body; closing_label = label; after = lf }
    record { labels = refl; counts = inr (inl (refl, refl)); spare = refl }

-- ---- an empty label

unlabelled : Message Strict (begin_empty ++ (m_body ++ (end_empty ++ (10 ∷ [])))) [] (102 ∷ [])
unfolding value_of place_in alphabet characters pad_count
unlabelled =
    message Strict
    record { before = []; opening_label = []; body = m_body; closing_label = []; after = 10 ∷ [] }
    record { before = refl; opening_label = empty_label; body = m_strict_body; closing_label = empty_label; after = lf }
    record { labels = refl; counts = inr (inl (refl, refl)); spare = refl }

-- ---- an empty line, and nothing else: standard has it as the final line, strict has none such

empty_body : StandardBody (10 ∷ 10 ∷ [])
empty_body = StandardBody.standard [] (10 ∷ []) (10 ∷ []) tt lf (BlankLines.lines (StandardLines.final empty_final_line))

empty_line : Message Standard (around (10 ∷ 10 ∷ [])) (65 ∷ []) []
unfolding value_of place_in alphabet characters pad_count
empty_line =
    message Standard (closed (10 ∷ 10 ∷ [])) (closed_shape Standard (10 ∷ 10 ∷ []) empty_body)
    record { labels = refl; counts = inl (refl, refl); spare = refl }

empty_line_strict : (label content : List ℕ) → ¬ Message Strict (around (10 ∷ 10 ∷ [])) label content
empty_line_strict =
    unmet Strict Standard (closed (10 ∷ 10 ∷ [])) (closed_shape Standard (10 ∷ 10 ∷ []) empty_body)
    (λ s c. omega (arith, strict_body_long s.body))

-- ---- three pads

third_pad : ¬ Body Lax (10 ∷ 90 ∷ 103 ∷ 61 ∷ 61 ∷ 61 ∷ 10 ∷ [])
unfolding pad_count
third_pad h = omega (arith, lax_body_pads h)

-- ---- pads on two lines

split_body : StandardBody (10 ∷ 90 ∷ 103 ∷ 61 ∷ 10 ∷ 61 ∷ 10 ∷ [])
unfolding value_of place_in alphabet
split_body =
    StandardBody.standard [] (10 ∷ []) (90 ∷ 103 ∷ 61 ∷ 10 ∷ 61 ∷ 10 ∷ []) tt lf
    (BlankLines.lines (StandardLines.final (split_final_line (90 ∷ 103 ∷ []) (10 ∷ []) (lit< tt, (lit< tt, tt)) lf)))

split_pads_lem : Message Standard (around (10 ∷ 90 ∷ 103 ∷ 61 ∷ 10 ∷ 61 ∷ 10 ∷ [])) (65 ∷ []) (102 ∷ [])
unfolding value_of place_in alphabet characters pad_count
split_pads_lem =
    let body : List ℕ = 10 ∷ 90 ∷ 103 ∷ 61 ∷ 10 ∷ 61 ∷ 10 ∷ [] in
    message Standard (closed body) (closed_shape Standard body split_body) record { labels = refl; counts = inr (inl (refl, refl)); spare = refl }

-- ---- full lines

letter_A : AlphabetChar 65
unfolding value_of place_in alphabet
letter_A = lit< tt

all_A : (n : ℕ) → All AlphabetChar (replicate n 65)
all_A zero = tt
all_A (suc n) = (letter_A, all_A n)

full_line : Message Strict (around (10 ∷ (replicate 64 65 ++ m_body))) (65 ∷ []) (replicate 48 0 ++ (102 ∷ []))
unfolding value_of place_in alphabet characters pad_count
full_line =
    let body : List ℕ = 10 ∷ (replicate 64 65 ++ m_body) in
    message Strict (closed body)
    (closed_shape Strict body (StrictBody.strict (10 ∷ []) (replicate 64 65 ++ m_body) lf
    (StrictLines.line (replicate 64 65) (10 ∷ []) (90 ∷ 103 ∷ 61 ∷ 61 ∷ 10 ∷ []) (all_A 64) refl lf m_line)))
    record { labels = refl; counts = inr (inl (refl, refl)); spare = refl }

fours : ℕ → List ℕ
fours zero = []
fours (suc n) = 65 ∷ 65 ∷ 65 ∷ 65 ∷ fours n

groups_A : (n : ℕ) → Groups (suc n) (fours (suc n))
unfolding fours
groups_A zero = Groups.four letter_A letter_A letter_A letter_A
groups_A (suc n) = Groups.more letter_A letter_A letter_A letter_A (groups_A n)

full_last_line : Message Strict (around (10 ∷ (replicate 64 65 ++ (10 ∷ [])))) (65 ∷ []) (replicate 48 0)
unfolding value_of place_in alphabet characters pad_count fours
full_last_line =
    let body : List ℕ = 10 ∷ (replicate 64 65 ++ (10 ∷ [])) in
    message Strict (closed body)
    (closed_shape Strict body (StrictBody.strict (10 ∷ []) (replicate 64 65 ++ (10 ∷ [])) lf
    (StrictLines.final 16 (replicate 64 65) (10 ∷ []) (groups_A 15) (lit≤ tt) lf)))
    record { labels = refl; counts = inl (refl, refl); spare = refl }

-- A first line of 65 characters, whatever follows.

long_line : (y label content : List ℕ) → ¬ Message Strict (begin_a ++ (10 ∷ (replicate 65 65 ++ y))) label content
long_line y label content m =
    let (z, e) = behind_A Strict m.reading m.shape (10 ∷ (replicate 65 65 ++ y)) m.joined in
    strict_body_short (end ++ z) (replicate 65 65) (y ++ []) (all_A 65) (lit< tt) m.shape.body e

-- ---- bundles

m_shape : Shape Strict (closed m_body)
m_shape = closed_shape Strict m_body m_strict_body

once : Bundle Strict M (item_a ∷ []) (1 ∷ 0 ∷ 39 ∷ 11 ∷ 1 ∷ 1 ∷ 0 ∷ [])
unfolding family_in same_bytes value_of place_in alphabet characters
once = record {
  readings = closed m_body ∷ [];
  joined = refl;
  shapes = (m_shape, tt);
  consistent = (m_consistent (10 ∷ []), tt);
  has_list = refl;
  has_table = refl;
}

twice : Bundle Strict (M ++ M) (item_a ∷ item_a ∷ []) (2 ∷ 0 ∷ 39 ∷ 11 ∷ 1 ∷ 1 ∷ 0 ∷ 39 ∷ 39 ∷ 50 ∷ 1 ∷ 1 ∷ 0 ∷ [])
unfolding family_in same_bytes value_of place_in alphabet characters
twice = record {
  readings = closed m_body ∷ closed m_body ∷ [];
  joined = refl;
  shapes = (m_shape, (record { shape = m_shape; none_before = refl }, tt));
  consistent = (m_consistent (10 ∷ []), (m_consistent (10 ∷ []), tt));
  has_list = refl;
  has_table = refl;
}

abbrev unended_readings : List Reading
unended_readings = reading m_body (65 ∷ []) [] ∷ closed m_body ∷ []

unended_shapes : Shapes Standard unended_readings
unended_shapes = (unended_shape, (record { shape = shape_widens strict_standard (closed m_body) m_shape; none_before = refl }, tt))

unended : Bundle Standard (unended_m ++ M) (item_a ∷ item_a ∷ []) (2 ∷ 0 ∷ 38 ∷ 11 ∷ 1 ∷ 1 ∷ 0 ∷ 38 ∷ 39 ∷ 49 ∷ 1 ∷ 1 ∷ 0 ∷ [])
unfolding family_in same_bytes value_of place_in alphabet characters
unended = record {
  readings = unended_readings;
  joined = refl;
  shapes = unended_shapes;
  consistent = (unended_consistent, (consistent_widens strict_standard (closed m_body) (m_consistent (10 ∷ [])), tt));
  has_list = refl;
  has_table = refl;
}

unended_strict_bundle : BundleRefused Strict (unended_m ++ M)
unended_strict_bundle list table b =
    let e = readings_unique Strict Standard b.readings unended_readings b.shapes unended_shapes (sym b.joined) in
    end_some (subst (Shapes Strict) e b.shapes).0.after [] refl

-- Two spaces: a message has a hyphen behind its white.
spaces_message : (rs : List Reading) → Shapes Lax rs → 32 ∷ 32 ∷ [] ≡ joined_text rs → ⊥
spaces_message [] s e = cons≢nil e
spaces_message (r ∷ rs) s e =
    let blank : White 32 = inl (inr refl) in
    let p = run_unique White r.before (32 ∷ 32 ∷ []) _ [] s.0.before (blank, (blank, tt)) no_white_hyphen tt (sym (text_then r (joined_text rs)) ∙ sym e) in
    cons≢nil p.1

spaces : BundleRefused Lax (32 ∷ 32 ∷ [])
spaces list table b = spaces_message b.readings b.shapes b.joined

none : (g : Grammar) → Bundle g [] [] (0 ∷ [])
none g = record { readings = []; joined = refl; shapes = tt; consistent = tt; has_list = refl; has_table = refl }

pub samples : Samples
samples = record {
  spare_bits = zh_refused standard_lax;
  spare_bits_strict = zh_refused strict_standard;
  spare_bits_lax = zh_lax;
  labels_differ = b_lax;
  hyphen_label = hyphen_label;
  empty_label = unlabelled;
  empty_line = empty_line;
  empty_line_strict = empty_line_strict;
  third_pad = third_pad;
  split_pads = split_pads_lem;
  second_pad = λ e rest he l. behind_pad_line l he refl;
  full_line = full_line;
  full_last_line = full_last_line;
  long_line = long_line;
  once = λ g. strict_bundle g once;
  twice = λ g. strict_bundle g twice;
  unended = unended;
  unended_strict = unended_strict_bundle;
  none = none;
  spaces = spaces;
}
