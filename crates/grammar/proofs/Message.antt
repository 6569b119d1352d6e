-- One message: a narrower grammar's reading is a wider grammar's reading, and a text has one reading only.
-- Assumes nothing.
use mathlib.Core.Path.{◌≡◌, refl, sym, ◌∙◌, subst, ap}
use mathlib.Core.List.{List, [], ◌++◌, append_assoc, append_cancel_left}
use Prim.Native.Nat.{ℕ}
use lib.ListN.{drop}
use Rattle.base_64.specs.Lists.{All}
use Rattle.base_64.specs.Groups.{values_of, spare_bits}
use Rattle.grammar.specs.Marks.{hyphen, White, begin, end, hyphens}
use Rattle.grammar.specs.Grammars.{StandardAfter}
use Rattle.grammar.specs.Message.{Reading, text_of, Shape, characters, SpareBits, Consistent, data_of, Message}
use Rattle.grammar.specs.declared.Grammar.{Grammar}
use Rattle.grammar.specs.declared.Grammar.TheVariants.{Lax, Standard, Strict}
use Rattle.grammar.proofs.Runs.{Stop, run_unique}
use Rattle.grammar.proofs.Marks.{NoHyphen, white_no_hyphen, label_unique}
use Rattle.grammar.proofs.Grammars.{lax_body_no_hyphen, standard_body_lax, standard_after_white, strict_body_standard}

-- The second grammar is the next wider one.
pub data Wider : Grammar → Grammar → Type 0 where
  strict_standard : Wider Strict Standard
  standard_lax : Wider Standard Lax

-- ---- spare bits: each grammar that has a wider one asks for zero, and the widest for nothing

pub spare_zero_lem : {g h : Grammar} → Wider g h → (cs : List ℕ) → SpareBits g cs → spare_bits (values_of cs) ≡ 0
spare_zero_lem strict_standard cs zero = zero
spare_zero_lem standard_lax cs zero = zero

pub spare_dropped : (cs : List ℕ) → SpareBits Lax cs
spare_dropped cs = tt

-- ---- widening: with the same parts

pub shape_widens : {g h : Grammar} → Wider g h → (r : Reading) → Shape g r → Shape h r
shape_widens strict_standard r s = record {
  before = s.before;
  opening_label = s.opening_label;
  body = strict_body_standard s.body;
  closing_label = s.closing_label;
  after = StandardAfter.one_end [] r.after tt s.after;
}
shape_widens standard_lax r s = record {
  before = subst (All White) (sym s.before) tt;
  opening_label = s.opening_label;
  body = standard_body_lax s.body;
  closing_label = s.closing_label;
  after = standard_after_white s.after;
}

pub consistent_widens : {g h : Grammar} → Wider g h → (r : Reading) → Consistent g r → Consistent h r
consistent_widens strict_standard r c = record { labels = c.labels; counts = c.counts; spare = c.spare }
consistent_widens standard_lax r c = record { labels = c.labels; counts = c.counts; spare = spare_dropped (characters r.body) }

-- A message of the narrower grammar is one of the wider, with the same label and data.
pub message_widens : {g h : Grammar} → Wider g h → {t label content : List ℕ} → Message g t label content → Message h t label content
message_widens w m = record {
  reading = m.reading;
  joined = m.joined;
  shape = shape_widens w m.reading m.shape;
  consistent = consistent_widens w m.reading m.consistent;
  has_label = m.has_label;
  has_data = m.has_data;
}

-- Strict is the narrowest.
pub strict_shape : (g : Grammar) (r : Reading) → Shape Strict r → Shape g r
strict_shape Lax r s = shape_widens standard_lax r (shape_widens strict_standard r s)
strict_shape Standard r s = shape_widens strict_standard r s
strict_shape Strict r s = s

pub strict_consistent : (g : Grammar) (r : Reading) → Consistent Strict r → Consistent g r
strict_consistent Lax r c = consistent_widens standard_lax r (consistent_widens strict_standard r c)
strict_consistent Standard r c = consistent_widens strict_standard r c
strict_consistent Strict r c = c

-- Lax is the widest.
pub shape_lax : (g : Grammar) (r : Reading) → Shape g r → Shape Lax r
shape_lax Lax r s = s
shape_lax Standard r s = shape_widens standard_lax r s
shape_lax Strict r s = strict_shape Lax r s

-- ---- uniqueness: a message and what stands behind it, cut in one way only

-- The text of a reading with x behind it, part by part.
abbrev parts_then : Reading → List ℕ → List ℕ
parts_then r x =
    r.before ++ (begin ++ (r.opening_label ++ (hyphens ++ (r.body ++ (end ++ (r.closing_label ++ (hyphens ++ (r.after ++ x))))))))

pub text_then : (r : Reading) (x : List ℕ) → text_of r ++ x ≡ parts_then r x
text_then r x = simp append_assoc

pub no_white_hyphen : ¬ White hyphen
no_white_hyphen h = white_no_hyphen hyphen h refl

lax_parts_unique : {r s : Reading} → Shape Lax r → Shape Lax s → (x y : List ℕ) → Stop White x → Stop White y
    → parts_then r x ≡ parts_then s y → (r ≡ s) × (x ≡ y)
lax_parts_unique {r} {s} m n x y sx sy e =
    let p1 = run_unique White r.before s.before _ _ m.before n.before no_white_hyphen no_white_hyphen e in
    let p2 = label_unique m.opening_label n.opening_label _ _ (append_cancel_left begin _ _ p1.1) in
    let p3 = run_unique NoHyphen r.body s.body _ _ (lax_body_no_hyphen m.body) (lax_body_no_hyphen n.body) (λ h. h refl) (λ h. h refl)
    (append_cancel_left (drop 2 hyphens) _ _ p2.1) in
    let p4 = label_unique m.closing_label n.closing_label _ _ (append_cancel_left end _ _ p3.1) in
    let p5 = run_unique White r.after s.after x y m.after n.after sx sy
    (append_cancel_left (drop 2 hyphens) _ _ p4.1) in
    (λ i. record { before = p1.0 i; opening_label = p2.0 i; body = p3.0 i; closing_label = p4.0 i; after = p5.0 i }, p5.1)

-- Whatever two grammars read the text: neither rest starts with white, so the readings and the rests are the same.
pub reading_then_unique : (g h : Grammar) {r s : Reading} → Shape g r → Shape h s → (x y : List ℕ) → Stop White x → Stop White y
    → text_of r ++ x ≡ text_of s ++ y → (r ≡ s) × (x ≡ y)
reading_then_unique g h {r} {s} m n x y sx sy e =
    lax_parts_unique (shape_lax g r m) (shape_lax h s n) x y sx sy (sym (text_then r x) ∙ e ∙ text_then s y)

pub reading_unique : (g h : Grammar) {r s : Reading} → Shape g r → Shape h s → text_of r ≡ text_of s → r ≡ s
reading_unique g h m n e = (reading_then_unique g h m n [] [] tt tt (ap (λ (t : List ℕ). t ++ []) e)).0

-- A text has at most one label and data, whatever grammars read it.
pub message_unique : (g h : Grammar) {t label content label' content' : List ℕ} → Message g t label content → Message h t label' content'
    → (label ≡ label') × (content ≡ content')
message_unique g h m n =
    let e = reading_unique g h m.shape n.shape (sym m.joined ∙ n.joined) in
    (m.has_label ∙ ap (λ (r : Reading). r.opening_label) e ∙ sym n.has_label, m.has_data ∙ ap data_of e ∙ sym n.has_data)
