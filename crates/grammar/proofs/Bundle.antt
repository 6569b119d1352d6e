-- Bundles: a narrower grammar's bundle is a wider grammar's bundle with the same list and table, and a text has one list
-- and one table only, whatever grammars read it. No limit enters. Assumes nothing.
use mathlib.Core.Path.{◌≡◌, refl, sym, ◌∙◌, ap}
use mathlib.Core.List.{List, [], ◌∷◌, ◌++◌, map, nil≢cons}
use Prim.Native.Nat.{ℕ}
use Rattle.base_64.specs.Lists.{All}
use Rattle.base_64.proofs.Lists.{all_front, all_back, all_imp}
use Rattle.grammar.specs.Marks.{hyphen, White}
use Rattle.grammar.specs.Message.{Reading, text_of, Shape, Consistent}
use Rattle.grammar.specs.Bundle.{joined_text, Later, Shapes, Item, item_of, table_of, Bundle}
use Rattle.grammar.specs.declared.Grammar.{Grammar}
use Rattle.grammar.specs.declared.Grammar.TheVariants.{Lax, Standard, Strict}
use Rattle.grammar.proofs.Runs.{Stop}
use Rattle.grammar.proofs.Message.{Wider, strict_standard, standard_lax, shape_widens, consistent_widens, no_white_hyphen, text_then, reading_then_unique}

-- ---- widening

later_widens : {g h : Grammar} → Wider g h → (r : Reading) → Later g r → Later h r
later_widens w r l = record { shape = shape_widens w r l.shape; none_before = l.none_before }

pub shapes_widen : {g h : Grammar} → Wider g h → (rs : List Reading) → Shapes g rs → Shapes h rs
shapes_widen w [] s = tt
shapes_widen {g} {h} w (r ∷ rs) s = (shape_widens w r s.0, all_imp (Later g) (Later h) (later_widens w) rs s.1)

pub bundle_widens : {g h : Grammar} → Wider g h → {t : List ℕ} {list : List Item} {table : List ℕ} → Bundle g t list table → Bundle h t list table
bundle_widens {g} {h} w b = record {
  readings = b.readings;
  joined = b.joined;
  shapes = shapes_widen w b.readings b.shapes;
  consistent = all_imp (Consistent g) (Consistent h) (consistent_widens w) b.readings b.consistent;
  has_list = b.has_list;
  has_table = b.has_table;
}

-- Strict is the narrowest.
pub strict_bundle : (g : Grammar) {t : List ℕ} {list : List Item} {table : List ℕ} → Bundle Strict t list table → Bundle g t list table
strict_bundle Lax b = bundle_widens standard_lax (bundle_widens strict_standard b)
strict_bundle Standard b = bundle_widens strict_standard b
strict_bundle Strict b = b

-- ---- uniqueness

-- Behind a message stands nothing, or a hyphen.
later_stop : (g : Grammar) (rs : List Reading) → All (Later g) rs → Stop White (joined_text rs)
later_stop g [] h = tt
later_stop g (r ∷ rs) h = rw h.0.none_before no_white_hyphen

-- A message is not empty.
pub text_some : (r : Reading) (x : List ℕ) → [] ≡ text_of r ++ x → ⊥
text_some r x e = go r.before _ (e ∙ text_then r x)
  where
    go : (b z : List ℕ) → [] ≡ b ++ (hyphen ∷ z) → ⊥
    go [] z k = nil≢cons k
    go (c ∷ b) z k = nil≢cons k

-- Later messages are a bundle by themselves.
pub later_shapes : (g : Grammar) (rs : List Reading) → All (Later g) rs → Shapes g rs
later_shapes g [] h = tt
later_shapes g (r ∷ rs) h = (h.0.shape, h.1)

-- The messages at the front of a bundle, and the one behind them.
pub front_shapes : (g : Grammar) (rs ss : List Reading) → Shapes g (rs ++ ss) → Shapes g rs
front_shapes g [] ss m = tt
front_shapes g (r ∷ rs) ss m = (m.0, all_front (Later g) rs ss m.1)

pub next_shape : (g : Grammar) (rs : List Reading) (r : Reading) (ss : List Reading) → Shapes g (rs ++ (r ∷ ss)) → Shape g r
next_shape g [] r ss m = m.0
next_shape g (s ∷ rs) r ss m = (all_back (Later g) rs (r ∷ ss) m.1).0.shape

pub readings_unique : (g h : Grammar) (rs ss : List Reading) → Shapes g rs → Shapes h ss → joined_text rs ≡ joined_text ss → rs ≡ ss
readings_unique g h [] [] m n e = refl
readings_unique g h [] (s ∷ ss) m n e = absurd (text_some s (joined_text ss) e)
readings_unique g h (r ∷ rs) [] m n e = absurd (text_some r (joined_text rs) (sym e))
readings_unique g h (r ∷ rs) (s ∷ ss) m n e =
    let first = reading_then_unique g h m.0 n.0 (joined_text rs) (joined_text ss) (later_stop g rs m.1) (later_stop h ss n.1) e in
    λ i. first.0 i ∷ readings_unique g h rs ss (later_shapes g rs m.1) (later_shapes h ss n.1) first.1 i

pub bundle_unique : (g h : Grammar) {t : List ℕ} {list list' : List Item} {table table' : List ℕ} → Bundle g t list table → Bundle h t list' table'
    → (list ≡ list') × (table ≡ table')
bundle_unique g h b c =
    let e = readings_unique g h b.readings c.readings b.shapes c.shapes (sym b.joined ∙ c.joined) in
    (b.has_list ∙ ap (map item_of) e ∙ sym c.has_list, b.has_table ∙ ap table_of e ∙ sym c.has_table)
