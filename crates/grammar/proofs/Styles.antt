-- What the style of a list of line ends says of them. Assumes nothing.
use mathlib.Core.Path.{◌≡◌, refl, ◌∙◌}
use mathlib.Core.Logic.{◌≢◌}
use mathlib.Core.Bool.{Bool, true, false, cond}
use mathlib.Core.List.{List, [], ◌∷◌}
use Prim.Native.Nat.{ℕ}
use native.Mathlib.Omega.{arith}
use lib.Dec.{eqb}
use borrow.Author.Tests.{eq-eqb, eqb-true}
use Rattle.base_64.specs.Lists.{All}
use Rattle.grammar.specs.LineEnds.{line_ending_number, agreeing, style_of, StyleMeans}
use Rattle.grammar.specs.declared.LineEnding.{LineEnding}
use Rattle.grammar.specs.declared.LineEnding.TheVariants.{Lf, CrLf, Cr}
use Rattle.grammar.specs.declared.LineStyle.TheVariants.{NoLineEnd, Only, Mixed}

pub number_same : (s t : LineEnding) → line_ending_number s ≡ line_ending_number t → s ≡ t
number_same Lf Lf e = refl
number_same Lf CrLf e = absurd (omega (arith, e))
number_same Lf Cr e = absurd (omega (arith, e))
number_same CrLf Lf e = absurd (omega (arith, e))
number_same CrLf CrLf e = refl
number_same CrLf Cr e = absurd (omega (arith, e))
number_same Cr Lf e = absurd (omega (arith, e))
number_same Cr CrLf e = absurd (omega (arith, e))
number_same Cr Cr e = refl

only_same : (s t : LineEnding) → Only s ≡ Only t → s ≡ t
only_same s t e = cc

mixed_only : (s : LineEnding) → ¬ (Mixed ≡ Only s)
mixed_only s e = let z : ◌≡◌ {A = ℕ} 0 1 = cc in omega arith

none_only : (s : LineEnding) → ¬ (NoLineEnd ≡ Only s)
none_only s e = let z : ◌≡◌ {A = ℕ} 0 1 = cc in omega arith

-- Each is of that kind,
all_one : (s t : LineEnding) (ts : List LineEnding) → agreeing t ts ≡ Only s → All (λ u. u ≡ s) (t ∷ ts)
all_one s t [] e = (only_same t s e, tt)
all_one s t (u ∷ us) e = go (eqb (line_ending_number u) (line_ending_number t)) refl e (all_one s t us)
  where
    go : (b : Bool) → eqb (line_ending_number u) (line_ending_number t) ≡ b → agreeing t (u ∷ us) ≡ Only s → (agreeing t us ≡ Only s → All (λ v. v ≡ s) (t ∷ us))
        → All (λ v. v ≡ s) (t ∷ u ∷ us)
    go true f k ih =
        let rest = ih (rw f at k) in
        (rest.0, (number_same u t (eqb-true _ _ f) ∙ rest.0, rest.1))
    go false f k ih = absurd (mixed_only s (rw f at k))

pub only_all : (s : LineEnding) (ss : List LineEnding) → style_of ss ≡ Only s → All (λ t. t ≡ s) ss
only_all s [] e = absurd (none_only s e)
only_all s (t ∷ ts) e = all_one s t ts e

-- and where each is, that is the style.
all_only : (s : LineEnding) (ss : List LineEnding) → All (λ t. t ≡ s) (s ∷ ss) → style_of (s ∷ ss) ≡ Only s
all_only s [] h = refl
all_only s (t ∷ ts) h = rw (h.1.0, eq-eqb (line_ending_number s) (line_ending_number s) refl) (all_only s ts (h.0, h.1.1))

alike_only : (s : LineEnding) (ss : List LineEnding) → ss ≢ [] → All (λ t. t ≡ s) ss → style_of ss ≡ Only s
alike_only s [] some h = absurd (some refl)
alike_only s (t ∷ ts) some h = rw h.0 (all_only s ts (refl, h.1))

agreeing_some : (s : LineEnding) (ss : List LineEnding) → ¬ (agreeing s ss ≡ NoLineEnd)
agreeing_some s [] e = let z : ◌≡◌ {A = ℕ} 0 1 = cc in omega arith
agreeing_some s (t ∷ ts) e = go (eqb (line_ending_number t) (line_ending_number s)) (agreeing_some s ts) e
  where
    go : (b : Bool) → ¬ (agreeing s ts ≡ NoLineEnd) → ¬ (cond b (agreeing s ts) Mixed ≡ NoLineEnd)
    go true more k = more k
    go false more k = let z : ◌≡◌ {A = ℕ} 0 1 = cc in omega arith

none_empty : (ss : List LineEnding) → style_of ss ≡ NoLineEnd → ss ≡ []
none_empty [] e = refl
none_empty (s ∷ ss) e = absurd (agreeing_some s ss e)

pub style_means : StyleMeans
style_means = record { empty = refl; none = none_empty; only = only_all; alike = alike_only }
