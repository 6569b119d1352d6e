-- Labels as arrays of one length: no label has a zero, so an array tells its label. Assumes nothing.
use mathlib.Core.Path.{◌≡◌, refl, sym, ap, subst, ◌∙◌}
use mathlib.Core.Logic.{◌≢◌}
use mathlib.Core.Bool.{Bool, true, false, cond, ◌&&◌, ◌||◌}
use mathlib.Core.List.{List, [], ◌∷◌, ◌++◌}
use Prim.Native.Nat.{ℕ, zero, suc, ◌-◌}
use lib.Dec.{eqb}
use lib.Pointwise.{pointwise}
use lib.ListN.{length, replicate, take, get_or}
use borrow.Author.Tests.{ne_eqb, eq-eqb, eqb-true, eqb-false}
use Rattle.std.specs.Prelude.{◌==◌, not}
use Rattle.std.specs.List.{list_any}
use Rattle.std.proofs.lemmas.List.Sums.{take_while-cons}
use Rattle.base_64.specs.Lists.{All, same_bytes}
use Rattle.families.specs.Arrays.{array_length, padded, unpadded}

unpadded_append : (label : List ℕ) (n : ℕ) → All (λ c. c ≢ 0) label → unpadded (label ++ replicate n 0) ≡ label
unpadded_append [] zero h = refl
unpadded_append [] (suc n) h = refl
unpadded_append (c ∷ label) n h = take_while-cons (λ b. not (b == 0)) c (label ++ replicate n 0) ∙ rw (ne_eqb c 0 h.0) (ap (λ l. c ∷ l) (unpadded_append label n h.1))

-- The array of a label tells the label,
pub unpadded_padded : (label : List ℕ) → All (λ c. c ≢ 0) label → unpadded (padded label) ≡ label
unpadded_padded label h = unpadded_append label (array_length - length label) h

-- so equal arrays are arrays of one label.
pub padded_same : (a b : List ℕ) → All (λ c. c ≢ 0) a → All (λ c. c ≢ 0) b → padded a ≡ padded b → a ≡ b
padded_same a b ha hb e = sym (unpadded_padded a ha) ∙ ap unpadded e ∙ unpadded_padded b hb

unpadded_cons : (p : ℕ) (array : List ℕ) → unpadded (p ∷ array) ≡ cond (not (p == 0)) (p ∷ unpadded array) []
unpadded_cons p array = take_while-cons (λ b. not (b == 0)) p array

neither : (s t : Bool) → false ≡ (s && (t && false))
neither true true = refl
neither true false = refl
neither false t = refl

-- An array and a label that begin with the same byte, which is zero or not, and with different ones.
same_begun : (c : ℕ) (array label : List ℕ) (ended begun zeros : Bool) → same_bytes (unpadded array) label ≡ (ended && (begun && not zeros))
    → (zero : Bool) → same_bytes (cond (not zero) (c ∷ unpadded array) []) (c ∷ label) ≡ (ended && (begun && not (zero || zeros)))
unfolding same_bytes
same_begun c array label ended begun zeros later true = neither ended begun
same_begun c array label ended begun zeros later false = rw (eq-eqb c c refl) later

other_begun : (p c : ℕ) (array label : List ℕ) (ended : Bool) → p ≢ c → (zero : Bool) → same_bytes (cond (not zero) (p ∷ unpadded array) []) (c ∷ label) ≡ (ended && false)
unfolding same_bytes
other_begun p c array label true h true = refl
other_begun p c array label false h true = refl
other_begun p c array label true h false = rw (ne_eqb p c h) refl
other_begun p c array label false h false = rw (ne_eqb p c h) refl

-- Which label an array tells: the one it begins with, if a zero or nothing stands behind that, and no zero in it.
pub told : (array label : List ℕ)
    → same_bytes (unpadded array) label ≡ ((get_or array (length label) 0 == 0) && (pointwise eqb label (take (length label) array) && not (list_any (λ y. eqb y 0) label)))
unfolding same_bytes
told [] [] = refl
told [] (c ∷ label) = refl
told (p ∷ array) [] = rw (unpadded_cons p array) (go (p == 0))
  where
    go : (t : Bool) → same_bytes (cond (not t) (p ∷ unpadded array) []) [] ≡ (t && true)
    go true = refl
    go false = refl
told (p ∷ array) (c ∷ label) = rw (unpadded_cons p array) (go (told array label) (eqb c p) refl)
  where
    go : same_bytes (unpadded array) label ≡ ((get_or array (length label) 0 == 0) && (pointwise eqb label (take (length label) array) && not (list_any (λ y. eqb y 0) label)))
        → (e : Bool) → eqb c p ≡ e
        → same_bytes (cond (not (p == 0)) (p ∷ unpadded array) []) (c ∷ label)
        ≡ ((get_or array (length label) 0 == 0) && ((e && pointwise eqb label (take (length label) array)) && not ((c == 0) || list_any (λ y. eqb y 0) label)))
    go later true q =
        subst (λ n. same_bytes (cond (not (n == 0)) (n ∷ unpadded array) []) (c ∷ label) ≡ ((get_or array (length label) 0 == 0) && (pointwise eqb label (take (length label) array) && not ((c == 0) || list_any (λ y. eqb y 0) label))))
        (eqb-true c p q)
        (same_begun c array label (get_or array (length label) 0 == 0) (pointwise eqb label (take (length label) array)) (list_any (λ y. eqb y 0) label) later (c == 0))
    go later false q = other_begun p c array label (get_or array (length label) 0 == 0) (λ e. eqb-false c p q (sym e)) (p == 0)
