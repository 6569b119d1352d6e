-- Lists whose elements are all of one kind, the entries of a table, and lists of bytes compared. Assumes nothing.
use mathlib.Core.Path.{◌≡◌, refl, sym, ap, ◌∙◌}
use mathlib.Core.Logic.{◌≢◌}
use mathlib.Core.Bool.{Bool, true, false, cond, ◌&&◌, true≢false, false≢true}
use mathlib.Core.List.{List, [], ◌∷◌, ◌++◌, map}
use Prim.Native.Nat.{ℕ, zero, suc, ◌+◌, ◌<◌}
use native.Mathlib.Omega.{arith}
use lib.Dec.{T, eqb}
use lib.ListN.{length, get_or}
use lib.Pointwise.{pointwise}
use borrow.Author.Tests.{eqb-true, eq-eqb}
use Rattle.base_64.specs.Lists.{All, entries, same_bytes}
use Rattle.base_64.proofs.Tests.{both, both_left, both_right}

pub all_append : {A : Type 0} (P : A → Type 0) (a b : List A) → All P a → All P b → All P (a ++ b)
all_append P [] b ha hb = hb
all_append P (x ∷ a) b ha hb = (ha.0, all_append P a b ha.1 hb)

-- The two parts of such a list.
pub all_front : {A : Type 0} (P : A → Type 0) (a b : List A) → All P (a ++ b) → All P a
all_front P [] b h = tt
all_front P (x ∷ a) b h = (h.0, all_front P a b h.1)

pub all_back : {A : Type 0} (P : A → Type 0) (a b : List A) → All P (a ++ b) → All P b
all_back P [] b h = h
all_back P (x ∷ a) b h = all_back P a b h.1

pub all_imp : {A : Type 0} (P Q : A → Type 0) → ((x : A) → P x → Q x) → (a : List A) → All P a → All Q a
all_imp P Q f [] h = tt
all_imp P Q f (x ∷ a) h = (f x h.0, all_imp P Q f a h.1)

-- What holds of the images of a P holds of the images of a list of them.
pub all_map : {A B : Type 0} (f : A → B) (P : A → Type 0) (Q : B → Type 0) → ((x : A) → P x → Q (f x)) → (a : List A) → All P a → All Q (map f a)
all_map f P Q g [] h = tt
all_map f P Q g (x ∷ a) h = (g x h.0, all_map f P Q g a h.1)

-- Two functions that undo one another on each element undo one another on the list.
pub map_undone : {A B : Type 0} (f : A → B) (g : B → A) (P : A → Type 0) → ((x : A) → P x → g (f x) ≡ x)
    → (a : List A) → All P a → map g (map f a) ≡ a
map_undone f g P e [] h = refl
map_undone f g P e (x ∷ a) h = λ i. e x h.0 i ∷ map_undone f g P e a h.1 i

-- Each place of such a list, and a list by its places.
pub all_at : {A : Type 0} (P : A → Type 0) (l : List A) (z : A) → All P l → (i : ℕ) → i < length l → P (get_or l i z)
all_at P [] z h i k = absurd (omega arith)
all_at P (x ∷ l) z h zero k = h.0
all_at P (x ∷ l) z h (suc i) k = all_at P l z h.1 i (omega arith)

pub at_all : {A : Type 0} (P : A → Type 0) (l : List A) (z : A) → ((i : ℕ) → i < length l → P (get_or l i z)) → All P l
at_all P [] z f = tt
at_all P (x ∷ l) z f = (f 0 (omega arith), at_all P l z (λ i k. f (suc i) (omega arith)))

-- A list that is tested element by element.
abbrev pub all_test : {A : Type 0} → (A → Bool) → List A → Bool
all_test test [] = true
all_test test (x ∷ l) = both (test x) (all_test test l)

pub all_tested : {A : Type 0} (test : A → Bool) (P : A → Type 0) → ((x : A) → T (test x) → P x) → (l : List A) → T (all_test test l) → All P l
all_tested test P sound [] t = tt
all_tested test P sound (x ∷ l) t =
    (sound x (both_left (test x) (all_test test l) t), all_tested test P sound l (both_right (test x) (all_test test l) t))

-- The entry at a place.
pub entries_at : (f : ℕ → ℕ) (n c k : ℕ) → k < n → get_or (entries f c n) k 0 ≡ f (c + k)
entries_at f zero c k h = absurd (omega arith)
entries_at f (suc n) c zero h = let here : c ≡ c + 0 = omega arith in ap f here
entries_at f (suc n) c (suc k) h = let next : suc c + k ≡ c + suc k = omega arith in entries_at f n (suc c) k (omega arith) ∙ ap f next

-- ---- lists of bytes compared

pub same_refl : (a : List ℕ) → same_bytes a a ≡ true
unfolding same_bytes
same_refl [] = refl
same_refl (x ∷ a) = rw (eq-eqb x x refl) (same_refl a)

pub same_true : (a b : List ℕ) → same_bytes a b ≡ true → a ≡ b
unfolding same_bytes
same_true [] [] e = refl
same_true [] (y ∷ b) e = absurd (false≢true e)
same_true (x ∷ a) [] e = absurd (false≢true e)
same_true (x ∷ a) (y ∷ b) e = go (eqb x y) refl (same_true a b) e
  where
    go : (t : Bool) → eqb x y ≡ t → (same_bytes a b ≡ true → a ≡ b) → cond t (same_bytes a b) false ≡ true → x ∷ a ≡ y ∷ b
    go true h later k = λ i. eqb-true x y h i ∷ later k i
    go false h later k = absurd (false≢true k)

pub same_false : (a b : List ℕ) → same_bytes a b ≡ false → a ≢ b
same_false a b e h = true≢false (sym (same_refl a) ∙ ap (same_bytes a) h ∙ e)

-- The comparison of slices is the one of the definition.
pub same_slices : (a b : List ℕ) → pointwise eqb a b ≡ same_bytes a b
unfolding same_bytes
same_slices [] [] = refl
same_slices [] (y ∷ b) = refl
same_slices (x ∷ a) [] = refl
same_slices (x ∷ a) (y ∷ b) = go (eqb x y) (same_slices a b)
  where
    go : (t : Bool) → pointwise eqb a b ≡ same_bytes a b → t && pointwise eqb a b ≡ cond t (same_bytes a b) false
    go true later = later
    go false later = refl
