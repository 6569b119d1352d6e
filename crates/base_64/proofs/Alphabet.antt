-- The alphabet: the character of a value has that value, and no other byte has it. Assumes nothing.
use mathlib.Core.Path.{◌≡◌, refl, sym, ap, ◌∙◌}
use mathlib.Core.Bool.{Bool, true, false, cond}
use mathlib.Core.List.{List, [], ◌∷◌}
use Prim.Native.Nat.{ℕ, suc, ◌≤◌, ◌<◌}
use native.Mathlib.Omega.{arith}
use lib.Dec.{eqb, ltb, eqb→eq}
use lib.ListN.{length, get_or}
use borrow.Author.Tests.{eqb-true, ltb-true, ltb-false}
use Rattle.base_64.specs.Alphabet.{radix, Sextet, AlphabetChar, alphabet, char_of, place_in, value_of, pad, answer_of}
use Rattle.std.specs.Prelude.{Some, None}
use Rattle.base_64.proofs.Tests.{below_at}

-- What stands at the place of c is c.
place_found : (xs : List ℕ) (c : ℕ) → place_in xs c < length xs → get_or xs (place_in xs c) 0 ≡ c
unfolding place_in
place_found [] c h = absurd (omega arith)
place_found (x ∷ xs) c h = go (eqb x c) refl (place_found xs c) h
  where
    go : (here : Bool) → eqb x c ≡ here → (place_in xs c < length xs → get_or xs (place_in xs c) 0 ≡ c)
        → cond here 0 (suc (place_in xs c)) < length (x ∷ xs) → get_or (x ∷ xs) (cond here 0 (suc (place_in xs c))) 0 ≡ c
    go true e later k = eqb-true x c e
    go false e later k = later (omega arith)

-- The character of a value has that value: one test over the alphabet.
pub value_char : (v : ℕ) → Sextet v → value_of (char_of v) ≡ v
unfolding value_of place_in alphabet
value_char v h = eqb→eq _ _ (below_at (λ k. eqb (value_of (char_of k)) k) 64 tt v h)

-- No other byte has it.
pub char_value : (c : ℕ) → AlphabetChar c → char_of (value_of c) ≡ c
unfolding value_of alphabet
char_value c h = place_found alphabet c h

pub value_unique : (c d : ℕ) → AlphabetChar c → value_of c ≡ value_of d → c ≡ d
value_unique c d h e = sym (char_value c h) ∙ ap char_of e ∙ char_value d (rw e at h)

-- The pad is no character of the alphabet.
pub pad_outside : value_of pad ≡ 64
unfolding value_of place_in alphabet
pad_outside = refl

-- The place is at most the length.
place_within : (xs : List ℕ) (c : ℕ) → place_in xs c ≤ length xs
unfolding place_in
place_within [] c = omega arith
place_within (x ∷ xs) c = go (eqb x c) (place_within xs c)
  where
    go : (here : Bool) → place_in xs c ≤ length xs → cond here 0 (suc (place_in xs c)) ≤ length (x ∷ xs)
    go true h = omega arith
    go false h = omega arith

-- A byte outside the alphabet has the radix for its value.
pub value_outside : (c : ℕ) → ltb (value_of c) radix ≡ false → value_of c ≡ radix
unfolding value_of alphabet
value_outside c h = omega (arith, ltb-false (value_of c) radix h, place_within alphabet c)

-- What an answer of the code tells of the byte.
pub answer_value : (c v : ℕ) → answer_of c ≡ Some v → Sextet v × (value_of c ≡ v)
answer_value c v e = go (ltb (value_of c) radix) refl e
  where
    go : (t : Bool) → ltb (value_of c) radix ≡ t → cond t (Some (value_of c)) None ≡ Some v → Sextet v × (value_of c ≡ v)
    go true h k =
        let same : value_of c ≡ v = cc in
        (omega (arith, ltb-true (value_of c) radix h), same)
    go false h k =
        let z : ◌≡◌ {A = ℕ} 0 1 = cc in
        absurd (omega arith)

pub answer_none : (c : ℕ) → answer_of c ≡ None → value_of c ≡ radix
answer_none c e = go (ltb (value_of c) radix) refl e
  where
    go : (t : Bool) → ltb (value_of c) radix ≡ t → cond t (Some (value_of c)) None ≡ None → value_of c ≡ radix
    go true h k =
        let z : ◌≡◌ {A = ℕ} 0 1 = cc in
        absurd (omega arith)
    go false h k = value_outside c h
