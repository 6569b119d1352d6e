-- The marks: no white and no alphabet character is a hyphen, line ends are white, and a label before two hyphens is cut in
-- one way only. Assumes nothing.
use mathlib.Core.Path.{◌≡◌, refl, sym, ◌∙◌, subst, ap}
use mathlib.Core.Logic.{◌≢◌, ◌⊎◌, inl, inr}
use mathlib.Core.List.{List, [], ◌∷◌, ◌++◌, head-eq_of_cons-eq, tail-eq_of_cons-eq, cons≢nil}
use Prim.Native.Nat.{ℕ, ◌<◌}
use native.Mathlib.Omega.{arith}
use Rattle.base_64.specs.Lists.{All}
use Rattle.base_64.specs.Alphabet.{AlphabetChar, alphabet, place_in, value_of, pad}
use Rattle.base_64.proofs.Alphabet.{pad_outside}
use Rattle.base_64.proofs.Lists.{all_imp}
use Rattle.grammar.specs.Marks.{CR, LF, SP, hyphen, Blank, White, LineEnd, crlf, cr, lf, LabelChar, Separator, LabelChars, last, next, separated, Label, empty, chars}

-- ---- what is no alphabet character

-- A mark outside the alphabet.
outside : {c mark : ℕ} → value_of mark ≡ 64 → c ≡ mark → ¬ AlphabetChar c
outside out e h = let k : value_of _ ≡ 64 = ap value_of e ∙ out in omega arith

pub pad_no_alphabet : ¬ AlphabetChar pad
pad_no_alphabet = outside pad_outside refl

pub end_no_alphabet : {c : ℕ} → (c ≡ CR) ⊎ (c ≡ LF) → ¬ AlphabetChar c
unfolding value_of place_in alphabet
end_no_alphabet (inl e) = outside refl e
end_no_alphabet (inr e) = outside refl e

-- ---- hyphens

abbrev pub NoHyphen : ℕ → Type 0
NoHyphen c = c ≢ hyphen

-- White is no mark above CR but SP.
white_no_mark : (mark : ℕ) → CR < mark → mark ≢ SP → (c : ℕ) → White c → c ≢ mark
white_no_mark mark high no-space c (inl (inl h)) e = omega arith
white_no_mark mark high no-space c (inl (inr h)) e = no-space (sym e ∙ h)
white_no_mark mark high no-space c (inr (inl h)) e = omega arith
white_no_mark mark high no-space c (inr (inr (inl h))) e = omega arith
white_no_mark mark high no-space c (inr (inr (inr (inl h)))) e = omega arith
white_no_mark mark high no-space c (inr (inr (inr (inr h)))) e = omega arith

pub white_no_hyphen : (c : ℕ) → White c → NoHyphen c
white_no_hyphen = white_no_mark hyphen (omega arith) (λ e. omega arith)

pub white_no_pad : (c : ℕ) → White c → c ≢ pad
white_no_pad = white_no_mark pad (omega arith) (λ e. omega arith)

pub alphabet_no_hyphen : (c : ℕ) → AlphabetChar c → NoHyphen c
unfolding value_of place_in alphabet
alphabet_no_hyphen c h e = outside refl e h

pub pad_no_hyphen : NoHyphen pad
pad_no_hyphen e = omega arith

-- ---- white

pub blanks_white : (b : List ℕ) → All Blank b → All White b
blanks_white b h = all_imp Blank White (λ c k. inl k) b h

pub end_white : {e rest : List ℕ} → LineEnd e rest → All White e
end_white crlf = (inr (inl refl), (inr (inr (inl refl)), tt))
end_white (cr h) = (inr (inl refl), tt)
end_white lf = (inr (inr (inl refl)), tt)

-- ---- line ends

pub end_some : {e rest : List ℕ} → LineEnd e rest → (x : List ℕ) → e ++ x ≢ []
end_some crlf x e = cons≢nil e
end_some (cr h) x e = cons≢nil e
end_some lf x e = cons≢nil e

-- A line end starts with CR or LF, so with no blank.
pub end_head : {e rest : List ℕ} → LineEnd e rest → (x : List ℕ) {c : ℕ} {y : List ℕ} → e ++ x ≡ c ∷ y → (c ≡ CR) ⊎ (c ≡ LF)
end_head crlf x e = inl (sym (head-eq_of_cons-eq e))
end_head (cr h) x e = inl (sym (head-eq_of_cons-eq e))
end_head lf x e = inr (sym (head-eq_of_cons-eq e))

-- One that starts with LF is LF.
pub end_lf : {e rest : List ℕ} → LineEnd e rest → (x : List ℕ) {y : List ℕ} → e ++ x ≡ LF ∷ y → x ≡ y
end_lf crlf x e = let k : CR ≡ LF = head-eq_of_cons-eq e in absurd (omega arith)
end_lf (cr h) x e = let k : CR ≡ LF = head-eq_of_cons-eq e in absurd (omega arith)
end_lf lf x e = tail-eq_of_cons-eq e

-- A line end is cut off in one way only. For CRLF it is the rule that CR alone, with LF behind it, is none.
pub end_unique : {e f x y : List ℕ} → LineEnd e x → LineEnd f y → e ++ x ≡ f ++ y → x ≡ y
end_unique crlf crlf q = tail-eq_of_cons-eq (tail-eq_of_cons-eq q)
end_unique {x = x} crlf (cr k) q = absurd (k x (sym (tail-eq_of_cons-eq q)))
end_unique {x = x} crlf lf q = end_lf {rest = x} crlf x q
end_unique {y = y} (cr h) crlf q = absurd (h y (tail-eq_of_cons-eq q))
end_unique (cr h) (cr k) q = tail-eq_of_cons-eq q
end_unique {x = x} (cr h) lf q = end_lf (cr h) x q
end_unique {y = y} lf k q = sym (end_lf k y (sym q))

pub blank_no_end : {c : ℕ} → Blank c → (c ≡ CR) ⊎ (c ≡ LF) → ⊥
blank_no_end (inl h) (inl e) = omega arith
blank_no_end (inl h) (inr e) = omega arith
blank_no_end (inr h) (inl e) = omega arith
blank_no_end (inr h) (inr e) = omega arith

pub pad_no_end : ¬ ((pad ≡ CR) ⊎ (pad ≡ LF))
pad_no_end (inl e) = omega arith
pad_no_end (inr e) = omega arith

-- ---- labels

pub empty_label : Label []
empty_label = empty

chars_head : {l : List ℕ} → LabelChars l → (z : List ℕ) {c : ℕ} {y : List ℕ} → l ++ z ≡ c ∷ y → LabelChar c
chars_head (last h) z e = subst LabelChar (head-eq_of_cons-eq e) h
chars_head (next h w) z e = subst LabelChar (head-eq_of_cons-eq e) h
chars_head (separated h s w) z e = subst LabelChar (head-eq_of_cons-eq e) h

pub no_separator : {c : ℕ} → LabelChar c → Separator c → ⊥
no_separator (inl h) (inl e) = omega arith
no_separator (inl h) (inr e) = omega arith
no_separator (inr h) (inl e) = omega arith
no_separator (inr h) (inr e) = omega arith

-- Two hyphens end a label: the first could be a separator, but then a label character stands behind it.
no_hyphen_char : LabelChar hyphen → ⊥
no_hyphen_char (inl h) = omega arith
no_hyphen_char (inr h) = omega arith

chars_no_hyphen : {l : List ℕ} → LabelChars l → (z y : List ℕ) → l ++ z ≡ hyphen ∷ y → ⊥
chars_no_hyphen w z y e = no_hyphen_char (chars_head w z e)

chars_unique : {l m : List ℕ} → LabelChars l → LabelChars m → (x y : List ℕ)
    → l ++ (hyphen ∷ hyphen ∷ x) ≡ m ++ (hyphen ∷ hyphen ∷ y) → (l ≡ m) × (x ≡ y)
chars_unique (last h) (last k) x y e = (cc, cc)
chars_unique (last h) (next k v) x y e = absurd (chars_no_hyphen v _ _ (sym (tail-eq_of_cons-eq e)))
chars_unique (last h) (separated k s v) x y e = absurd (chars_no_hyphen v _ _ (sym (tail-eq_of_cons-eq (tail-eq_of_cons-eq e))))
chars_unique (next h w) (last k) x y e = absurd (chars_no_hyphen w _ _ (tail-eq_of_cons-eq e))
chars_unique (next h w) (next k v) x y e =
    let rest = chars_unique w v x y (tail-eq_of_cons-eq e) in
    (λ i. head-eq_of_cons-eq e i ∷ rest.0 i, rest.1)
chars_unique (next h w) (separated k s v) x y e = absurd (no_separator (chars_head w _ (tail-eq_of_cons-eq e)) s)
chars_unique (separated h s w) (last k) x y e = absurd (chars_no_hyphen w _ _ (tail-eq_of_cons-eq (tail-eq_of_cons-eq e)))
chars_unique (separated h s w) (next k v) x y e = absurd (no_separator (chars_head v _ (sym (tail-eq_of_cons-eq e))) s)
chars_unique (separated h s w) (separated k t v) x y e =
    let rest = chars_unique w v x y (tail-eq_of_cons-eq (tail-eq_of_cons-eq e)) in
    (λ i. head-eq_of_cons-eq e i ∷ head-eq_of_cons-eq (tail-eq_of_cons-eq e) i ∷ rest.0 i, rest.1)

pub label_unique : {l m : List ℕ} → Label l → Label m → (x y : List ℕ)
    → l ++ (hyphen ∷ hyphen ∷ x) ≡ m ++ (hyphen ∷ hyphen ∷ y) → (l ≡ m) × (x ≡ y)
label_unique empty empty x y e = (refl, tail-eq_of_cons-eq (tail-eq_of_cons-eq e))
label_unique empty (chars v) x y e = absurd (chars_no_hyphen v _ _ (sym e))
label_unique (chars w) empty x y e = absurd (chars_no_hyphen w _ _ e)
label_unique (chars w) (chars v) x y e = chars_unique w v x y e
