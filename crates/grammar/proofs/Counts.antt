-- The alphabet characters and the pads of a body, part by part. Under lax there are at most two pads; under strict the numbers
-- always fit. Assumes nothing.
use mathlib.Core.Path.{◌≡◌, refl, ap}
use mathlib.Core.Logic.{◌≢◌, inl, inr}
use mathlib.Core.Bool.{Bool, true, false, cond}
use mathlib.Core.List.{List, [], ◌∷◌, ◌++◌}
use Prim.Native.Nat.{ℕ, zero, suc, ◌+◌, ◌%◌, ◌≤◌}
use native.Mathlib.Omega.{arith}
use lib.Dec.{eqb, ltb}
use lib.ListN.{length, replicate, length-append}
use borrow.Author.Tests.{ltb-true, lt-ltb, ne_eqb}
use Rattle.base_64.specs.Lists.{All}
use Rattle.base_64.specs.Alphabet.{AlphabetChar, alphabet, place_in, value_of, radix, pad}
use Rattle.base_64.specs.Groups.{CountsFit}
use Rattle.base_64.proofs.Groups.{counts_mod}
use Rattle.grammar.specs.Marks.{White, LineEnd, crlf, cr, lf}
use Rattle.grammar.specs.Grammars.{Mixed, LaxPads, LaxBody, Groups, StrictLines, StrictBody}
use Rattle.grammar.specs.Message.{characters, pad_count}
use Rattle.grammar.proofs.Marks.{pad_no_alphabet, white_no_pad}

-- ---- of lists joined

pub characters_append : (a b : List ℕ) → characters (a ++ b) ≡ characters a ++ characters b
unfolding characters
characters_append [] b = refl
characters_append (c ∷ a) b = go (ltb (value_of c) radix) (characters_append a b)
  where
    go : (t : Bool) → characters (a ++ b) ≡ characters a ++ characters b
        → cond t (c ∷ characters (a ++ b)) (characters (a ++ b)) ≡ cond t (c ∷ characters a) (characters a) ++ characters b
    go true e = ap (λ (l : List ℕ). c ∷ l) e
    go false e = e

pub pads_append : (a b : List ℕ) → pad_count (a ++ b) ≡ pad_count a + pad_count b
unfolding pad_count
pads_append [] b = omega arith
pads_append (c ∷ a) b = go (eqb c pad) (pads_append a b)
  where
    go : (t : Bool) → pad_count (a ++ b) ≡ pad_count a + pad_count b
        → cond t (suc (pad_count (a ++ b))) (pad_count (a ++ b)) ≡ cond t (suc (pad_count a)) (pad_count a) + pad_count b
    go true e = omega arith
    go false e = e

-- ---- of alphabet characters and of line ends

pub characters_alphabet : (a : List ℕ) → All AlphabetChar a → characters a ≡ a
unfolding characters
characters_alphabet [] h = refl
characters_alphabet (c ∷ a) h = rw (lt-ltb (value_of c) radix h.0) (ap (λ (l : List ℕ). c ∷ l) (characters_alphabet a h.1))

-- Whatever the body, its characters are such.
pub characters_all : (l : List ℕ) → All AlphabetChar (characters l)
unfolding characters
characters_all [] = tt
characters_all (c ∷ l) = go (ltb (value_of c) radix) refl (characters_all l)
  where
    go : (b : Bool) → ltb (value_of c) radix ≡ b → All AlphabetChar (characters l) → All AlphabetChar (cond b (c ∷ characters l) (characters l))
    go true e h = (ltb-true (value_of c) radix e, h)
    go false e h = h

alphabet_no_pad : (c : ℕ) → AlphabetChar c → c ≢ pad
alphabet_no_pad c h e = pad_no_alphabet (rw e at h)

-- A list of a kind that the pad is not of has none.
pads_none : (P : ℕ → Type 0) → ((c : ℕ) → P c → c ≢ pad) → (l : List ℕ) → All P l → pad_count l ≡ 0
unfolding pad_count
pads_none P f [] h = refl
pads_none P f (c ∷ l) h = rw (ne_eqb c pad (f c h.0)) (pads_none P f l h.1)

pub pads_alphabet : (a : List ℕ) → All AlphabetChar a → pad_count a ≡ 0
pads_alphabet = pads_none AlphabetChar alphabet_no_pad

pub end_counts : {e rest : List ℕ} → LineEnd e rest → (characters e ≡ []) × (pad_count e ≡ 0)
unfolding characters pad_count value_of place_in alphabet
end_counts crlf = (refl, refl)
end_counts (cr h) = (refl, refl)
end_counts lf = (refl, refl)

pub characters_pads : (p : ℕ) → characters (replicate p pad) ≡ []
unfolding characters value_of place_in alphabet
characters_pads zero = refl
characters_pads (suc p) = characters_pads p

pub pads_pads : (p : ℕ) → pad_count (replicate p pad) ≡ p
unfolding pad_count
pads_pads zero = refl
pads_pads (suc p) = ap suc (pads_pads p)

-- ---- at most two pads under lax

mixed_no_pad : (c : ℕ) → Mixed c → c ≢ pad
mixed_no_pad c (inl h) = white_no_pad c h
mixed_no_pad c (inr h) = alphabet_no_pad c h

lax_pads : {p : List ℕ} → LaxPads p → pad_count p ≤ 2
unfolding pad_count
lax_pads LaxPads.none = omega arith
lax_pads (LaxPads.one w h) = omega (arith, pads_none White white_no_pad w h)
lax_pads (LaxPads.two v w h k) = omega (arith, pads_append v (pad ∷ w), pads_none White white_no_pad v h, pads_none White white_no_pad w k)

pub lax_body_pads : {b : List ℕ} → LaxBody b → pad_count b ≤ 2
lax_body_pads (LaxBody.lax m p hm hp) = omega (arith, pads_append m p, pads_none Mixed mixed_no_pad m hm, lax_pads hp)

-- ---- numbers that fit

abbrev pub Fit : List ℕ → Type 0
Fit l = CountsFit (length (characters l)) (pad_count l)

-- The parts of a list give its numbers.
joined_fit : (a b : List ℕ) (n p : ℕ) → length (characters a) + length (characters b) ≡ n → pad_count a + pad_count b ≡ p → CountsFit n p → Fit (a ++ b)
joined_fit a b n p en ep f = rw (characters_append a b, length-append, en, pads_append a b, ep) f

-- Characters, then the pads that they want.
pub padded_fit : (a : List ℕ) (p : ℕ) → All AlphabetChar a → CountsFit (length a) p → Fit (a ++ replicate p pad)
padded_fit a p h f =
    joined_fit a (replicate p pad) (length a) p
    (rw (characters_alphabet a h, characters_pads p) (omega arith)) (rw (pads_alphabet a h, pads_pads p) (omega arith)) f

-- Whole groups in front change nothing.
groups_then_fit : (a x : List ℕ) → All AlphabetChar a → length a % 4 ≡ 0 → Fit x → Fit (a ++ x)
groups_then_fit a x h whole f =
    joined_fit a x (length a + length (characters x)) (pad_count x) (rw (characters_alphabet a h)) (rw (pads_alphabet a h) (omega arith))
    (counts_mod (length (characters x)) (length a + length (characters x)) (pad_count x) (omega arith) f)

-- A line end in front or behind changes nothing.
end_then_fit : {e rest : List ℕ} (x : List ℕ) → LineEnd e rest → Fit x → Fit (e ++ x)
end_then_fit {e} x h f =
    joined_fit e x (length (characters x)) (pad_count x) (rw (end_counts h).0 (omega arith)) (rw (end_counts h).1 (omega arith)) f

then_end_fit : {e rest : List ℕ} (x : List ℕ) → LineEnd e rest → Fit x → Fit (x ++ e)
then_end_fit {e} x h f =
    joined_fit x e (length (characters x)) (pad_count x) (rw (end_counts h).0 (omega arith)) (rw (end_counts h).1 (omega arith)) f

-- ---- under strict

groups_fit : {n : ℕ} {g : List ℕ} → Groups n g → Fit g
groups_fit (Groups.four {a} {b} {c} {d} ha hb hc hd) = padded_fit (a ∷ b ∷ c ∷ d ∷ []) 0 (ha, (hb, (hc, (hd, tt)))) (inl (refl, refl))
groups_fit (Groups.three {a} {b} {c} ha hb hc) = padded_fit (a ∷ b ∷ c ∷ []) 1 (ha, (hb, (hc, tt))) (inr (inr (refl, refl)))
groups_fit (Groups.two {a} {b} ha hb) = padded_fit (a ∷ b ∷ []) 2 (ha, (hb, tt)) (inr (inl (refl, refl)))
groups_fit (Groups.more {a} {b} {c} {d} {rest = rest} ha hb hc hd g) =
    groups_then_fit (a ∷ b ∷ c ∷ d ∷ []) rest (ha, (hb, (hc, (hd, tt)))) refl (groups_fit g)

lines_fit : {l : List ℕ} → StrictLines l → Fit l
lines_fit (StrictLines.final n g e hg hn he) = then_end_fit g he (groups_fit hg)
lines_fit (StrictLines.line a e rest ha full he l) = groups_then_fit a (e ++ rest) ha (omega arith) (end_then_fit rest he (lines_fit l))

pub strict_body_fit : {b : List ℕ} → StrictBody b → Fit b
strict_body_fit (StrictBody.strict e rest he l) = end_then_fit rest he (lines_fit l)
