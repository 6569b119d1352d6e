-- Each byte is one of the marks, or an alphabet character, or another character of labels, or none of these. Assumes nothing.
use mathlib.Core.Path.{◌≡◌, refl, sym, subst}
use mathlib.Core.Logic.{inl, inr, ◌≢◌}
use mathlib.Core.Bool.{Bool, true, false, cond}
use Prim.Native.Nat.{ℕ, ◌≤◌, ◌<◌}
use lib.Dec.{T, eqb, ltb}
use native.Mathlib.Omega.{arith}
use borrow.Author.Tests.{eqb-true, eqb-false, ne_eqb, ltb-true, ltb-false, lt-ltb}
use Rattle.base_64.specs.Alphabet.{radix, pad, alphabet, place_in, char_of, value_of, AlphabetChar}
use Rattle.base_64.proofs.Alphabet.{char_value}
use Rattle.base_64.proofs.Tests.{both, below_at}
use Rattle.grammar.specs.Marks.{HT, LF, VT, FF, CR, SP, hyphen, White, LabelChar}
use Rattle.machine.proofs.ByteKinds.{kind_of, other_kind}
use Rattle.machine.specs.declared.Kind.{Kind}
use Rattle.machine.specs.declared.Kind.TheVariants.{Alphabet, Mark, Other}

-- A byte that is neither CR nor LF, as the machine sees it.
pub record Seen (k : Kind) (c : ℕ) : Type 0 where
  pub kind : kind_of c ≡ k
  pub no_cr : eqb c CR ≡ false
  pub no_lf : eqb c LF ≡ false

-- What a byte is.
pub data View : ℕ → Type 0 where
  tab : View HT
  space : View SP
  cr : View CR
  lf : View LF
  vt : View VT
  ff : View FF
  dash : View hyphen
  equals : View pad
  char : {c : ℕ} → AlphabetChar c → LabelChar c → Seen Alphabet c → View c
  mark : {c : ℕ} → LabelChar c → Seen Mark c → View c
  other : {c : ℕ} → ¬ LabelChar c → Seen Other c → View c

-- None of the eight bytes that are a kind of their own.
abbrev NoMark : ℕ → Type 0
NoMark c = (c ≢ HT) × (c ≢ LF) × (c ≢ VT) × (c ≢ FF) × (c ≢ CR) × (c ≢ SP) × (c ≢ hyphen) × (c ≢ pad)

-- Such a byte is of the kind that the other tests say.
other_seen : (c : ℕ) (k : Kind) → other_kind c ≡ k → NoMark c → Seen k c
other_seen c k e (n1, n2, n3, n4, n5, n6, n7, n8) =
    record {
      kind = rw (kind_of, ne_eqb c HT n1, ne_eqb c LF n2, ne_eqb c VT n3, ne_eqb c FF n4, ne_eqb c CR n5, ne_eqb c SP n6, ne_eqb c hyphen n7, ne_eqb c pad n8) e;
      no_cr = ne_eqb c CR n5;
      no_lf = ne_eqb c LF n2;
    }

-- The bytes from 33 to 126 other than the hyphen are characters of labels,
label_char : (c : ℕ) → 33 ≤ c → c ≤ 126 → c ≢ hyphen → LabelChar c
label_char c lo hi n = go (ltb c 45) refl
  where
    go : (b : Bool) → ltb c 45 ≡ b → LabelChar c
    go true e = inl (omega (arith, ltb-true c 45 e))
    go false e = inr (omega (arith, ltb-false c 45 e, n))

-- and no others are.
label_char_bounds : (c : ℕ) → LabelChar c → (33 ≤ c) × (c ≤ 126)
label_char_bounds c (inl l) = omega arith
label_char_bounds c (inr l) = omega arith

-- The same as a test,
abbrev label_test : ℕ → Bool
label_test c = both (ltb 32 c) (both (ltb c 127) (cond (eqb c hyphen) false true))

-- which tells no more than is so,
label_tested : (c : ℕ) → T (label_test c) → LabelChar c
label_tested c t = go (ltb 32 c) refl (ltb c 127) refl (eqb c hyphen) refl t
  where
    go : (a : Bool) → ltb 32 c ≡ a → (b : Bool) → ltb c 127 ≡ b → (d : Bool) → eqb c hyphen ≡ d → T (both a (both b (cond d false true))) → LabelChar c
    go true ea true eb false ed t = label_char c (omega (arith, ltb-true 32 c ea)) (omega (arith, ltb-true c 127 eb)) (eqb-false c hyphen ed)
    go true ea true eb true ed t = absurd t
    go true ea false eb d ed t = absurd t
    go false ea b eb d ed t = absurd t

-- and which each alphabet character passes.
alphabet_label : (c : ℕ) → AlphabetChar c → LabelChar c
unfolding alphabet
alphabet_label c a = subst LabelChar (char_value c a) (label_tested _ (below_at (λ v. label_test (char_of v)) 64 tt (value_of c) a))

-- What a byte is that is none of those eight.
other_view : (c : ℕ) → NoMark c → View c
other_view c n = go (ltb (value_of c) radix) refl (ltb c 33) refl (ltb 126 c) refl
  where
    go : (a : Bool) → ltb (value_of c) radix ≡ a → (b : Bool) → ltb c 33 ≡ b → (d : Bool) → ltb 126 c ≡ d → View c
    go true ea b eb d ed = char (ltb-true _ _ ea) (alphabet_label c (ltb-true _ _ ea)) (other_seen c Alphabet (rw (other_kind, ea)) n)
    go false ea true eb d ed = other (λ (l : LabelChar c). omega (arith, ltb-true c 33 eb, label_char_bounds c l)) (other_seen c Other (rw (other_kind, ea, eb)) n)
    go false ea false eb true ed = other (λ (l : LabelChar c). omega (arith, ltb-true 126 c ed, label_char_bounds c l)) (other_seen c Other (rw (other_kind, ea, eb, ed)) n)
    go false ea false eb false ed = mark (label_char c (ltb-false _ _ eb) (ltb-false _ _ ed) n.6) (other_seen c Mark (rw (other_kind, ea, eb, ed)) n)

-- A byte is a mark, or it is not.
view_or : (c m : ℕ) → View m → (c ≢ m → View c) → View c
view_or c m v f = go (eqb c m) refl
  where
    go : (b : Bool) → eqb c m ≡ b → View c
    go true e = subst View (sym (eqb-true c m e)) v
    go false e = f (eqb-false c m e)

-- Each byte has its view.
pub view : (c : ℕ) → View c
view c =
    view_or c HT tab (λ n1. view_or c LF lf (λ n2. view_or c VT vt (λ n3. view_or c FF ff (λ n4. view_or c CR cr (λ n5.
    view_or c SP space (λ n6. view_or c hyphen dash (λ n7. view_or c pad equals (λ n8.
    other_view c (n1, n2, n3, n4, n5, n6, n7, n8)))))))))

-- The machine sees an alphabet character as one, for it is none of the marks.
pub alphabet_seen : (c : ℕ) → AlphabetChar c → Seen Alphabet c
unfolding value_of place_in alphabet
alphabet_seen c a =
    other_seen c Alphabet (rw (other_kind, lt-ltb (value_of c) radix a))
    (not HT refl, not LF refl, not VT refl, not FF refl, not CR refl, not SP refl, not hyphen refl, not pad refl)
  where
    not : (m : ℕ) → ltb (value_of m) radix ≡ false → c ≢ m
    not m e q = let k : radix ≤ value_of m = ltb-false _ _ e in let h : value_of m < radix = subst AlphabetChar q a in omega arith

-- The six marks that are white.
pub ht_white : White HT
ht_white = inl (inl refl)

pub sp_white : White SP
sp_white = inl (inr refl)

pub cr_white : White CR
cr_white = inr (inl refl)

pub lf_white : White LF
lf_white = inr (inr (inl refl))

pub vt_white : White VT
vt_white = inr (inr (inr (inl refl)))

pub ff_white : White FF
ff_white = inr (inr (inr (inr refl)))
