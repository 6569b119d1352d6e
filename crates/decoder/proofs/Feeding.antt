-- What is still to come of a body's data, byte by byte. Assumes nothing.
use mathlib.Core.Path.{◌≡◌, refl, ap, subst, ◌∙◌}
use mathlib.Core.Bool.{Bool, true, false, cond}
use mathlib.Core.List.{List, [], ◌∷◌}
use Prim.Native.Nat.{ℕ, ◌+◌, ◌<◌}
use native.Mathlib.Omega.{arith}
use native.Mathlib.Numerals.{add-one}
use lib.Dec.{ltb}
use lib.ListN.{length, drop, get_or, length-drop}
use lib.Seq.{drop-cons}
use borrow.Author.Tests.{ltb-true}
use Rattle.base_64.specs.Alphabet.{radix, Sextet, value_of}
use Rattle.std.specs.Prelude.{Option, Some, None}
use Rattle.base_64.specs.Groups.{values_of}
use Rattle.grammar.specs.Message.{characters}
use Rattle.decoder.specs.declared.Open.{Open}
use Rattle.decoder.specs.declared.Open.TheVariants.{Start, One, Two, Three}
use Rattle.decoder.specs.declared.Fed.{Fed}
use Rattle.decoder.specs.Feeding.{HoldsValue, leaves, fed, fed_byte, ahead, ahead_body}

-- The bytes that a byte gives, and those that are to come behind it.
abbrev pub behind : Option ℕ → List ℕ → List ℕ
behind None l = l
behind (Some b) l = b ∷ l

abbrev pub ahead_fed : Fed → List ℕ → List ℕ
ahead_fed f vs = behind f.byte (ahead f.group vs)

ahead_value : (g : Open) (v : ℕ) (vs : List ℕ) → ahead g (v ∷ vs) ≡ ahead_fed (fed g v) vs
ahead_value Start v vs = refl
ahead_value (One a) v [] = refl
ahead_value (One a) v (c ∷ []) = refl
ahead_value (One a) v (c ∷ d ∷ r) = refl
ahead_value (Two b) v [] = refl
ahead_value (Two b) v (d ∷ r) = refl
ahead_value (Three c) v vs = refl

pub ahead_none : (g : Open) → ahead_body g [] ≡ []
unfolding characters
ahead_none Start = refl
ahead_none (One a) = refl
ahead_none (Two b) = refl
ahead_none (Three c) = refl

ahead_byte : (g : Open) (c : ℕ) (l : List ℕ) → ahead_body g (c ∷ l) ≡ ahead_fed (fed_byte g c) (values_of (characters l))
unfolding characters
ahead_byte g c l = go (ltb (value_of c) radix)
  where
    go : (t : Bool) → ahead g (values_of (cond t (c ∷ characters l) (characters l))) ≡ ahead_fed (cond t (fed g (value_of c)) (leaves g)) (values_of (characters l))
    go true = ahead_value g (value_of c) (values_of (characters l))
    go false = refl

-- A group that the next byte of a body leaves holds a value again.
value_holds : (g : Open) (v : ℕ) → Sextet v → HoldsValue (fed g v).group
value_holds Start v h = h
value_holds (One a) v h = h
value_holds (Two b) v h = h
value_holds (Three c) v h = tt

byte_holds : (g : Open) (c : ℕ) → HoldsValue g → HoldsValue (fed_byte g c).group
byte_holds g c h = go (ltb (value_of c) radix) refl
  where
    go : (t : Bool) → ltb (value_of c) radix ≡ t → HoldsValue (cond t (fed g (value_of c)) (leaves g)).group
    go true e = value_holds g (value_of c) (ltb-true (value_of c) radix e)
    go false e = h

pub ahead_next : (g : Open) (f : Fed) (c : ℕ) (l : List ℕ) → HoldsValue g → fed_byte g c ≡ f
    → HoldsValue f.group × (ahead_body g (c ∷ l) ≡ ahead_fed f (values_of (characters l)))
ahead_next g f c l h e = (subst (λ (x : Fed). HoldsValue x.group) e (byte_holds g c h), ahead_byte g c l ∙ ap (λ (x : Fed). ahead_fed x (values_of (characters l))) e)

-- ---- what is left of a list

pub rest_more : (d : List ℕ) (n b : ℕ) (r : List ℕ) → drop n d ≡ b ∷ r → n < length d
rest_more d n b r h = omega (arith, simp length-drop at (ap length h))

pub rest_next : (d : List ℕ) (n b : ℕ) (r : List ℕ) → drop n d ≡ b ∷ r → (get_or d n 0 ≡ b) × (drop (n + 1) d ≡ r)
rest_next d n b r h =
    let e = drop-cons d n 0 (rest_more d n b r h) in
    (cc, rw add-one (cc))
