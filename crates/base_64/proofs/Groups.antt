-- Bytes, values and characters, there and back. Assumes nothing.
use mathlib.Core.Path.{◌≡◌, refl, ◌∙◌, ap}
use mathlib.Core.Logic.{inl, inr}
use mathlib.Core.List.{List, [], ◌∷◌, ◌++◌, map}
use Prim.Native.Nat.{ℕ, zero, suc, ◌+◌, ◌*◌, ◌/◌, ◌%◌, ◌≤◌, ◌<◌}
use native.Mathlib.Omega.{arith}
use lib.ListN.{length, get_or, replicate, length-append, length-map, length-replicate}
use Rattle.base_64.specs.Lists.{All}
use Rattle.base_64.specs.Alphabet.{Sextet, Octet, AlphabetChar, char_of, value_of, pad}
use Rattle.base_64.specs.Groups.{value1, value2, value3, value4, to_values, pads_for, byte1, byte2, byte3, to_bytes, spare_bits, CountsFit, values_of, chars_of, encode, decode}
use Rattle.base_64.proofs.Lists.{all_map, all_at, map_undone}
use Rattle.base_64.proofs.Alphabet.{value_char, char_value}

-- ---- kinds and counts

pub values_sextets : (d : List ℕ) → All Octet d → All Sextet (to_values d)
values_sextets [] h = tt
values_sextets (x ∷ []) h = (omega arith, (omega arith, tt))
values_sextets (x ∷ y ∷ []) h = (omega arith, (omega arith, (omega arith, tt)))
values_sextets (x ∷ y ∷ z ∷ r) h = (omega arith, (omega arith, (omega arith, (omega arith, values_sextets r h.1.1.1))))

pub value_at : (v d : List ℕ) → v ≡ to_values d → All Octet d → (i : ℕ) → i < length (to_values d) → Sextet (get_or v i 0)
value_at v d e h i k = rw e (all_at Sextet (to_values d) 0 (values_sextets d h) i k)

pub bytes_octets : (v : List ℕ) → All Sextet v → All Octet (to_bytes v)
bytes_octets [] h = tt
bytes_octets (a ∷ []) h = tt
bytes_octets (a ∷ b ∷ []) h = (omega arith, tt)
bytes_octets (a ∷ b ∷ c ∷ []) h = (omega arith, (omega arith, tt))
bytes_octets (a ∷ b ∷ c ∷ d ∷ r) h = (omega arith, (omega arith, (omega arith, bytes_octets r h.1.1.1.1)))

-- The characters of bytes are those of the alphabet.
pub chars_alphabet : (d : List ℕ) → All Octet d → All AlphabetChar (chars_of d)
chars_alphabet d h = all_map char_of Sextet AlphabetChar (λ v k. rw (value_char v k) k) (to_values d) (values_sextets d h)

-- What is encoded has no spare bits, and its counts fit.
pub values_spare : (d : List ℕ) → spare_bits (to_values d) ≡ 0
values_spare [] = refl
values_spare (x ∷ []) = omega arith
values_spare (x ∷ y ∷ []) = omega arith
values_spare (x ∷ y ∷ z ∷ r) = values_spare r

-- Only the rest by four counts.
pub counts_mod : (m n p : ℕ) → m % 4 ≡ n % 4 → CountsFit m p → CountsFit n p
counts_mod m n p e (inl h) = inl (omega arith)
counts_mod m n p e (inr (inl h)) = inr (inl (omega arith))
counts_mod m n p e (inr (inr h)) = inr (inr (omega arith))

-- Pads fill a group up.
pub counts_pads : (n p : ℕ) → CountsFit n p → ((n + p) % 4 ≡ 0) × (p ≤ 2)
counts_pads n p (inl h) = omega arith
counts_pads n p (inr (inl h)) = omega arith
counts_pads n p (inr (inr h)) = omega arith

pub values_counts : (d : List ℕ) → CountsFit (length (to_values d)) (pads_for d)
values_counts [] = inl (refl, refl)
values_counts (x ∷ []) = inr (inl (refl, refl))
values_counts (x ∷ y ∷ []) = inr (inr (refl, refl))
values_counts (x ∷ y ∷ z ∷ r) = counts_mod (length (to_values r)) _ (pads_for r) (omega arith) (values_counts r)

-- ---- a group is one number of 24 bits, as three digits of eight bits and as four of six

pub values_number : (x y z : ℕ) → Octet y → Octet z
    → ((value1 x * 64 + value2 x y) * 64 + value3 y z) * 64 + value4 z ≡ (x * 256 + y) * 256 + z
values_number x y z hy hz = omega arith

pub bytes_number : (a b c d : ℕ) → Sextet b → Sextet c
    → (byte1 a b * 256 + byte2 b c) * 256 + byte3 c d ≡ ((a * 64 + b) * 64 + c) * 64 + d
bytes_number a b c d hb hc = omega arith

-- ---- decoding inverts encoding

byte1_back : (x y : ℕ) → Octet y → byte1 (value1 x) (value2 x y) ≡ x
byte1_back x y h = omega arith

byte2_back : (x y z : ℕ) → Octet y → Octet z → byte2 (value2 x y) (value3 y z) ≡ y
byte2_back x y z h k = omega arith

byte3_back : (y z : ℕ) → Octet z → byte3 (value3 y z) (value4 z) ≡ z
byte3_back y z h = omega arith

pub bytes_values : (d : List ℕ) → All Octet d → to_bytes (to_values d) ≡ d
bytes_values [] h = refl
bytes_values (x ∷ []) h = λ i. byte1_back x 0 (omega arith) i ∷ []
bytes_values (x ∷ y ∷ []) h = λ i. byte1_back x y h.1.0 i ∷ byte2_back x y 0 h.1.0 (omega arith) i ∷ []
bytes_values (x ∷ y ∷ z ∷ r) h =
    λ i. byte1_back x y h.1.0 i ∷ byte2_back x y z h.1.0 h.1.1.0 i ∷ byte3_back y z h.1.1.0 i ∷ bytes_values r h.1.1.1 i

pub values_chars : (d : List ℕ) → All Octet d → values_of (chars_of d) ≡ to_values d
values_chars d h = map_undone char_of value_of Sextet value_char (to_values d) (values_sextets d h)

pub decode_chars : (d : List ℕ) → All Octet d → decode (chars_of d) ≡ d
decode_chars d h = ap to_bytes (values_chars d h) ∙ bytes_values d h

-- ---- encoding inverts decoding where the spare bits are zero

value1_back : (a b : ℕ) → Sextet b → value1 (byte1 a b) ≡ a
value1_back a b h = omega arith

value2_back : (a b c : ℕ) → Sextet b → Sextet c → value2 (byte1 a b) (byte2 b c) ≡ b
value2_back a b c h k = omega arith

value3_back : (b c d : ℕ) → Sextet c → Sextet d → value3 (byte2 b c) (byte3 c d) ≡ c
value3_back b c d h k = omega arith

value4_back : (c d : ℕ) → Sextet d → value4 (byte3 c d) ≡ d
value4_back c d h = omega arith

-- The counts also say how many pads the bytes have.
pub values_bytes : (v : List ℕ) (p : ℕ) → All Sextet v → CountsFit (length v) p → spare_bits v ≡ 0
    → (to_values (to_bytes v) ≡ v) × (pads_for (to_bytes v) ≡ p)
values_bytes [] p h f s = (refl, omega (arith, counts_pads 0 p f))
values_bytes (a ∷ []) p h f s = absurd (omega (arith, counts_pads 1 p f))
values_bytes (a ∷ b ∷ []) p h f s =
    let e : value2 (byte1 a b) 0 ≡ b = omega arith in
    (λ i. value1_back a b h.1.0 i ∷ e i ∷ [], omega (arith, counts_pads 2 p f))
values_bytes (a ∷ b ∷ c ∷ []) p h f s =
    let e : value3 (byte2 b c) 0 ≡ c = omega arith in
    (λ i. value1_back a b h.1.0 i ∷ value2_back a b c h.1.0 h.1.1.0 i ∷ e i ∷ [], omega (arith, counts_pads 3 p f))
values_bytes (a ∷ b ∷ c ∷ d ∷ r) p h f s =
    let rest = values_bytes r p h.1.1.1.1 (counts_mod (length (a ∷ b ∷ c ∷ d ∷ r)) (length r) p (omega arith) f) s in (
      λ i. value1_back a b h.1.0 i ∷ value2_back a b c h.1.0 h.1.1.0 i ∷ value3_back b c d h.1.1.0 h.1.1.1.0 i
          ∷ value4_back c d h.1.1.1.0 i ∷ rest.0 i,
      rest.1,
    )

pub encode_decode : (cs : List ℕ) (p : ℕ) → All AlphabetChar cs → CountsFit (length cs) p → spare_bits (values_of cs) ≡ 0
    → encode (decode cs) ≡ cs ++ replicate p pad
encode_decode cs p h f s =
    let back = values_bytes (values_of cs) p (all_map value_of AlphabetChar Sextet (λ c k. k) cs h) (rw length-map f) s in
    let chars : chars_of (decode cs) ≡ cs = ap (map char_of) back.0 ∙ map_undone value_of char_of AlphabetChar char_value cs h in
    λ i. chars i ++ replicate (back.1 i) pad

-- ---- whole groups in front

pub decode_append : (k : ℕ) (a b : List ℕ) → length a ≡ 4 * k → decode (a ++ b) ≡ decode a ++ decode b
decode_append zero [] b e = refl
decode_append zero (w ∷ a) b e = absurd (omega arith)
decode_append (suc k) [] b e = absurd (omega arith)
decode_append (suc k) (w ∷ []) b e = absurd (omega arith)
decode_append (suc k) (w ∷ x ∷ []) b e = absurd (omega arith)
decode_append (suc k) (w ∷ x ∷ y ∷ []) b e = absurd (omega arith)
decode_append (suc k) (w ∷ x ∷ y ∷ z ∷ a) b e =
    ap
    (λ (l : List ℕ). byte1 (value_of w) (value_of x) ∷ byte2 (value_of x) (value_of y) ∷ byte3 (value_of y) (value_of z) ∷ l)
    (decode_append k a b (omega arith))

-- ---- lengths

length_values : (d : List ℕ) → length (to_values d) + pads_for d ≡ 4 * ((length d + 2) / 3)
length_values [] = omega arith
length_values (x ∷ []) = omega arith
length_values (x ∷ y ∷ []) = omega arith
length_values (x ∷ y ∷ z ∷ r) =
    let rest : length (to_values r) + pads_for r ≡ 4 * ((length r + 2) / 3) = length_values r in
    omega arith

pub length_encode : (d : List ℕ) → length (encode d) ≡ 4 * ((length d + 2) / 3)
length_encode d = simp (length-append, length-map, length-replicate) (length_values d)

length_bytes : (v : List ℕ) → length (to_bytes v) ≡ length v * 3 / 4
length_bytes [] = omega arith
length_bytes (a ∷ []) = omega arith
length_bytes (a ∷ b ∷ []) = omega arith
length_bytes (a ∷ b ∷ c ∷ []) = omega arith
length_bytes (a ∷ b ∷ c ∷ d ∷ r) =
    let rest : length (to_bytes r) ≡ length r * 3 / 4 = length_bytes r in
    omega arith

pub length_decode : (cs : List ℕ) → length (decode cs) ≡ length cs * 3 / 4
length_decode cs = length_bytes (values_of cs) ∙ rw length-map
