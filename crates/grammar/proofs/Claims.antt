-- Where spare bits must be zero, the encoding is canonical. Assumes nothing.
use mathlib.Core.Path.{◌≡◌, sym, ap}
use Prim.Native.Nat.{ℕ}
use native.Mathlib.Omega.{arith}
use lib.ListN.{get_or}
use Rattle.base_64.specs.Alphabet.{alphabet, place_in, value_of}
use Rattle.base_64.specs.Groups.{encode}
use Rattle.base_64.proofs.Groups.{encode_decode}
use Rattle.grammar.specs.Message.{Reading, Consistent, data_of, characters, pad_count}
use Rattle.grammar.specs.Claims.{chars_then_pads, Canonical, CanonicalEncoding}
use Rattle.grammar.specs.declared.Grammar.{Grammar}
use Rattle.grammar.specs.declared.Grammar.TheVariants.{Lax}
use Rattle.grammar.proofs.Message.{Wider, strict_standard, standard_lax, spare_zero_lem}
use Rattle.grammar.proofs.Counts.{characters_all}
use Rattle.grammar.proofs.Samples.{closed, zh_body, zh_shape, zh_consistent}

-- What is encoded again from a message is its characters and pads.
pub encoded_again : {g h : Grammar} → Wider g h → (r : Reading) → Consistent g r → chars_then_pads r.body ≡ encode (data_of r)
encoded_again w r c =
    sym (encode_decode (characters r.body) (pad_count r.body) (characters_all r.body) c.counts (spare_zero_lem w (characters r.body) c.spare))

-- `Zh==` has the data of `Zg==`.
lax_not : ¬ Canonical Lax
unfolding value_of place_in alphabet characters pad_count
lax_not canonical =
    let e : ◌≡◌ {A = ℕ} 104 103 = ap (λ l. get_or l 1 0) (canonical (closed zh_body) zh_shape zh_consistent) in
    omega arith

pub canonical_encoding : CanonicalEncoding
canonical_encoding = record {
  standard = λ r s c. encoded_again standard_lax r c;
  strict = λ r s c. encoded_again strict_standard r c;
  lax = lax_not;
}
