-- A part of a text is told by its offset and its length, and its address tells its offset. Assumes nothing.
use mathlib.Core.Path.{◌≡◌, sym, ap, ◌∙◌}
use mathlib.Core.List.{List}
use Prim.Native.Nat.{ℕ}
use lib.ListN.{length, drop, length-drop}
use lib.Seq.{length-take-le}
use native.Mathlib.Omega.{arith}
use denote.Ref.{Bor}
use Rattle.reading.specs.Parts.{OwnPart}

pub own_length : (text : Bor (List ℕ)) (at n : ℕ) (part : Bor (List ℕ)) → OwnPart text at n part → length part.now ≡ n
own_length text at n part p = ap length p.bytes ∙ length-take-le n (drop at text.now) (simp length-drop (omega (arith, p.within)))

-- There is one part only of an offset and a length: one address, and the same bytes.
pub own_unique : (text : Bor (List ℕ)) (at n : ℕ) (part other : Bor (List ℕ)) → OwnPart text at n part → OwnPart text at n other
    → (part.ref_ptr ≡ other.ref_ptr) × (part.now ≡ other.now)
own_unique text at n part other p q =
    (λ i. ((p.block ∙ sym q.block) i, (p.address ∙ sym q.address) i), p.bytes ∙ sym q.bytes)

-- Parts at other offsets have other addresses, whatever bytes they hold.
pub own_offset : (text : Bor (List ℕ)) (at at' n n' : ℕ) (part other : Bor (List ℕ)) → OwnPart text at n part → OwnPart text at' n' other
    → part.ref_ptr.1 ≡ other.ref_ptr.1 → at ≡ at'
own_offset text at at' n n' part other p q e = omega (arith, p.address, q.address, e)
