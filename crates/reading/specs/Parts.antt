-- A part of a lent slice, and not a copy of it: where it points to. Assumes nothing.
use Rattle.std.specs.Prelude.{◌≡◌, List, ℕ, ◌+◌, ◌≤◌, length, take, drop}
use Rattle.std.specs.Borrow.{Bor}

-- The bytes of a lent text from an offset on, so many of them, where they stand. (Own part is the requirements' term.) A reference
-- to bytes, `Bor`, has an address, `ref_ptr`, which is a block of memory and an offset in it, and what stands there, `now`.
pub record OwnPart (text : Bor (List ℕ)) (at n : ℕ) (part : Bor (List ℕ)) : Type 0 where
  pub within : at + n ≤ length text.now
  pub block : part.ref_ptr.0 ≡ text.ref_ptr.0
  pub address : part.ref_ptr.1 ≡ text.ref_ptr.1 + at
  pub bytes : part.now ≡ take n (drop at text.now)
