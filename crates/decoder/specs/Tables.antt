-- The table by which groups are decoded: for each place in a group and each byte what it adds to the group's number, or a mark
-- where the byte is outside the alphabet. Assumes nothing.
use Rattle.std.specs.Prelude.{cond, List, ℕ, zero, suc, ◌+◌, ◌*◌, ◌/◌, ◌%◌, ltb, get_or}
use Rattle.base_64.specs.Lists.{entries}
use Rattle.base_64.specs.Alphabet.{radix, value_of}

-- More than the numbers of sixteen groups together.
abbrev pub mark : ℕ
mark = 268435456

-- What the value at a place of a group adds to its number, which has the first byte in its low bits: RFC 4648 puts six bits of
-- the first value and two of the second into the first byte, and so on.
abbrev pub placed : ℕ → ℕ → ℕ
placed zero v = v * 4
placed (suc zero) v = v / 16 + v % 16 * 16 * 256
placed (suc (suc zero)) v = v / 4 * 256 + v % 4 * 64 * 65536
placed (suc (suc (suc p))) v = v * 65536

-- What a byte adds at a place, or the mark.
abbrev pub marked : ℕ → ℕ → ℕ
marked p c = cond (ltb (value_of c) radix) (placed p (value_of c)) mark

-- The entries of all bytes at a place.
unfoldable pub entries_of : ℕ → List ℕ
entries_of p = entries (marked p) 0 256

-- The number that four bytes are; the mark or more where one of them is outside the alphabet.
abbrev pub group_number : ℕ → ℕ → ℕ → ℕ → ℕ
group_number a b c d = marked 0 a + marked 1 b + marked 2 c + marked 3 d

abbrev pub group_at : List ℕ → ℕ → ℕ
group_at text i = group_number (get_or text i 0) (get_or text (i + 1) 0) (get_or text (i + 2) 0) (get_or text (i + 3) 0)
