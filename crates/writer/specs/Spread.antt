-- The table by which full lines are written: for each place in a group and each byte what it adds to the number whose bytes, the
-- first lowest, are the group's four values. Assumes nothing.
use Rattle.std.specs.Prelude.{List, ℕ, zero, suc, ◌+◌, ◌*◌, ◌/◌, ◌%◌}
use Rattle.base_64.specs.Lists.{entries}

-- RFC 4648 puts six bits of the first byte into the first value and two into the second, and so on.
abbrev pub spread : ℕ → ℕ → ℕ
spread zero x = x / 4 + x % 4 * 16 * 256
spread (suc zero) x = x / 16 * 256 + x % 16 * 4 * 65536
spread (suc (suc p)) x = x / 64 * 65536 + x % 64 * 16777216

-- The 256 entries of a place.
unfoldable pub entries_of : ℕ → List ℕ
entries_of p = entries (spread p) 0 256
