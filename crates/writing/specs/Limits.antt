-- The limit of the writer; that of a label is the reader's. Assumes nothing.
use Rattle.std.specs.Prelude.{ℕ}

-- The longest data, in bytes. (32,768 in the requirements, before their change request K4.)
abbrev pub data_limit : ℕ
data_limit = 8388608
