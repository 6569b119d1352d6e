-- The limits of the reader. Assumes nothing.
use Rattle.std.specs.Prelude.{ℕ}

-- The longest text, in bytes. (65,536 in the requirements, before their change request K4.)
abbrev pub text_limit : ℕ
text_limit = 16777216

-- The longest label, in bytes.
abbrev pub label_limit : ℕ
label_limit = 64
