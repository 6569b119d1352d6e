-- What is written: opening, line end, lines of 64 characters, the rest, closing, line end; once for all kinds of line ends. (The
-- requirements, before their change request K7: "opening, LF, lines of 64 characters, the rest, closing, LF".) Assumes nothing.
use Rattle.std.specs.Prelude.{List, [], ◌∷◌, ◌++◌, ℕ, zero, suc, ◌+◌, ◌*◌, ◌-◌, ◌/◌}
use Rattle.base_64.specs.Groups.{encode}
use Rattle.grammar.specs.Marks.{opening, closing}
use Rattle.grammar.specs.LineEnds.{line_end}
use Rattle.grammar.specs.Grammars.{line_chars}
use Rattle.grammar.specs.declared.LineEnding.{LineEnding}
use Rattle.grammar.specs.declared.LineEnding.TheVariants.{Lf, CrLf, Cr}

-- Characters in lines, the first of which has room for so many more. A full line ends where another character follows, and the
-- last line ends behind its last character.
unfoldable pub in_lines : LineEnding → ℕ → List ℕ → List ℕ
in_lines s room [] = line_end s
in_lines s zero (c ∷ l) = line_end s ++ (c ∷ in_lines s (line_chars - 1) l)
in_lines s (suc room) (c ∷ l) = c ∷ in_lines s room l

-- The base 64 text of the data, in lines.
abbrev pub written_lines : LineEnding → List ℕ → List ℕ
written_lines s content = in_lines s line_chars (encode content)

-- The strict text of a label and data, with line ends of one kind.
abbrev pub written_text : LineEnding → List ℕ → List ℕ → List ℕ
written_text s label content = opening label ++ (line_end s ++ (written_lines s content ++ (closing label ++ line_end s)))

-- The second bytes of so many line ends: one of each under CRLF.
abbrev pub second_bytes : LineEnding → ℕ → ℕ
second_bytes Lf n = 0
second_bytes CrLf n = n
second_bytes Cr n = 0

-- Its length for a label of L and data of n bytes: 32 + 2L + 4⌈n/3⌉ + ⌈n/48⌉, and under CRLF ⌈n/48⌉ + 2 more (K7).
abbrev pub written_size : LineEnding → (L n : ℕ) → ℕ
written_size s L n = 32 + 2 * L + 4 * ((n + 2) / 3) + (n + 47) / 48 + second_bytes s ((n + 47) / 48 + 2)
