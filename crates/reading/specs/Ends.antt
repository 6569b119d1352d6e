-- What is counted of line ends beside a scan, byte by byte, and what the counts say. Assumes nothing.
-- None of this has to be believed: `LineEnds` and `style_of` of the grammars say what the line ends of a text are.
use Rattle.std.specs.Prelude.{Bool, false, cond, List, [], ◌∷◌, ℕ, ◌+◌, ◌^◌, ◌<◌, eqb}
use Rattle.grammar.specs.Marks.{CR, LF}
use Rattle.grammar.specs.declared.LineEnding.TheVariants.{Lf, CrLf, Cr}
use Rattle.grammar.specs.declared.LineStyle.{LineStyle}
use Rattle.grammar.specs.declared.LineStyle.TheVariants.{NoLineEnd, Only, Mixed}
use Rattle.reading.specs.declared.EndCounts.{EndCounts}

abbrev pub ends : (lf crlf cr : ℕ) → EndCounts
ends lf crlf cr = record { lf = lf; crlf = crlf; cr = cr }

abbrev pub no_ends : EndCounts
no_ends = ends 0 0 0

-- The line-end step: what a byte shows of line ends, behind CR or not.
abbrev pub end_counted : Bool → ℕ → EndCounts → EndCounts
end_counted behind_cr c e =
    cond (eqb c LF) (cond behind_cr (ends e.lf (e.crlf + 1) e.cr) (ends (e.lf + 1) e.crlf e.cr))
    (cond (eqb c CR) (ends e.lf e.crlf (e.cr + 1))
    e)

-- The line ends of a text, counted.
unfoldable pub ends_from : Bool → EndCounts → List ℕ → EndCounts
ends_from behind_cr e [] = e
ends_from behind_cr e (c ∷ l) = ends_from (eqb c CR) (end_counted behind_cr c e) l

abbrev pub ends_in : List ℕ → EndCounts
ends_in text = ends_from false no_ends text

-- Counts to which a byte can be added: what code that counts has to know.
abbrev pub RoomyEnds : EndCounts → Type 0
RoomyEnds e = (e.lf + 1 < 2 ^ 64) × (e.crlf + 1 < 2 ^ 64) × (e.cr + 1 < 2 ^ 64)

-- What the counts say.
abbrev pub counted_style : EndCounts → LineStyle
counted_style e =
    cond
    (eqb e.lf 0)
    (cond (eqb e.cr 0) NoLineEnd (cond (eqb e.crlf 0) (Only Cr) (cond (eqb e.crlf e.cr) (Only CrLf) Mixed)))
    (cond (eqb e.cr 0) (Only Lf) Mixed)
