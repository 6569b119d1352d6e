-- Where the parts of a message are, from the numbers of its bytes, and what code that adds them up has to know. Assumes nothing.
-- None of this has to be believed: see `Meaning`.
use Rattle.std.specs.Prelude.{List, ℕ, ◌+◌, ◌-◌, ◌^◌, ◌≤◌, ◌<◌, length, take, drop}
use Rattle.grammar.specs.Marks.{begin, end, hyphens}
use Rattle.reading.specs.Answers.{offset, span}
use Rattle.reading.specs.declared.Layout.{Layout}
use Rattle.reading.specs.declared.Span.{Span}
use Rattle.reading.specs.declared.Tally.{Tally}

-- The bytes of a part.
abbrev pub spanned : List ℕ → Span → List ℕ
spanned text s = take s.length (drop s.at.0 text)

-- The parts of a message that starts at an offset of the text, from the numbers of its bytes.
abbrev pub layout_of : ℕ → Tally → Layout
layout_of from t =
    record {
      opened = span (from + t.before + length begin) (t.opening - (length begin + length hyphens));
      body = span (from + t.before + t.opening) t.body;
      closing = offset (from + t.before + t.opening + t.body);
      closed = span (from + t.before + t.opening + t.body + length end) (t.closing - (length end + length hyphens));
    }

-- The tally of a whole message that starts at an offset: what code that adds it up has to know.
abbrev pub Fits : ℕ → Tally → Type 0
Fits from t =
    (from + t.before + t.opening + t.body + t.closing < 2 ^ 64)
    × (length begin + length hyphens ≤ t.opening)
    × (length end + length hyphens ≤ t.closing)
    × (t.last ≤ t.body)

-- A tally within so many bytes: what code has to know of a message that was scanned.
pub record TallyFits (n : ℕ) (t : Tally) : Type 0 where
  pub opening : length begin + length hyphens ≤ t.opening
  pub closing : length end + length hyphens ≤ t.closing
  pub sum : t.before + t.opening + t.body + t.closing ≤ n
  pub characters : t.characters ≤ t.body
  pub last : t.last ≤ t.body

-- A layout within a text of this length.
abbrev pub Lies : ℕ → Layout → Type 0
Lies n l = (l.opened.at.0 + l.opened.length ≤ n) × (l.closed.at.0 + l.closed.length ≤ n)

-- The last alphabet character of a body, by the bytes of the body before it.
abbrev pub last_at : Layout → Tally → ℕ
last_at l t = l.body.at.0 + t.last
