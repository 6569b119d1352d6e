-- Lines of whole groups, one after the other. Assumes nothing.
use mathlib.Core.Path.{◌≡◌, refl}
use mathlib.Core.Bool.{Bool, true, false, false≢true}
use mathlib.Core.List.{List}
use Prim.Native.Nat.{ℕ, ◌+◌, ◌-◌, ◌*◌, ◌≤◌, ◌<◌}
use native.Mathlib.Omega.{arith}
use Rattle.std.specs.Prelude.{Some}
use lib.ListN.{length}
use Rattle.runs.specs.Runs.{Characters, Blanks, LfOrCrlf, IsLine, LinesTo, no_lines, a_line, OfLength, FullLength}
use Rattle.runs.specs.declared.Lines.{Lines}
use Rattle.runs.proofs.Runs.{run_none, line_end_inside, line_end_width}

-- Where they are, and how many groups and line ends there can be.
pub record LinesInside (text : List ℕ) (i j groups m lf crlf : ℕ) : Type 0 where
  pub forward : i ≤ j
  pub inside : j ≤ length text
  pub few : 4 * groups + lf + 2 * crlf ≤ j - i
  pub last : (i ≤ m) × (m ≤ j)
  pub some : 0 < groups → i < m
  pub none : groups ≡ 0 → j ≡ i

pub inside_none : {text : List ℕ} {i : ℕ} → i ≤ length text → LinesInside text i i 0 i 0 0
inside_none h = record { forward = omega arith; inside = h; few = omega arith; last = (omega arith, omega arith); some = λ e. absurd (omega arith); none = λ e. omega arith }

pub lines_inside : {text : List ℕ} {full : Bool} {i j groups m lf crlf : ℕ} → i ≤ length text → LinesTo text full i j groups m lf crlf
    → LinesInside text i j groups m lf crlf
lines_inside h no_lines = inside_none h
lines_inside h (a_line before n a b w e some line f) =
    let first = lines_inside h before in
    let inside = line_end_inside line.ended in
    let width = line_end_width line.ended in
    record {
      forward = omega (arith, first.forward, line.some, line.more);
      inside = inside;
      few = omega (arith, first.few, first.forward, line.more, width);
      last = (omega (arith, first.forward, line.some), omega (arith, line.more));
      some = λ k. omega (arith, first.forward);
      none = λ k. absurd (omega arith);
    }

-- One line more, of characters, blanks and a line end.
pub line_more : {text : List ℕ} {i j groups m lf crlf : ℕ} → LinesTo text false i j groups m lf crlf → (n b w : ℕ) → 0 < n → Characters text j (j + 4 * n)
    → j + 4 * n ≤ b → b ≤ length text → Blanks text (j + 4 * n) b → LfOrCrlf text b w
    → LinesTo text false i (b + w) (groups + n) (j + 4 * n) (lf + (2 - w)) (crlf + (w - 1))
line_more {text} {j = j} l n b w some a more inside blanks ended =
    let line : IsLine text j (j + 4 * n) b (Some w) = record {
      some = omega arith;
      characters = a;
      more = more;
      blanks = blanks;
      inside = inside;
      ended = ended;
    } in
    a_line l n (j + 4 * n) b w (omega arith) some line (λ e. absurd (false≢true e))

-- One full line more.
pub full_more : {text : List ℕ} {i j groups m lf crlf : ℕ} → LinesTo text true i j groups m lf crlf → (w : ℕ) → Characters text j (j + 64) → j + 64 ≤ length text
    → LfOrCrlf text (j + 64) w → LinesTo text true i (j + 64 + w) (groups + 16) (j + 64) (lf + (2 - w)) (crlf + (w - 1))
full_more {text} {j = j} lines w a inside ended =
    let line : IsLine text j (j + 64) (j + 64) (Some w) = record {
      some = omega arith;
      characters = a;
      more = omega arith;
      blanks = run_none (omega arith);
      inside = inside;
      ended = ended;
    } in
    a_line lines 16 (j + 64) (j + 64) w (omega arith) (omega arith) line (λ t. (omega arith, omega arith))

-- Full lines are lines.
pub full_lines : {text : List ℕ} {i j groups m lf crlf : ℕ} → LinesTo text true i j groups m lf crlf → LinesTo text false i j groups m lf crlf
full_lines no_lines = no_lines
full_lines (a_line before n a b w e some line f) = a_line (full_lines before) n a b w e some line (λ t. absurd (false≢true t))

-- ---- Full lines by their length

-- Full lines, whatever line ends they have.
pub record FullTo (text : List ℕ) (i j groups m : ℕ) : Type 0 where
  pub lf : ℕ
  pub crlf : ℕ
  pub lines : LinesTo text true i j groups m lf crlf

full_length : {text : List ℕ} {i j groups m lf crlf : ℕ} → LinesTo text true i j groups m lf crlf → OfLength i j groups lf crlf
full_length no_lines = (omega arith, omega arith)
full_length (a_line before n a b w e some line f) =
    let h = full_length before in
    let full = f refl in
    let width = line_end_width line.ended in
    (omega (arith, h, full, width), omega (arith, h, full, width))

pub full_lengths : {text : List ℕ} {i j groups m : ℕ} → FullTo text i j groups m → FullLength i j groups
full_lengths t = record { lf = t.lf; crlf = t.crlf; length = full_length t.lines }

-- Their length tells what line ends they have.
full_counted : {text : List ℕ} {i j groups m : ℕ} → FullTo text i j groups m → (a b : ℕ) → OfLength i j groups a b → LinesTo text true i j groups m a b
full_counted t a b o =
    let h = full_length t.lines in
    let lfs : t.lf ≡ a = omega (arith, h, o) in
    let pairs : t.crlf ≡ b = omega (arith, h, o) in
    rw (lfs, pairs) at t.lines

-- What is answered of them.
pub full_told : {text : List ℕ} {i j groups m : ℕ} → FullTo text i j groups m → (r : Lines)
    → (r.end ≡ j) × (r.groups ≡ groups) × (r.last ≡ m) × OfLength i j groups r.lf r.crlf
    → LinesTo text true i r.end r.groups r.last r.lf r.crlf
full_told t r e = rw (e.0, e.1, e.2) (full_counted t r.lf r.crlf e.3)
