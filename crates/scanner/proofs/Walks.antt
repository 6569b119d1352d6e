-- Lines that are passed one after the other: what the loops over them keep to. Assumes nothing.
use mathlib.Core.Path.{◌≡◌, refl, sym, ap, ◌∙◌}
use mathlib.Core.Logic.{◌≢◌}
use mathlib.Core.Bool.{Bool, true, false, cond}
use mathlib.Core.List.{List}
use Prim.Native.Nat.{ℕ, ◌+◌, ◌-◌, ◌*◌, ◌≤◌, ◌<◌}
use native.Mathlib.Omega.{arith}
use lib.Dec.{eqb}
use lib.ListN.{length}
use Rattle.std.specs.Prelude.{Option, Some}
use borrow.Author.Tests.{eqb-true, eqb-false}
use Rattle.grammar.specs.declared.Grammar.{Grammar}
use Rattle.machine.proofs.Machine.{state}
use Rattle.machine.specs.declared.Phase.{Phase}
use Rattle.reading.specs.Scan.{tally}
use Rattle.reading.specs.declared.Tally.{Tally}
use Rattle.runs.specs.Runs.{Characters, LfOrCrlf, IsLine, LinesTo, no_lines, a_line}
use Rattle.runs.specs.declared.Lines.{Lines}
use Rattle.runs.proofs.Runs.{line_end_inside, line_end_width}
use Rattle.runs.proofs.Lined.{LinesInside, lines_inside}
use Rattle.scanner.specs.Advances.{place, in_phase, Advanced, Countable, LinesFit, run_tallied, others_tallied, ends_tallied, width_tallied, lines_tallied, behind_lines}
use Rattle.leaps.specs.Phases.{OnCharacter, Lined}
use Rattle.leaps.specs.declared.LinePhases.{LinePhases}
use Rattle.scanner.specs.Phases.{FullLine}
use Rattle.scanner.specs.declared.Position.{Position}
use Rattle.scanner.proofs.Advances.{advanced_none, advanced_then, blanks_to, blanks_line_end, staying_run, full_line}

-- ---- Lines of any length

pub record Walk (g : Grammar) (text : List ℕ) (ps : LinePhases) (p q : Position) : Type 0 where
  pub countable : Countable text q
  pub advanced : Advanced g text p q
  pub phases : Lined g q.state.phase ps

phases_from : {g : Grammar} {p q : Phase} {ps : LinePhases} → OnCharacter g q ps.within → Lined g p ps → Lined g q ps
phases_from w l = record {
  begins = w;
  goes_on = l.goes_on;
  ends = l.ends;
  again = l.again;
  pauses = l.pauses;
  stays = l.stays;
  closes = l.closes;
  resumed = l.resumed;
}

-- Behind a line another may begin.
pub phases_behind : {g : Grammar} {p : Phase} {ps : LinePhases} → Lined g p ps → Lined g ps.behind ps
phases_behind l = phases_from l.again l

module _ {g : Grammar} {text : List ℕ} {ps : LinePhases} {p q : Position} (w : Walk g text ps p q) {j k : ℕ} {e : Option ℕ} (line : IsLine text q.at j k e) (some : q.at < j) where
  -- Nothing behind the characters.
  pub walk_open : Advanced g text p (in_phase j ps.within (run_tallied (j - q.at) q.tally))
  walk_open = advanced_then w.advanced (staying_run q.state.cr q.tally q.at j some (omega (arith, line.inside, line.more)) line.characters w.phases.begins w.phases.goes_on)

  -- Blanks behind them.
  pub walk_paused : j < k → Advanced g text p (in_phase k ps.trailing (others_tallied (k - j) (run_tallied (j - q.at) q.tally)))
  walk_paused more = advanced_then walk_open (blanks_to w.phases.pauses w.phases.stays (run_tallied (j - q.at) q.tally) j k more line.inside line.blanks)

  pub walk_resumed : j < k → ps.resumes ≡ true → Walk g text ps p (in_phase k ps.trailing (others_tallied (k - j) (run_tallied (j - q.at) q.tally)))
  walk_resumed more on = record {
    countable = omega (arith, w.countable, line.inside, some);
    advanced = walk_paused more;
    phases = phases_from (w.phases.resumed on) w.phases;
  }

  -- A line end behind them.
  pub walk_ended : {n : ℕ} → LfOrCrlf text k n → Walk g text ps p (in_phase (k + n) ps.behind (width_tallied n (others_tallied (k + n - j) (run_tallied (j - q.at) q.tally))))
  walk_ended {n} ended =
      let on = w.phases in
      let others : k - j + n ≡ k + n - j = omega (arith, line.more) in
      record {
        countable = omega (arith, w.countable, line.more, some, line_end_inside ended, line_end_width ended);
        advanced = advanced_then walk_open (rw others at (blanks_line_end on.pauses on.stays on.ends on.closes (run_tallied (j - q.at) q.tally) j k n line.more line.inside line.blanks ended));
        phases = phases_behind on;
      }

-- ---- Lines of whole groups

-- A line, from one phase to another.
pub record LineFrom (g : Grammar) (text : List ℕ) (full : Bool) (p q : Phase) : Type 0 where
  pub passes : (cr : Bool) (t : Tally) (j n a b w : ℕ) → a ≡ j + 4 * n → 0 < n → IsLine text j a b (Some w) → (full ≡ true → (n ≡ 16) × (b ≡ a))
      → Advanced g text (place j (state p cr) t) (in_phase (b + w) q (width_tallied w (others_tallied (b + w - a) (run_tallied (a - j) t))))

pub any_line_from : {g : Grammar} {text : List ℕ} {full : Bool} {p : Phase} {ps : LinePhases} → Lined g p ps → LineFrom g text full p ps.behind
any_line_from {g} {text} ps = record {
  passes = λ cr t j n a b w e some line f.
      let others : b - a + w ≡ b + w - a = omega (arith, line.more) in
      let run : Advanced g text (place j _ t) (in_phase a _ (run_tallied (a - j) t)) =
      staying_run cr t j a (omega arith) (omega (arith, line.more, line.inside)) line.characters ps.begins ps.goes_on in
      advanced_then run (rw others at (blanks_line_end ps.pauses ps.stays ps.ends ps.closes (run_tallied (a - j) t) a b w line.more line.inside line.blanks line.ended));
}

pub full_line_from : {g : Grammar} {text : List ℕ} {p q : Phase} → FullLine g p q → LineFrom g text true p q
full_line_from {g} {text} {p} {q} fl = record {
  passes = λ cr t j n a b w e some line f.
      let sixteen : n ≡ 16 = (f refl).0 in
      let end : a ≡ j + 64 = omega arith in
      let here : b ≡ j + 64 = omega (arith, (f refl).1) in
      let count : a - j ≡ 64 = omega arith in
      let width : j + 64 + w - a ≡ w = omega arith in
      let characters : Characters text j (j + 64) = rw end at line.characters in
      let ended : LfOrCrlf text (j + 64) w = rw here at line.ended in
      rw (here, count, width) (full_line fl cr t j w (omega (arith, line.inside)) characters ended);
}

-- Line ends, and one more.
ends_more : (t : Tally) (lf crlf w : ℕ) → width_tallied w (ends_tallied lf crlf t) ≡ ends_tallied (lf + (2 - w)) (crlf + (w - 1)) t
ends_more t lf crlf w =
    let lfs : t.ends.lf + lf + (2 - w) ≡ t.ends.lf + (lf + (2 - w)) = omega arith in
    let pairs : t.ends.crlf + crlf + (w - 1) ≡ t.ends.crlf + (crlf + (w - 1)) = omega arith in
    let crs : t.ends.cr + crlf + (w - 1) ≡ t.ends.cr + (crlf + (w - 1)) = omega arith in
    rw (lfs, pairs, crs)

abbrev lines : (end groups last lf crlf : ℕ) → Lines
lines j k m lf crlf = record { end = j; groups = k; last = m; lf = lf; crlf = crlf }

-- The bytes of lines, but for what kinds of line ends they have.
abbrev bytes_tallied : (i j groups m : ℕ) → Tally → Tally
bytes_tallied i j groups m t =
    tally t.before t.opening (t.body + (j - i)) t.closing (t.characters + 4 * groups) t.pads (t.body + (m - i) - 1) t.ends

bytes_first : (t : Tally) (i n a l : ℕ) → i < a → a ≤ l → a ≡ i + 4 * n → others_tallied (l - a) (run_tallied (a - i) t) ≡ bytes_tallied i l n a t
bytes_first t i n a l h more e =
    let body : t.body + (a - i) + (l - a) ≡ t.body + (l - i) = omega arith in
    let chars : t.characters + (a - i) ≡ t.characters + 4 * n = omega arith in
    rw (body, chars)

lines_first : (t : Tally) (i n a l w : ℕ) → i < a → a ≤ l → a ≡ i + 4 * n
    → width_tallied w (others_tallied (l - a) (run_tallied (a - i) t)) ≡ lines_tallied i (lines l n a (2 - w) (w - 1)) t
lines_first t i n a l w h more e = ap (width_tallied w) (bytes_first t i n a l h more e)

bytes_later : (t : Tally) (i j k m n a l : ℕ) → i ≤ j → j < a → a ≤ l → a ≡ j + 4 * n
    → others_tallied (l - a) (run_tallied (a - j) (bytes_tallied i j k m t)) ≡ bytes_tallied i l (k + n) a t
bytes_later t i j k m n a l low h more e =
    let run : a - j ≡ 4 * n = omega arith in
    let whole : l - i ≡ j - i + 4 * n + (l - a) = omega arith in
    let front : a - i ≡ j - i + 4 * n = omega arith in
    let body : t.body + (j - i) + (a - j) + (l - a) ≡ t.body + (l - i) = rw (run, whole) (omega arith) in
    let chars : t.characters + 4 * k + (a - j) ≡ t.characters + 4 * (k + n) = rw run (omega arith) in
    let last : t.body + (j - i) + (a - j) - 1 ≡ t.body + (a - i) - 1 = rw (run, front) (ap (λ (x : ℕ). x - 1) (sum t.body (j - i) (4 * n))) in
    rw (body, chars, last)
  where
    sum : (x y z : ℕ) → x + y + z ≡ x + (y + z)
    sum x y z = omega arith

lines_later : (t : Tally) (i j k m lf crlf n a l w : ℕ) → i ≤ j → j < a → a ≤ l → a ≡ j + 4 * n
    → width_tallied w (others_tallied (l - a) (run_tallied (a - j) (lines_tallied i (lines j k m lf crlf) t))) ≡ lines_tallied i (lines l (k + n) a (lf + (2 - w)) (crlf + (w - 1))) t
lines_later t i j k m lf crlf n a l w low h more e =
    ap (λ (u : Tally). width_tallied w (ends_tallied lf crlf u)) (bytes_later t i j k m n a l low h more e) ∙ ends_more (bytes_tallied i l (k + n) a t) lf crlf w

module _ {g : Grammar} {text : List ℕ} {full : Bool} (p : Position) {q : Phase} (first : LineFrom g text full p.state.phase q) (again : LineFrom g text full q q) (inside : p.at ≤ length text) where
  some_lines : {j k m lf crlf : ℕ} → LinesTo text full p.at j k m lf crlf → 0 < k → Advanced g text p (in_phase j q (lines_tallied p.at (lines j k m lf crlf) p.tally))
  some_lines no_lines some = absurd (omega arith)
  some_lines (a_line {j} {groups} {m} {lf} {crlf} before n a b w e more line f) some = go (eqb groups 0) refl (λ k. some_lines before k)
    where
      go : (z : Bool) → eqb groups 0 ≡ z → (0 < groups → Advanced g text p (in_phase j q (lines_tallied p.at (lines j groups m lf crlf) p.tally)))
          → Advanced g text p (in_phase (b + w) q (lines_tallied p.at (lines (b + w) (groups + n) a (lf + (2 - w)) (crlf + (w - 1))) p.tally))
      go true z later =
          let none : groups ≡ 0 = eqb-true groups 0 z in
          let front = lines_inside inside before in
          let here : j ≡ p.at = front.none none in
          let count : groups + n ≡ n = omega arith in
          let lfs : lf + (2 - w) ≡ 2 - w = omega (arith, front.few) in
          let pairs : crlf + (w - 1) ≡ w - 1 = omega (arith, front.few) in
          let line' : IsLine text p.at a b (Some w) = rw here at line in
          let told = lines_first p.tally p.at n a (b + w) w (omega arith) (omega (arith, line.more)) (omega arith) in
          rw (count, lfs, pairs, ← told) (first.passes p.state.cr p.tally p.at n a b w (omega arith) more line' f)
      go false z later =
          let some' : groups ≢ 0 = eqb-false groups 0 z in
          let told = lines_later p.tally p.at j groups m lf crlf n a (b + w) w (lines_inside inside before).forward (omega arith) (omega (arith, line.more)) e in
          rw (← told) (advanced_then (later (omega arith)) (again.passes false (lines_tallied p.at (lines j groups m lf crlf) p.tally) j n a b w e more line f))

  -- Where lines lead.
  pub lines_passed : (l : Lines) → LinesTo text full p.at l.end l.groups l.last l.lf l.crlf → Advanced g text p (behind_lines p q l)
  lines_passed l w = go (eqb l.groups 0) refl
    where
      go : (z : Bool) → eqb l.groups 0 ≡ z → Advanced g text p (cond z p (in_phase l.end q (lines_tallied p.at l p.tally)))
      go true z = advanced_none inside
      go false z = let some : l.groups ≢ 0 = eqb-false l.groups 0 z in some_lines w (omega arith)

-- Lines that were passed can be counted, and what is behind them too; and there the phase is the one before them or theirs.
module _ (text : List ℕ) (p : Position) (l : Lines) (h : Countable text p) (inside : LinesInside text p.at l.end l.groups l.last l.lf l.crlf) where
  pub lines_fit : LinesFit p l
  lines_fit = (
    omega (arith, h, inside.inside, inside.forward),
    omega (arith, h, inside.inside, inside.forward, inside.few),
    inside.forward,
    inside.last.1,
    inside.some,
    omega (arith, h, inside.inside, inside.forward, inside.few),
  )

  pub behind_countable : (q : Phase) → Countable text (behind_lines p q l)
  behind_countable q = go (eqb l.groups 0)
    where
      go : (z : Bool) → Countable text (cond z p (in_phase l.end q (lines_tallied p.at l p.tally)))
      go true = h
      go false = omega (arith, h, inside.inside, inside.forward, inside.few)

  pub behind_at : (q : Phase) → (behind_lines p q l).at ≡ l.end
  behind_at q = go (eqb l.groups 0) refl
    where
      go : (z : Bool) → eqb l.groups 0 ≡ z → (cond z p (in_phase l.end q (lines_tallied p.at l p.tally))).at ≡ l.end
      go true z = sym (inside.none (eqb-true l.groups 0 z))
      go false z = refl

pub behind_phase : (P : Phase → Type 0) (p : Position) (q : Phase) (l : Lines) → P p.state.phase → P q → P (behind_lines p q l).state.phase
behind_phase P p q l before behind = go (eqb l.groups 0)
  where
    go : (z : Bool) → P (cond z p (in_phase l.end q (lines_tallied p.at l p.tally))).state.phase
    go true = before
    go false = behind

-- Lines are passed from their first on.
pub walk_lines : {g : Grammar} {text : List ℕ} {ps : LinePhases} {full : Bool} (p : Position) → Countable text p → Lined g p.state.phase ps → (l : Lines)
    → LinesTo text full p.at l.end l.groups l.last l.lf l.crlf → Walk g text ps p (behind_lines p ps.behind l)
walk_lines {g} {text} {ps} p h on l w = record {
  countable = behind_countable text p l h (lines_inside h.0 w) ps.behind;
  advanced = lines_passed p (any_line_from on) (any_line_from (phases_behind on)) h.0 l w;
  phases = behind_phase (λ q. Lined g q ps) p ps.behind l on (phases_behind on);
}
