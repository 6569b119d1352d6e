-- What it means that a scan has advanced by many bytes at once, and what is counted then. Assumes nothing.
use Rattle.std.specs.Prelude.{◌≡◌, false, cond, List, ℕ, ◌+◌, ◌-◌, ◌*◌, ◌≤◌, ◌<◌, ◌^◌, eqb, length, drop}
use Rattle.grammar.specs.declared.Grammar.{Grammar}
use Rattle.machine.proofs.Machine.{state}
use Rattle.machine.specs.declared.Boundary.{Boundary}
use Rattle.machine.specs.declared.Boundary.TheVariants.{Opening, Closing}
use Rattle.machine.specs.declared.Phase.{Phase}
use Rattle.machine.specs.declared.State.{State}
use Rattle.reading.specs.declared.Tally.{Tally}
use Rattle.reading.specs.Ends.{ends}
use Rattle.reading.specs.Scan.{tally, with_ends, stopped, scan_of}
use Rattle.reading.specs.declared.EndCounts.{EndCounts}
use Rattle.reading.proofs.Scans.{Within}
use Rattle.runs.specs.declared.Lines.{Lines}
use Rattle.scanner.specs.declared.Position.{Position}
use Rattle.scanner.specs.declared.Scanner.{Scanner}

-- ---- Positions of a scan

abbrev pub place : ℕ → State → Tally → Position
place i s t = record { at = i; state = s; tally = t }

-- Behind a byte that is no CR.
abbrev pub in_phase : ℕ → Phase → Tally → Position
in_phase i p t = place i (state p false) t

-- From one position in a text to another: the scan from either is the same, however many bytes were counted before.
pub record Advanced (g : Grammar) (text : List ℕ) (p q : Position) : Type 0 where
  pub forward : p.at ≤ q.at
  pub inside : q.at ≤ length text
  pub within : (n : ℕ) → Within p.tally n → Within q.tally (n + (q.at - p.at))
  pub ahead : (n : ℕ) → scan_of g p.state n p.tally (drop p.at text) ≡ scan_of g q.state (n + (q.at - p.at)) q.tally (drop q.at text)

-- The scan goes no further: the machine dies of the next byte, or the text ends.
pub record Stopped (g : Grammar) (text : List ℕ) (p : Position) : Type 0 where
  pub ends : (n : ℕ) → scan_of g p.state n p.tally (drop p.at text) ≡ stopped p.state n p.tally

-- The same of a scanner's text, by its grammar.
abbrev pub Reaches : Scanner → Position → Position → Type 0
Reaches s p q = Advanced s.grammar s.text.now p q

abbrev pub Stops : Scanner → Position → Type 0
Stops s p = Stopped s.grammar s.text.now p

-- What code that counts has to know: the rest of the text can be added.
abbrev pub Countable : List ℕ → Position → Type 0
Countable text p =
    let rest = length text - p.at in
    let t = p.tally in
    (p.at ≤ length text)
    × (t.body + rest < 2 ^ 64)
    × (t.characters + rest < 2 ^ 64)
    × (t.opening + rest < 2 ^ 64)
    × (t.closing + rest < 2 ^ 64)
    × (t.pads + rest < 2 ^ 64)
    × (t.ends.lf + rest < 2 ^ 64)
    × (t.ends.crlf + rest < 2 ^ 64)
    × (t.ends.cr + rest < 2 ^ 64)

-- ---- Tallies of runs

-- A run of so many alphabet characters of a body, counted.
abbrev pub run_tallied : ℕ → Tally → Tally
run_tallied n t = tally t.before t.opening (t.body + n) t.closing (t.characters + n) t.pads (t.body + n - 1) t.ends

-- So many bytes of a body that are neither characters nor pads, counted.
abbrev pub others_tallied : ℕ → Tally → Tally
others_tallied n t = tally t.before t.opening (t.body + n) t.closing t.characters t.pads t.last t.ends

-- So many pads of a body, counted.
abbrev pub pads_tallied : ℕ → Tally → Tally
pads_tallied n t = tally t.before t.opening (t.body + n) t.closing t.characters (t.pads + n) t.last t.ends

-- So many line ends behind other bytes, LF and CRLF, counted; their bytes are counted apart.
abbrev pub ends_tallied : (lf crlf : ℕ) → Tally → Tally
ends_tallied lf crlf t = with_ends t (ends (t.ends.lf + lf) (t.ends.crlf + crlf) (t.ends.cr + crlf))

-- They can be counted.
abbrev pub EndsFit : EndCounts → (lf crlf : ℕ) → Type 0
EndsFit e lf crlf = (e.lf + lf < 2 ^ 64) × (e.crlf + crlf < 2 ^ 64) × (e.cr + crlf < 2 ^ 64)

-- One line end of n bytes, counted: LF has one, CRLF two.
abbrev pub width_tallied : ℕ → Tally → Tally
width_tallied n t = ends_tallied (2 - n) (n - 1) t

-- Lines of whole groups from i on, counted.
abbrev pub lines_tallied : ℕ → Lines → Tally → Tally
lines_tallied i l t =
    ends_tallied l.lf l.crlf
    (tally t.before t.opening (t.body + (l.end - i)) t.closing (t.characters + 4 * l.groups) t.pads (t.body + (l.last - i) - 1) t.ends)

-- Such lines can be counted.
abbrev pub LinesFit : Position → Lines → Type 0
LinesFit p l =
    (p.tally.body + (l.end - p.at) < 2 ^ 64)
    × (p.tally.characters + 4 * l.groups < 2 ^ 64)
    × (p.at ≤ l.end)
    × (l.last ≤ l.end)
    × (0 < l.groups → p.at < l.last)
    × EndsFit p.tally.ends l.lf l.crlf

-- Where they lead: to one phase, if there are any.
abbrev pub behind_lines : Position → Phase → Lines → Position
behind_lines p q l = cond (eqb l.groups 0) p (in_phase l.end q (lines_tallied p.at l p.tally))

-- So many bytes of a boundary, counted.
abbrev pub boundary_tallied : Boundary → ℕ → Tally → Tally
boundary_tallied Opening n t = tally t.before (t.opening + n) t.body t.closing t.characters t.pads t.last t.ends
boundary_tallied Closing n t = tally t.before t.opening t.body (t.closing + n) t.characters t.pads t.last t.ends

-- The LF behind a boundary, counted: it is a byte of the body behind the opening, and behind the closing of no part that is counted.
abbrev pub ended_tallied : Boundary → Tally → Tally
ended_tallied Opening t = others_tallied 1 (ends_tallied 1 0 t)
ended_tallied Closing t = ends_tallied 1 0 t
