-- The scan: the machine run over a text to its first death or the end, and what is counted beside it. Assumes nothing.
-- None of this has to be believed: `Meaning` says what a call answers in terms of the grammars' relations.
use Rattle.std.specs.Prelude.{Bool, cond, List, [], ◌∷◌, ℕ, suc, ◌+◌, ◌^◌, ◌<◌}
use Rattle.grammar.specs.declared.Grammar.{Grammar}
use Rattle.machine.proofs.ByteKinds.{kind_of}
use Rattle.machine.proofs.Machine.{step, part_of, byte_part, dead}
use Rattle.machine.specs.declared.Kind.{Kind}
use Rattle.machine.specs.declared.Kind.TheVariants as kind
use Rattle.machine.specs.declared.Part.{Part}
use Rattle.machine.specs.declared.Part.TheVariants as part
use Rattle.machine.specs.declared.State.{State}
use Rattle.reading.specs.Ends.{no_ends, end_counted}
use Rattle.reading.specs.declared.EndCounts.{EndCounts}
use Rattle.reading.specs.declared.Tally.{Tally}
use Rattle.reading.specs.declared.Scan.{Scan}

abbrev pub tally : (before opening body closing characters pads last : ℕ) (ends : EndCounts) → Tally
tally before opening body closing characters pads last ends =
    record { before = before; opening = opening; body = body; closing = closing; characters = characters; pads = pads; last = last; ends = ends }

abbrev pub no_tally : Tally
no_tally = tally 0 0 0 0 0 0 0 no_ends

-- A byte of the body: an alphabet character, a pad, or another.
abbrev pub character_tallied : Tally → Tally
character_tallied t = tally t.before t.opening (t.body + 1) t.closing (t.characters + 1) t.pads t.body t.ends

abbrev pub pad_tallied : Tally → Tally
pad_tallied t = tally t.before t.opening (t.body + 1) t.closing t.characters (t.pads + 1) t.last t.ends

abbrev pub other_tallied : Tally → Tally
other_tallied t = tally t.before t.opening (t.body + 1) t.closing t.characters t.pads t.last t.ends

abbrev pub body_tallied : Kind → Tally → Tally
body_tallied kind.Tab t = other_tallied t
body_tallied kind.Space t = other_tallied t
body_tallied kind.Cr t = other_tallied t
body_tallied kind.Lf t = other_tallied t
body_tallied kind.Feed t = other_tallied t
body_tallied kind.Hyphen t = other_tallied t
body_tallied kind.Alphabet t = character_tallied t
body_tallied kind.Pad t = pad_tallied t
body_tallied kind.Mark t = other_tallied t
body_tallied kind.Other t = other_tallied t

-- A byte of a part. What stands behind the closing is counted in none, but for its line ends.
abbrev pub tallied : Part → Kind → Tally → Tally
tallied part.Before k t = tally (t.before + 1) t.opening t.body t.closing t.characters t.pads t.last t.ends
tallied part.Opening k t = tally t.before (t.opening + 1) t.body t.closing t.characters t.pads t.last t.ends
tallied part.Body k t = body_tallied k t
tallied part.Closing k t = tally t.before t.opening t.body (t.closing + 1) t.characters t.pads t.last t.ends
tallied part.After k t = t

-- The same tally with other line ends.
abbrev pub with_ends : Tally → EndCounts → Tally
with_ends t e = tally t.before t.opening t.body t.closing t.characters t.pads t.last e

-- A byte with the line end that it shows, behind CR or not.
abbrev pub byte_tallied : Bool → ℕ → Part → Tally → Tally
byte_tallied behind_cr c p t = with_ends (tallied p (kind_of c) t) (end_counted behind_cr c t.ends)

-- A tally to which a byte can be added: what code that counts has to know.
abbrev pub Roomy : Tally → Type 0
Roomy t =
    (t.before + 1 < 2 ^ 64)
    × (t.opening + 1 < 2 ^ 64)
    × (t.body + 1 < 2 ^ 64)
    × (t.closing + 1 < 2 ^ 64)
    × (t.characters + 1 < 2 ^ 64)
    × (t.pads + 1 < 2 ^ 64)

abbrev pub stopped : State → ℕ → Tally → Scan
stopped s n t = record { phase = s.phase; length = n; tally = t }

-- From a state of the machine on, with n bytes and a tally behind it.
abbrev pub scan_of : Grammar → State → ℕ → Tally → List ℕ → Scan
scan_of g s n t [] = stopped s n t
scan_of g s n t (c ∷ l) =
    cond
    (dead (step g s c).phase)
    (stopped s n t)
    (scan_of g (step g s c) (suc n) (byte_tallied s.cr c (byte_part (part_of s.phase) (part_of (step g s c).phase)) t) l)
