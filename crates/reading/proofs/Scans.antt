-- What the tally of a scan keeps to. Assumes nothing.
use mathlib.Core.Bool.{Bool, true, false, cond}
use Prim.Native.Nat.{ℕ, suc, ◌+◌, ◌≤◌}
use native.Mathlib.Omega.{arith}
use lib.Dec.{eqb}
use Rattle.grammar.specs.Marks.{CR, LF}
use Rattle.machine.proofs.ByteKinds.{kind_of}
use Rattle.machine.specs.declared.Kind.{Kind}
use Rattle.machine.specs.declared.Kind.TheVariants as kind
use Rattle.machine.specs.declared.Part.{Part}
use Rattle.machine.specs.declared.Part.TheVariants as part
use Rattle.reading.specs.Ends.{ends, end_counted}
use Rattle.reading.specs.Scan.{body_tallied, tallied, byte_tallied}
use Rattle.reading.specs.declared.EndCounts.{EndCounts}
use Rattle.reading.specs.declared.Tally.{Tally}

-- A tally of at most n bytes, whose counts within the body are at most the body's. Each byte is in one count of line ends at most.
pub record Within (t : Tally) (n : ℕ) : Type 0 where
  pub parts : t.before + t.opening + t.body + t.closing ≤ n
  pub characters : t.characters ≤ t.body
  pub pads : t.pads ≤ t.body
  pub last : t.last ≤ t.body
  pub ends : t.ends.lf + t.ends.crlf + t.ends.cr ≤ n

within_body : (k : Kind) {t : Tally} {n : ℕ} → Within t n → Within (body_tallied k t) (suc n)
within_body kind.Tab w = omega arith
within_body kind.Space w = omega arith
within_body kind.Cr w = omega arith
within_body kind.Lf w = omega arith
within_body kind.Feed w = omega arith
within_body kind.Hyphen w = omega arith
within_body kind.Alphabet w = omega arith
within_body kind.Pad w = omega arith
within_body kind.Mark w = omega arith
within_body kind.Other w = omega arith

within_part : (p : Part) (k : Kind) {t : Tally} {n : ℕ} → Within t n → Within (tallied p k t) (suc n)
within_part part.Before k w = omega arith
within_part part.Opening k w = omega arith
within_part part.Body k w = within_body k w
within_part part.Closing k w = omega arith
within_part part.After k w = omega arith

-- A byte shows one line end at most.
abbrev shown : Bool → Bool → Bool → EndCounts → EndCounts
shown a b d e = cond a (cond d (ends e.lf (e.crlf + 1) e.cr) (ends (e.lf + 1) e.crlf e.cr)) (cond b (ends e.lf e.crlf (e.cr + 1)) e)

end_within : (behind_cr : Bool) (c : ℕ) (e : EndCounts) {n : ℕ} → e.lf + e.crlf + e.cr ≤ n
    → (end_counted behind_cr c e).lf + (end_counted behind_cr c e).crlf + (end_counted behind_cr c e).cr ≤ suc n
end_within behind_cr c e {n} h = go (eqb c LF) (eqb c CR) behind_cr
  where
    go : (a b d : Bool) → (shown a b d e).lf + (shown a b d e).crlf + (shown a b d e).cr ≤ suc n
    go true b true = omega arith
    go true b false = omega arith
    go false true d = omega arith
    go false false d = omega arith

pub within_next : (behind_cr : Bool) (c : ℕ) (p : Part) {t : Tally} {n : ℕ} → Within t n → Within (byte_tallied behind_cr c p t) (suc n)
within_next behind_cr c p {t} w =
    let v = within_part p (kind_of c) w in
    record { parts = v.parts; characters = v.characters; pads = v.pads; last = v.last; ends = end_within behind_cr c t.ends w.ends }
