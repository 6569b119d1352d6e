-- The scan of a message of a bundle: from a later message's start it reads what it reads from the first's. Assumes nothing.
use mathlib.Core.Path.{◌≡◌, refl, sym, ap, ◌∙◌}
use mathlib.Core.Logic.{inl, inr}
use mathlib.Core.Bool.{Bool, true, false, true≢false}
use mathlib.Core.List.{List, [], ◌∷◌}
use Prim.Native.Nat.{ℕ, ◌+◌, ◌≤◌, ◌<◌}
use lib.Dec.{eqb}
use lib.ListN.{length, drop, length-append, length-drop}
use native.Mathlib.Omega.{arith}
use borrow.Author.Tests.{eqb-true}
use Rattle.grammar.specs.Marks.{hyphen}
use Rattle.grammar.specs.Message.{text_of}
use Rattle.grammar.specs.declared.Grammar.{Grammar}
use Rattle.grammar.specs.declared.Grammar.TheVariants as grammar
use Rattle.machine.proofs.Machine.{word_step, later, accepting}
use Rattle.machine.specs.declared.State.{State}
use Rattle.reading.specs.Scan.{no_tally, stopped, scan_of}
use Rattle.reading.specs.declared.Scan.{Scan}
use Rattle.reading.specs.Layouts.{TallyFits}
use Rattle.reading.proofs.Places.{reading_fits}
use Rattle.reading.proofs.Whole.{scanned, MessageRead, message_read}
use Rattle.indexing.specs.Index.{StartState, scan_from}

-- Behind a first hyphen it makes no difference which message of a bundle it is.
later_hyphen : (g : Grammar) (l : List ℕ) → scan_of g later 0 no_tally (hyphen ∷ l) ≡ scanned g (hyphen ∷ l)
later_hyphen grammar.Lax l = refl
later_hyphen grammar.Standard l = refl
later_hyphen grammar.Strict l = refl

-- What a scan from a message's start reads: what it reads from the first message's, or nothing.
pub data NextScan (g : Grammar) (l : List ℕ) : Scan → Type 0 where
  same : NextScan g l (scanned g l)
  nothing : NextScan g l (stopped later 0 no_tally)

later_scan : (g : Grammar) (l : List ℕ) → NextScan g l (scan_of g later 0 no_tally l)
later_scan g [] = nothing
later_scan g (c ∷ l) = go (eqb c hyphen) refl
  where
    go : (b : Bool) → eqb c hyphen ≡ b → NextScan g (c ∷ l) (scan_of g later 0 no_tally (c ∷ l))
    go true e = rw (eqb-true c hyphen e, later_hyphen g l) same
    go false e = rw (word_step, e) nothing

pub next_scan : (g : Grammar) (s : State) (l : List ℕ) → StartState g s → NextScan g l (scan_of g s 0 no_tally l)
next_scan g s l (inl e) = rw e same
next_scan g s l (inr e) = rw e (later_scan g l)

-- A scan that accepts is that from the first message's start.
pub accepting_scan : (g : Grammar) (s : State) (l : List ℕ) → StartState g s → accepting (scan_of g s 0 no_tally l).phase ≡ true
    → scan_of g s 0 no_tally l ≡ scanned g l
accepting_scan g s l i a = go (scan_of g s 0 no_tally l) (next_scan g s l i) a
  where
    go : (r : Scan) → NextScan g l r → accepting r.phase ≡ true → r ≡ scanned g l
    go r same h = refl
    go r nothing h = absurd (true≢false (sym h))

-- What the code has to know of a message that it has scanned.
pub record MessageFits (text : List ℕ) (from : ℕ) (s : Scan) : Type 0 where
  pub some : 0 < s.length
  pub within : from + s.length ≤ length text
  pub tally : TallyFits s.length s.tally

pub message_fits : (g : Grammar) (text : List ℕ) (from : ℕ) (s : State) → StartState g s → from ≤ length text
    → accepting (scan_from g text from s).phase ≡ true → MessageFits text from (scan_from g text from s)
message_fits g text from s i w a =
    let e : scan_from g text from s ≡ scanned g (drop from text) = accepting_scan g s (drop from text) i a in
    let m : MessageRead g (drop from text) = message_read g (drop from text) (sym (ap (λ (r : Scan). accepting r.phase) e) ∙ a) in
    let t : TallyFits (scanned g (drop from text)).length (scanned g (drop from text)).tally = rw (m.counted, m.ends) (reading_fits m.reading) in
    rw e
    record {
      some = omega (arith, t.opening, t.sum);
      within = omega (arith, m.ends, length-drop from text, ap length m.joined ∙ length-append (text_of m.reading) m.rest);
      tally = t;
    }
