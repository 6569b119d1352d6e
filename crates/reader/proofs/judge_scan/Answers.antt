-- A text that was read to its end is one message, if the machine accepts it, and its parts lie within it. Assumes nothing.
use Rattle.std.proofs.Common.{◌≡◌, ℕ, true, List, length, ◌∙◌}
use native.Mathlib.Nat.{zero-add}
use borrow.Author.Tests.{eq-eqb}
use Rattle.grammar.specs.declared.Grammar.{Grammar}
use Rattle.machine.proofs.Machine.{start, accepting}
use Rattle.reading.specs.Scan.{no_tally, scan_of}
use Rattle.reading.specs.Layouts.{TallyFits}
use Rattle.reading.specs.Read.{is_whole}
use Rattle.reading.specs.declared.Scan.{Scan}
use Rattle.reading.proofs.Meaning.{whole_fits}
use Rattle.reader.proofs.judge_scan.Goals as goal

scan-fits : (g : Grammar) (text : List ℕ) (s : Scan) → s ≡ scan_of g (start g) 0 no_tally text → s.length ≡ length text → accepting s.phase ≡ true
    → TallyFits s.length s.tally
scan-fits g text s e size accepted =
    let whole : is_whole s (length text) ≡ true = rw (eq-eqb s.length (length text) size, accepted) in
    let fits : TallyFits (length text) s.tally = rw e (whole_fits g text (rw e at whole)) in
    rw size fits

pub judge_message-requires-clause-parts : goal.judge_message-requires-clause-parts
judge_message-requires-clause-parts c = scan-fits c.args.grammar c.args.text.now c.args.scan c.requires c.if-scan-text.false

pub returns : goal.returns
returns c = c.judge_message.ensures ∙ rw (eq-eqb _ _ c.if-scan-text.false, zero-add c.args.scan.length)
