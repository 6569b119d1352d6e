-- `scanner::scan_decoding` meets its contract. Assumes nothing.
use Rattle.std.proofs.Common.{refl, ◌∙◌, arith}
use Rattle.scanner.proofs.Advances.{advanced_then, scanned, within_there, countable}
use Rattle.scanner.proofs.scan_decoding.Goals as goal

pub decode_lines-lines-requires : goal.decode_lines-lines-requires
decode_lines-lines-requires c =
    let opened = c.scan_on-opened.ensures.0 in
    let within = within_there opened (rw c.no_tally.ensures (omega arith)) in
    countable c.args.text.now c.scan_on-opened.result opened.inside (omega (arith, c.well_formed)) within

pub scan_on-end-requires : goal.scan_on-end-requires
scan_on-end-requires c =
    let within = within_there c.scan_on-opened.ensures.0 (rw c.no_tally.ensures (omega arith)) in
    let lines = c.decode_lines-lines.ensures.2 in
    (lines.inside, within_there lines within)

pub returns : goal.returns
returns c =
    let lines = c.decode_lines-lines.ensures in
    let rest = c.scan_on-end.ensures in
    let all = advanced_then c.scan_on-opened.ensures.0 (advanced_then lines.2 rest.0) in
    (c.scan_from.ensures ∙ scanned all (rest.1 refl) ∙ rw (c.no_tally.ensures, c.start.ensures), lines.0, lines.2.forward, lines.1)
