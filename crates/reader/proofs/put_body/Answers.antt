-- Assumes nothing.
use Rattle.std.proofs.Common.{◌≡◌, ℕ, ◌+◌, ◌-◌, ◌≤◌, List, [], ◌++◌, length, take, drop, sym, ap, ◌∙◌, arith, length-drop}
use lib.Seq.{take-take, length-take-le}
use Rattle.base_64.specs.Groups.{decode}
use Rattle.grammar.specs.Message.{characters}
use Rattle.grammar.proofs.Counts.{characters_append}
use Rattle.runs.specs.Runs.{Outside, between}
use Rattle.runs.proofs.Runs.{between_join}
use Rattle.runs.proofs.Alphabet.{outside_characters}
use Rattle.decoder.specs.Decoding.{Decoded}
use Rattle.decoder.proofs.Decoding.{decoded_decoding}
use Rattle.reading.specs.Layouts.{spanned}
use Rattle.reading.specs.declared.Span.{Span}
use Rattle.reader.proofs.put_body.Goals as goal

spanned-length : (text : List ℕ) (span : Span) → span.at.0 + span.length ≤ length text → length (spanned text span) ≡ span.length
spanned-length text span h = length-take-le span.length (drop span.at.0 text) (simp length-drop (omega arith))

-- The front of a part is what stands from its offset on.
front : (text : List ℕ) (span : Span) (to : ℕ) → to - span.at.0 ≤ span.length → take (to - span.at.0) (spanned text span) ≡ between text span.at.0 to
front text span to h = take-take (to - span.at.0) span.length (drop span.at.0 text) h

-- Before what was decoded a part has no characters.
lead : (text : List ℕ) (span : Span) (from to r : ℕ) → span.at.0 + span.length ≤ length text → span.at.0 ≤ from → from ≤ to → to - span.at.0 ≤ span.length → from - span.at.0 ≤ r
    → Outside (spanned text span) 0 r → characters (take (to - span.at.0) (spanned text span)) ≡ characters (between text from to)
lead text span from to r inside h more few less o =
    let size = spanned-length text span inside in
    let here : 0 + (from - span.at.0) ≡ from - span.at.0 = omega arith in
    let empty : characters (take (from - span.at.0) (spanned text span)) ≡ [] =
    outside_characters (from - span.at.0) (spanned text span) 0 (omega (arith, size)) (record { all = λ k low high. o.all k low (omega arith) }) in
    ap characters (front text span to few ∙ between_join text span.at.0 from to h more)
    ∙ characters_append (between text span.at.0 from) (between text from to)
    ∙ ap (λ (x : List ℕ). x ++ characters (between text from to)) (sym (ap characters (front text span from (omega arith))) ∙ empty)

with_lead : {part part' out : List ℕ} {n : ℕ} → characters part' ≡ characters part → Decoded part out n → Decoded part' out n
with_lead e d = record { groups = d.groups; counted = ap length e ∙ d.counted; size = d.size; written = d.written ∙ ap decode (sym e) }

pub put_data-requires : goal.put_data-requires
put_data-requires c =
    let text = c.args.text.now in
    let span = c.args.body in
    let part = c.part_at-part.ensures.bytes in
    let skipped = rw part at c.skip_outside.ensures.2 in
    let size = spanned-length text span c.requires.0 in
    let same = lead text span c.args.pass.from c.args.pass.to c.skip_outside.result c.requires.0 (omega arith) c.requires.2 (omega arith) (omega arith) skipped in
    (rw (part, size) (omega arith), rw part (decoded_decoding (with_lead same c.requires.3) c.requires.1))
