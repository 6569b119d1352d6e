-- Part by part. Assumes nothing.
use Rattle.std.proofs.Common.{◌++◌, ap, ◌∙◌}
use Rattle.grammar.specs.Marks.{hyphens}
use Rattle.grammar.specs.LineEnds.{line_end}
use Rattle.writer.proofs.Steps.{puts_same, room_behind, puts_then}
use Rattle.writer.proofs.text.TextWriter.put_boundary.Goals as goal

pub returns : goal.returns
returns c =
    let ending = c.args.self.now.ending in
    let label = c.args.label.now in
    let first = c.put_bytes.ensures.0 in
    let second = c.put_bytes-2.ensures.0 in
    let third = c.put_bytes-3.ensures.0 in
    let last = puts_same (ap line_end (third.ending ∙ (second.ending ∙ first.ending))) c.put_end.ensures in
    let behind_word = room_behind first (label ++ (hyphens ++ line_end ending)) c.requires in
    let behind_label = room_behind second (hyphens ++ line_end ending) behind_word in
    puts_then first (label ++ (hyphens ++ line_end ending)) c.requires
    (puts_then second (hyphens ++ line_end ending) behind_word (puts_then third (line_end ending) behind_label last))
