-- A group and the line end, or the line end alone. Assumes nothing.
use Rattle.std.proofs.Common.{◌≡◌, ◌<◌, length, ap, rules}
use Rattle.std.proofs.lemmas.List.{nil_from_length}
use Rattle.grammar.specs.LineEnds.{line_end}
use Rattle.writing.proofs.Progress.{last_none, last_group}
use Rattle.writer.proofs.Steps.{puts_same, room_front, room_behind, puts_then}
use Rattle.writer.proofs.text.TextWriter.put_last_line.Goals as goal

pub put_end-requires : goal.put_end-requires
put_end-requires c =
    let self = c.args.self.now in
    let none : length c.args.last.now ≡ 0 = search rules in
    rw (last_none self.ending self.room c.args.last.now (nil_from_length _ none)) at c.requires.2

pub returns-then-is_empty : goal.returns-then-is_empty
returns-then-is_empty c =
    let self = c.args.self.now in
    let none : length c.args.last.now ≡ 0 = search rules in
    rw (last_none self.ending self.room c.args.last.now (nil_from_length _ none)) c.put_end.ensures

pub put_group-requires : goal.put_group-requires
put_group-requires c =
    let self = c.args.self.now in
    let some : 0 < length c.args.last.now = search rules in
    let text = last_group self.ending self.room c.args.last.now c.requires.1 some c.requires.0 in
    (c.requires.1, rw c.encode.ensures (room_front self _ (line_end self.ending) (rw text at c.requires.2)))

pub put_end-requires-2 : goal.put_end-requires-2
put_end-requires-2 c =
    let self = c.args.self.now in
    let some : 0 < length c.args.last.now = search rules in
    let text = last_group self.ending self.room c.args.last.now c.requires.1 some c.requires.0 in
    let put = rw c.encode.ensures at c.put_group.ensures.0 in
    rw put.ending (room_behind put (line_end self.ending) (rw text at c.requires.2))

pub returns : goal.returns
returns c =
    let self = c.args.self.now in
    let some : 0 < length c.args.last.now = search rules in
    let text = last_group self.ending self.room c.args.last.now c.requires.1 some c.requires.0 in
    let put = rw c.encode.ensures at c.put_group.ensures.0 in
    rw text (puts_then put (line_end self.ending) (rw text at c.requires.2) (puts_same (ap line_end put.ending) c.put_end-2.ensures))
