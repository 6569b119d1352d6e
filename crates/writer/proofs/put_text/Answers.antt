-- The opening's line, the lines of the data and the closing's line, and zeros behind them. Assumes nothing.
use Rattle.std.proofs.Common.{◌≡◌, ◌∙◌, rules}
use Rattle.writing.proofs.Progress.{text_put}
use Rattle.writer.proofs.put_text.Goals as goal

pub returns : goal.returns
returns c =
    let args = c.args in
    let new = c.new-text.ensures in
    let opened : c.put_boundary.new.self.ending ≡ args.ending = c.put_boundary.ensures.ending ∙ new.start.1 in
    let lined : c.put_lines.new.self.ending ≡ args.ending = c.put_lines.ensures.ending ∙ opened in
    let all = text_put args.ending args.label.now args.content.now c.requires
    (rw (new.start.0, new.start.1, new.kept) at c.put_boundary.ensures.put) (rw opened at c.put_lines.ensures.put) (rw lined at c.put_boundary-2.ensures.put) c.clear_rest.ensures in
    search (rules, all)
