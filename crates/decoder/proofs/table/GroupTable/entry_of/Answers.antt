-- The rule of the table. Assumes nothing.
use Rattle.std.proofs.Common.{List, [], ℕ, get_or, ap, ◌∙◌, arith}
use Rattle.decoder.proofs.Tables.{table_rule, row_at, marked_bound}
use Rattle.decoder.proofs.table.GroupTable.entry_of.Goals as goal

pub returns : goal.returns
returns c =
    let a = c.args in
    let e =
    (λ i. get_or (get_or (a.self.now.rule i) a.place []) a.c 0) ∙ ap (λ (l : List ℕ). get_or l a.c 0) (row_at a.place c.requires) ∙ table_rule a.place a.c (omega (arith, c.ranges.c)) in
    (e, omega (arith, e, marked_bound a.place a.c))
