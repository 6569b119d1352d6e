-- `scanner::Scanner::advance_run` meets its contract. Assumes nothing.
use Rattle.std.proofs.Common.{◌≡◌, true, rules}
use Rattle.machine.proofs.Machine.{label_ends}
use Rattle.scanner.proofs.Boundaries.{continues}
use Rattle.scanner.proofs.Scanner.advance_run.Goals as goal

pub advance_label-requires : goal.advance_label-requires
advance_label-requires c =
    let here = c.in-Label-default-Start in
    let ends : label_ends here.field-1 ≡ true = search rules in
    (c.requires.0, rw here.is (continues here.boundary here.field-1 ends))
