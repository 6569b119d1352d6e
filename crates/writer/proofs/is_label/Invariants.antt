-- The bytes are a label exactly where those that are left are what may still come of one. Assumes nothing.
use Rattle.std.proofs.Common.{◌≡◌, drop}
use Rattle.machine.proofs.Machine.{label_from}
use Rattle.writing.specs.Write.{is_label}
use Rattle.writer.proofs.is_label.Given as goal

abbrev pub invariant-loop-b : goal.invariant-loop-b
invariant-loop-b l = is_label l.label ≡ label_from l.phase (drop l.b-index l.label)
