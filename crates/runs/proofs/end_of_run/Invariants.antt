-- All that was passed passes the test. Assumes nothing.
use Rattle.std.proofs.Common.{true, ◌-◌, ◌≤◌}
use Rattle.runs.specs.Runs.{Run}
use Rattle.runs.proofs.end_of_run.Given as goal

abbrev pub invariant-loop-at : goal.invariant-loop-at
invariant-loop-at g l = record {
  begun : l.from ≤ l.at;
  within : l.at ≤ l.limit;
  run : Run (λ c. goal.F-post g l.passes c true) l.text l.from l.at;
}

abbrev pub decreases-loop-at : goal.decreases-loop-at
decreases-loop-at g l = l.limit - l.at
