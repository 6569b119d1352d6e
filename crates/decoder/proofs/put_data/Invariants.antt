-- The body is decoded as far as it was read, and the output is as long as it was. Assumes nothing.
use Rattle.std.proofs.Common.{◌≡◌, ◌-◌, ◌≤◌, length}
use Rattle.decoder.specs.Decoding.{Decoding}
use Rattle.decoder.proofs.put_data.Given as goal

abbrev pub invariant-loop-done : goal.invariant-loop-done
invariant-loop-done l =
    (l.done.read ≤ length l.body) × (length l.out ≡ length l.initial.out) × Decoding l.body l.out l.done.group l.done.written l.done.read

abbrev pub decreases-loop-done : goal.decreases-loop-done
decreases-loop-done l = length l.body - l.done.read
