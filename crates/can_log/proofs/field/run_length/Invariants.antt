use Rattle.std.proofs.Common.{◌-◌, ◌≡◌, ◌≤◌, length, ◌+◌, drop}
use Rattle.can_log.specs.proving.FieldReader.{run_length}
use Rattle.can_log.proofs.field.run_length.Given as goal

abbrev pub invariant-loop-n : goal.invariant-loop-n
invariant-loop-n l = record {
  within : l.n ≤ length l.bytes;
  below : l.n ≤ l.most;
  so_far : l.n + run_length l.class (l.most - l.n) (drop l.n l.bytes) ≡ run_length l.class l.most l.bytes;
}

abbrev pub decreases-loop-n : goal.decreases-loop-n
decreases-loop-n l = l.most - l.n
