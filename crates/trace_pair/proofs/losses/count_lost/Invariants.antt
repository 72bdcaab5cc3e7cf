-- What is counted so far and the losses of the rest are those of all rows.
use Rattle.std.proofs.Common.{◌≡◌, ◌≤◌, ◌+◌, ◌-◌, length, take, drop}
use Rattle.trace_pair.specs.proving.Losing.{lost}
use Rattle.trace_pair.proofs.losses.count_lost.Given as goal

abbrev pub invariant-rows : goal.invariant-rows
invariant-rows l = record {
  few : l.losses + l.from ≤ l.at;
  so_far : l.losses + length (lost (take (l.to - l.at) (drop l.at l.rows))) ≡ length (lost (take (l.to - l.from) (drop l.from l.rows)));
}
