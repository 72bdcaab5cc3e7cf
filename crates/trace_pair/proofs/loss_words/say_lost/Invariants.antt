-- What is told so far and the losses of the rest are those of all rows.
use Rattle.std.proofs.Common.{◌≡◌, ◌≤◌, ◌+◌, ◌-◌, length, take, drop}
use Rattle.std.specs.List.{flat_map}
use Rattle.text_parts.proofs.Promises.{IsLeft}
use Rattle.trace_pair.specs.Losses.{loss_line}
use Rattle.trace_pair.specs.proving.Losing.{lost}
use Rattle.trace_pair.proofs.loss_words.say_lost.Given as goal

abbrev pub invariant-rows : goal.invariant-rows
invariant-rows g l = record {
  few : l.told + l.from ≤ l.at;
  so_far : l.told + length (lost (take (l.to - l.at) (drop l.at l.rows))) ≡ length (lost (take (l.to - l.from) (drop l.from l.rows)));
  left : IsLeft g.S.TextSink.says l.initial.out (flat_map (loss_line l.log) (take (20 - l.told) (lost (take (l.to - l.at) (drop l.at l.rows)))))
      (flat_map (loss_line l.log) (take 20 (lost (take (l.to - l.from) (drop l.from l.rows))))) l.out;
}
