-- What is said so far and the parts of the rest are those of all items.
use Rattle.std.proofs.Common.{◌+◌, ◌-◌, ◌/◌, ◌≤◌}
use Rattle.std.specs.List.{flat_map}
use Rattle.text_parts.proofs.Promises.{IsLeft}
use Rattle.trace_pair.specs.ItemTables.{fold_part}
use Rattle.trace_pair.specs.RowStretches.{parts, parts_of}
use Rattle.trace_pair.proofs.FoldParts.{fold_behind}
use Rattle.trace_pair.proofs.folds.say_fold_parts.Given as goal

abbrev pub invariant-parts : goal.invariant-parts
invariant-parts g l = record {
  inside : l.said ≤ l.fold.count;
  left : IsLeft g.S.TextSink.says l.initial.out
      (flat_map (fold_part l.sessions.left.now l.sessions.right.now) (parts_of ((l.fold.count - l.said + 199) / 200) (fold_behind l.fold l.said)))
      (flat_map (fold_part l.sessions.left.now l.sessions.right.now) (parts l.fold)) l.out;
}

abbrev pub decreases-parts : goal.decreases-parts
decreases-parts g l = l.fold.count - l.said
