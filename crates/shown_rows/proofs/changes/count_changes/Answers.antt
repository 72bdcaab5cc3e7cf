-- The changes are no more than the rows, and so they can be counted.
use Rattle.std.proofs.Common.{◌+◌, ◌<◌, ◌^◌, List, length, ap, arith, inl, rules}
use Rattle.uds_difference.specs.declared.row.Row.TheVariants.{Same}
use Rattle.shown_rows.specs.declared.changes.Change.{Change}
use Rattle.shown_rows.proofs.ChangeCounts.{no-more}
use Rattle.shown_rows.proofs.changes.count_changes.Goals as goal

pub count-requires-clause-fits : goal.count-requires-clause-fits
count-requires-clause-fits c =
    let all = ap (λ (l : List Change). length l) c.of.ensures in
    let few : length c.args.rows.now < 2 ^ 63 = search rules in
    let fewer = no-more Same 0 0 c.args.rows.now in
    let small : 0 + length c.of.result < 2 ^ 64 = omega (arith, all, few, fewer) in
    inl small
