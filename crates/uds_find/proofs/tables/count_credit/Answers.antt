-- The pair's number rises by one.
use Rattle.std.proofs.Common.{arith, ap, sym, ◌∙◌}
use Rattle.std.specs.Option.{unwrap_or}
use Rattle.uds_find.specs.Credit.{is_same_pair}
use Rattle.uds_find.proofs.Orders.{one-pair, pair_order, same-pair}
use Rattle.uds_find.proofs.Results.{when_err}
use Rattle.uds_find.proofs.Tallies.{found-key, from-counted, tally-more}
use Rattle.uds_find.proofs.tables.count_credit.Goals as goal

pub returns-clause-ok : goal.returns-clause-ok
returns-clause-ok c = λ count small tally.
    let has = c.credits_of-counted.ensures ∙ ap (λ o. unwrap_or o 0) (tally.counts c.args.pair) ∙ from-counted (count c.args.pair) in
    tally-more pair_order is_same_pair same-pair one-pair count c.args.pair c.args.credits.now c.insert.new.self _ tally
    c.in_ok-insert.ensures.ordered c.in_ok-insert.ensures.updates (grind (arith, has, small, c.saturating_add.ensures))

pub returns-in_err-insert-clause-needs : goal.returns-in_err-insert-clause-needs
returns-in_err-insert-clause-needs c =
    when_err c.from_residual.result (ap (λ o. unwrap_or o 0)
    (sym (found-key pair_order is_same_pair same-pair c.args.pair c.args.credits.now.entries) ∙ c.in_err-insert.ensures.absent))
