-- What the table finds under the pair.
use Rattle.std.proofs.Common.{ap, ◌∙◌}
use Rattle.std.specs.Option.{unwrap_or}
use Rattle.uds_find.specs.Credit.{is_same_pair}
use Rattle.uds_find.proofs.Orders.{pair_order, same-pair}
use Rattle.uds_find.proofs.Tallies.{found-key}
use Rattle.uds_find.proofs.tables.credits_of.Goals as goal

pub returns : goal.returns
returns c =
    c.unwrap_or.ensures ∙ ap (λ o. unwrap_or o 0)
    (c.copied.ensures ∙ c.get.ensures.value ∙ found-key pair_order is_same_pair same-pair c.args.pair c.args.credits.now.entries)
