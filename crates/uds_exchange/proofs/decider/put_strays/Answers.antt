-- Messages that were put as strays are these items.
use Rattle.std.proofs.Common.{map, sym, subst}
use Rattle.uds_exchange.specs.ItemSink.{PutsItems}
use Rattle.uds_exchange.specs.Meaning.{stray_of}
use Rattle.uds_exchange.proofs.PuttingItems.{strays-put}
use Rattle.uds_exchange.proofs.decider.put_strays.Goals as goal

pub returns : goal.returns
returns g c =
    let all = strays-put g.S.ItemSink.takes c.args.held.now _ c.put_all.new.sink c.in-Ok.ensures.ok in
    subst (λ o. PutsItems g.S.ItemSink.takes c.args.sink.now (map stray_of c.args.held.now) o) (sym (c.sink-1.given.1 (sym all.0))) all.1
