-- Where there is room, what is kept is that of one more message.
use Rattle.std.proofs.Common.{subst}
use Rattle.uds_exchange.specs.Judging.{sent}
use Rattle.trace_canon.specs.proving.SessionScript.{Collects}
use Rattle.trace_canon.proofs.Collecting.{collects_more}
use Rattle.trace_canon.proofs.Results.{two_ok}
use Rattle.trace_canon.proofs.collector.Collector.take.Goals as goal

pub returns-clause-collects : goal.returns-clause-collects
returns-clause-collects c = two_ok c.take.result (λ pairs room settings M judged stood.
    let config = c.args.self.now.config.now in
    let kept = subst (λ k. Collects settings M k config) c.in-Some.is stood in
    collects_more settings M config c.in-Some.collected kept (sent c.args.message) c.added_length-added.result c.take.new.self
    (c.added_length-added.ensures M kept.size judged) (λ is. pairs M is judged) room)
    c.take.ensures.pairing c.take.ensures.room
