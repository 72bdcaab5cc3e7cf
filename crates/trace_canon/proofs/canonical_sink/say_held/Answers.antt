-- The sink was put each message that is held: a text sink stops at none.
use Rattle.std.proofs.Common.{◌≡◌, sym, subst, ◌∙◌}
use Rattle.isotp_receive.specs.declared.TheConstants.{MESSAGE_LIMIT}
use Rattle.isotp_segment.specs.Timed.{all_frames}
use Rattle.uds_exchange.specs.Order.{held}
use Rattle.uds_exchange.specs.Orderer.{judged_orderer_after}
use Rattle.trace_canon.specs.proving.Writing.{text_from}
use Rattle.trace_canon.specs.proving.Saying.{SaysPutMessage}
use Rattle.trace_canon.proofs.CanonicalSayings.{held_is_put, said_all}
use Rattle.trace_canon.proofs.canonical_sink.say_held.Goals as goal

pub returns-clause-says : goal.returns-clause-says
returns-clause-says g c = λ M stands.
    let one = SaysPutMessage g.S.TextSink.says in
    let put =
    held_is_put one (λ M. c.args.orderer ≡ judged_orderer_after M) _ c.finish.new.sink c.finish.result c.finish.ensures.puts
    c.finish.ensures.stops M stands in
    let all = said_all g.S.TextSink.says g.met.S.TextSink.nothing g.met.S.TextSink.onward (held M) _ c.finish.new.sink put in
    subst (λ o. g.S.TextSink.says c.args.out.now
    (text_from c.args.config.now c.args.progress.now (all_frames MESSAGE_LIMIT (held M))) o)
    (sym (c.out-1.given.1 (sym all.same_out))) all.said

pub returns-clause-progress : goal.returns-clause-progress
returns-clause-progress g c = λ M stands.
    let one = SaysPutMessage g.S.TextSink.says in
    let put =
    held_is_put one (λ M. c.args.orderer ≡ judged_orderer_after M) _ c.finish.new.sink c.finish.result c.finish.ensures.puts
    c.finish.ensures.stops M stands in
    let all = said_all g.S.TextSink.says g.met.S.TextSink.nothing g.met.S.TextSink.onward (held M) _ c.finish.new.sink put in
    c.progress-1.given.1 (sym all.same_progress) ∙ all.progress
