-- What was collected is answered where its canonical log is within the limit.
use Rattle.std.proofs.Common.{refl, subst, ◌∙◌}
use Rattle.isotp_receive.specs.declared.TheConstants.{MESSAGE_LIMIT}
use Rattle.trace_log.specs.Messages.{messages_under}
use Rattle.trace_canon.specs.proving.SessionScript.{Collects}
use Rattle.trace_canon.proofs.Collecting.{no_longer_fits, still_fits}
use Rattle.trace_canon.proofs.collector.CollectorMachine.end.Goals as goal

pub returns-in-Some-clause-answered : goal.returns-in-Some-clause-answered
returns-in-Some-clause-answered g c = λ rules start T stood pair.
    let M = messages_under rules MESSAGE_LIMIT T in
    let kept = subst (λ k. Collects start.config.now M k c.args.self.config.now) c.in-Some.is stood.collects in
    let fits = still_fits start.config.now M c.args.self.config.now c.in-Some.collected kept in
    (c.finish.ensures ∙ fits.0, refl, fits.1, stood.counted)

pub returns-in-None-clause-answered : goal.returns-in-None-clause-answered
returns-in-None-clause-answered g c = λ rules start T stood pair.
    let M = messages_under rules MESSAGE_LIMIT T in
    no_longer_fits start.config.now M c.args.self.config.now
    (subst (λ k. Collects start.config.now M k c.args.self.config.now) c.in-None.is stood.collects)
