-- What is held is said, and whether a line did not fit is whether the canonical log is too long.
use Rattle.std.proofs.Common.{Bool, ap, sym, ◌∙◌, Ok, Err}
use Rattle.std.specs.Prelude.{if◌then◌else◌}
use Rattle.isotp_receive.specs.declared.TheConstants.{MESSAGE_LIMIT}
use Rattle.trace_log.specs.Messages.{messages_under}
use Rattle.trace_run.specs.declared.machine.NoAnswer.TheVariants.{OutputLimit}
use Rattle.trace_canon.proofs.SaidCanonicalLogs.{over_at_end, within_at_end}
use Rattle.trace_canon.proofs.normaliser.NormaliserMachine.end.Goals as goal

pub returns-then-is_full-clause-answered : goal.returns-then-is_full-clause-answered
returns-then-is_full-clause-answered g c = λ rules start T stands pair.
    let self = c.args.self in
    let over =
    over_at_end rules start.config.now self.config.now T self.orderer self.progress c.say_held.new.progress stands
    (c.say_held.ensures.progress (messages_under rules MESSAGE_LIMIT T) stands.ordered)
    (sym c.is_full.ensures ∙ c.if-is_full.true) in
    ap (λ (b : Bool). if b then Ok c.args.summary.now else Err OutputLimit) (sym over)

pub returns-clause-answered : goal.returns-clause-answered
returns-clause-answered g c = λ rules start T stands pair.
    let self = c.args.self in
    let within =
    within_at_end rules start.config.now self.config.now T self.orderer self.progress c.say_held.new.progress stands
    (c.say_held.ensures.progress (messages_under rules MESSAGE_LIMIT T) stands.ordered)
    (sym c.is_full.ensures ∙ c.if-is_full.false) in
    ap (λ (b : Bool). if b then Ok c.args.summary.now else Err OutputLimit) (sym within)
