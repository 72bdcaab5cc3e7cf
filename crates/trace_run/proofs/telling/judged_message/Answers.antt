-- The judge has taken the one message that is shown.
use Rattle.std.proofs.Common.{◌++◌, subst, sym}
use Rattle.std.specs.Option.{option_map}
use Rattle.uds_exchange.specs.Judging.{IsJudgeOf}
use Rattle.uds_rules.specs.Under.{sent_as}
use Rattle.trace_run.proofs.telling.judged_message.Goals as goal

pub returns-in-Some-clause-next : goal.returns-in-Some-clause-next
returns-in-Some-clause-next c = λ M few so_far.
    subst (λ shown. IsJudgeOf (M ++ sent_as c.args.dir (option_map (λ bytes. bytes.now) shown)) c.take.new.self) (sym c.in-Some.is)
    (record { counted = c.take.ensures.next M few so_far.counted; sides = c.take.ensures.sides M so_far.sides })
