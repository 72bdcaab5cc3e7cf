-- What was said at the end was settled, or writing failed: by what is carried to the sheet and what the machine
-- answers.
use Rattle.std.proofs.Common.{not, subst, Ok, Err}
use Rattle.trace_run.specs.declared.machine.NoAnswer.TheVariants.{OutputLimit}
use Rattle.trace_run.specs.proving.Carrying.{HasSaid, blank_sheet}
use Rattle.trace_run.specs.proving.Ending.{whole_since}
use Rattle.trace_run.specs.proving.Ruling.{HasJudged}
use Rattle.trace_log.specs.Trace.{trace}
use Rattle.trace_log.proofs.Promises.{handed_on}
use Rattle.trace_run.proofs.EndedRuns.{carried_at_the_end, only_output_limit}
use Rattle.trace_run.proofs.SaidFronts.{only_more}
use Rattle.trace_run.proofs.driver.finish.Goals as goal

pub returns-then-not-settle-clause-ends : goal.returns-then-not-settle-clause-ends
returns-then-not-settle-clause-ends g c = λ start settings log meanings received feed ruled tells.
    let M = g.M.Machine in
    let W = g.W.Target in
    let telling = c.args.receiver.telling in
    let judged = subst (λ rules. HasJudged rules (trace settings meanings) telling.judge telling.ruling.left_out) ruled tells.judged in
    let counted = c.summary-summary.ensures settings log meanings received feed judged in
    subst (λ b. HasSaid W start.target (whole_since M W start settings log meanings) (blank_sheet (not b)) c.settle.new.target) c.if-not-settle.true
    (carried_at_the_end M W start settings log meanings _ _ _ _ _ c.settle.result c.summary-summary.result tells counted
    (c.tell_end-answer.ensures.says start.rules start.machine (trace settings meanings) tells.machine_stands received.pair_is)
    c.settle.ensures.settled)

pub returns-clause-ends : goal.returns-clause-ends
returns-clause-ends g c = λ start settings log meanings received feed ruled tells.
    let M = g.M.Machine in
    let W = g.W.Target in
    let telling = c.args.receiver.telling in
    let judged = subst (λ rules. HasJudged rules (trace settings meanings) telling.judge telling.ruling.left_out) ruled tells.judged in
    let counted = c.summary-summary.ensures settings log meanings received feed judged in (
      subst (λ s. M.answers start.rules start.machine (trace settings meanings) s (Ok c.in_ok-answer.field-0)) counted
          (c.in_ok-answer.ensures.answered start.rules start.machine (trace settings meanings) tells.machine_stands received.pair_is),
      subst (λ b. HasSaid W start.target (whole_since M W start settings log meanings) (blank_sheet (not b)) c.settle.new.target)
          c.if-not-settle.false
          (carried_at_the_end M W start settings log meanings _ _ _ _ _ c.settle.result c.summary-summary.result tells counted
          (c.tell_end-answer.ensures.says start.rules start.machine (trace settings meanings) tells.machine_stands received.pair_is)
          c.settle.ensures.settled),
    )

pub returns-in_err-answer-clause-ends : goal.returns-in_err-answer-clause-ends
returns-in_err-answer-clause-ends g c = λ start settings log meanings received feed ruled tells.
    let M = g.M.Machine in
    let W = g.W.Target in
    let telling = c.args.receiver.telling in
    let judged = subst (λ rules. HasJudged rules (trace settings meanings) telling.judge telling.ruling.left_out) ruled tells.judged in
    let counted = c.summary-summary.ensures settings log meanings received feed judged in
    rw (handed_on c.from_residual.result _ c.from_residual.ensures.1) (
      subst (λ s. M.answers start.rules start.machine (trace settings meanings) s (Err OutputLimit)) counted
          (subst (λ reason. M.answers start.rules start.machine (trace settings meanings) c.summary-summary.result (Err reason))
          (only_output_limit c.in_err-answer.field-0.0)
          (c.in_err-answer.ensures.answered start.rules start.machine (trace settings meanings) tells.machine_stands received.pair_is)),
      subst (λ b. HasSaid W start.target (whole_since M W start settings log meanings) (blank_sheet (not b)) c.settle.new.target)
          c.if-not-settle.false
          (carried_at_the_end M W start settings log meanings _ _ _ _ _ c.settle.result c.summary-summary.result tells counted
          (c.tell_end-answer.ensures.says start.rules start.machine (trace settings meanings) tells.machine_stands received.pair_is)
          c.settle.ensures.settled),
    )

pub returns-then-not-settle-clause-more : goal.returns-then-not-settle-clause-more
returns-then-not-settle-clause-more g c = λ machine_start settings meanings received stands mid said carried.
    let told = c.tell_end-answer.ensures.says settings.rules machine_start (trace settings meanings) stands received.pair_is in
    only_more (c.settle.ensures.settled mid _ (told mid said carried))

pub returns-clause-more : goal.returns-clause-more
returns-clause-more g c = λ machine_start settings meanings received stands mid said carried.
    let told = c.tell_end-answer.ensures.says settings.rules machine_start (trace settings meanings) stands received.pair_is in
    only_more (c.settle.ensures.settled mid _ (told mid said carried))

pub returns-in_err-answer-clause-more : goal.returns-in_err-answer-clause-more
returns-in_err-answer-clause-more g c = λ machine_start settings meanings received stands mid said carried.
    let told = c.tell_end-answer.ensures.says settings.rules machine_start (trace settings meanings) stands received.pair_is in
    only_more (c.settle.ensures.settled mid _ (told mid said carried))
