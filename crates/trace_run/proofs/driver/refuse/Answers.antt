-- The machine is told the refusal with the counts of the lines before, and settled behind what was said.
use Rattle.std.proofs.Common.{◌++◌, [], refl, subst}
use Rattle.trace_run.specs.proving.Ending.{EndsOn}
use Rattle.trace_log.specs.Trace.{trace}
use Rattle.trace_log.specs.declared.fault.Fault.{Fault}
use Rattle.trace_log.specs.declared.summary.Summary.{Summary}
use Rattle.trace_run.specs.Script.{glimpse_value}
use Rattle.trace_run.proofs.driver.refuse.Goals as goal

pub returns : goal.returns
returns g c = λ machine_start settings meanings received judged stands start said carried.
    let why = c.args.why in
    let T = trace settings meanings in
    let refused = λ (summary : Summary) (why : Fault). g.M.Machine.refusal settings.rules machine_start
    (glimpse_value c.args.glimpse) T summary why in
    let counted = c.summary-summary.ensures settings [] meanings received refl judged in
    subst (λ s. EndsOn g.W.Target why start (said ++ refused s why) c.settle_before.result c.settle_before.new.target) counted
    (c.settle_before.ensures start (said ++ refused c.summary-summary.result why)
    (c.tell_refusal.ensures.says settings.rules machine_start T stands start said carried))
