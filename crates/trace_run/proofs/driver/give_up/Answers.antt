-- A bad line and the limit are one arm: each fault is what its own case says.
use Rattle.std.proofs.Common.{inl, inr, sym, subst}
use Rattle.trace_log.specs.declared.fault.Fault.{Fault}
use Rattle.trace_run.specs.proving.Ending.{GivesUp, RefusesSaying}
use Rattle.trace_run.specs.Script.{glimpse_value}
use Rattle.trace_run.proofs.driver.give_up.Goals as goal

pub returns-in-BadLine : goal.returns-in-BadLine
returns-in-BadLine g c =
    let M = g.M.Machine in
    let seen = glimpse_value c.args.glimpse in
    let gives_up = λ (why : Fault). GivesUp M g.W.Target seen why c.args.receiver c.args.target.now c.refuse.result c.refuse.new.target in
    let refuses = λ (why : Fault). RefusesSaying M g.W.Target seen why c.args.receiver c.args.target.now c.refuse.result c.refuse.new.target in
    elim c.in-BadLine.is [
      | inl bad ↦ subst gives_up (sym bad.2) (subst refuses bad.2 c.refuse.ensures)
      | inr long ↦ subst gives_up (sym long) (subst refuses long c.refuse.ensures)
    ]
