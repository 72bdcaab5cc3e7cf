-- What the machine said to the sink of a frame was said to the sheet: the borrowed sheet and target are those that came
-- back.
use Rattle.std.proofs.Common.{[], sym, subst}
use Rattle.std.proofs.lemmas.Result.{on_ok_weaker, on_err_weaker}
use Rattle.trace_run.specs.proving.Carrying.{Says}
use Rattle.trace_run.proofs.telling.tell.Goals as goal

pub returns-clause-ok : goal.returns-clause-ok
returns-clause-ok g c = on_ok_weaker c.event.result (λ says rules start T e seen stands.
    let W = g.W.Target in
    let sheet = c.args.sheet.now in
    let said = says rules start T e seen stands in
    let text = ((g.M.Machine.script rules start).of_frame T e) in
    let target_is = c.target-1.given.1 (sym said.1.0) in
    let sheet_is = c.sheet-1.given.1 (sym said.1.1) in (
      said.0,
      subst (λ w. Says W sheet c.args.target.now text c.sheet-1.given.0 w) (sym target_is)
          (subst (λ p. Says W sheet c.args.target.now text p c.event.new.out.target.now) (sym sheet_is) said.1.2),
    )) c.event.ensures.ok

pub returns-clause-err : goal.returns-clause-err
returns-clause-err g c = on_err_weaker c.event.result (λ says rules start T stands.
    let W = g.W.Target in
    let sheet = c.args.sheet.now in
    let said = says rules start T stands in
    let target_is = c.target-1.given.1 (sym said.0) in
    let sheet_is = c.sheet-1.given.1 (sym said.1) in
    subst (λ w. Says W sheet c.args.target.now [] c.sheet-1.given.0 w) (sym target_is)
    (subst (λ p. Says W sheet c.args.target.now [] p c.event.new.out.target.now) (sym sheet_is) said.2)) c.event.ensures.err
