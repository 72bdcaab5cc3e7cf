-- What the machine said to the sink at the end was said to the sheet: as in `tell`, what was borrowed came back.
use Rattle.std.proofs.Common.{sym, subst}
use Rattle.trace_run.specs.proving.Carrying.{Says}
use Rattle.trace_run.proofs.telling.tell_end.Goals as goal

pub returns-clause-says : goal.returns-clause-says
returns-clause-says g c = λ rules start T stands pair.
    let W = g.W.Target in
    let sheet = c.args.sheet.now in
    let said = c.end.ensures.says rules start T stands pair in
    let text = ((g.M.Machine.script rules start).at_the_end T c.args.summary.now) in
    let target_is = c.target-1.given.1 (sym said.0) in
    let sheet_is = c.sheet-1.given.1 (sym said.1) in
    subst (λ w. Says W sheet c.args.target.now text c.sheet-1.given.0 w) (sym target_is)
    (subst (λ p. Says W sheet c.args.target.now text p c.end.new.out.target.now) (sym sheet_is) said.2)
