-- Each link is said behind a comma.
use Rattle.std.proofs.Common.{get_or, refl, sym, subst}
use Rattle.trace_text.proofs.Promises.{one_more_text}
use Rattle.trace_report.specs.Links.{link_behind}
use Rattle.trace_report.proofs.links.LinksBehindPart.say.Goals as goal

pub targets-preserved : goal.targets-preserved
targets-preserved g c =
    let targets = c.args.self.0.now in
    let k = c.targets.target-index in
    subst (λ text. g.S.TextSink.says c.args.out.now text c.say.new.out) (sym (one_more_text link_behind targets k _ (get_or targets k _) c.targets-test.true refl))
    (g.met.S.TextSink.onward _ _ _ _ _ c.targets.invariant c.say.ensures)
