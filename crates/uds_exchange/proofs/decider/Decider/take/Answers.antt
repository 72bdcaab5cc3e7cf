-- What a step does is what the messages say, where the message was judged behind them.
use Rattle.std.proofs.Common.{◌∙◌}
use Rattle.uds_exchange.specs.Judging.{sent}
use Rattle.uds_exchange.specs.proving.Deciding.{decided_for}
use Rattle.uds_exchange.proofs.DeciderSteps.{decided-found, keeps-found, kept-with}
use Rattle.std.proofs.lemmas.Result.{on_ok_weaker, on_err_weaker}
use Rattle.uds_exchange.proofs.decider.Decider.take.Goals as goal

pub returns-clause-stands : goal.returns-clause-stands
returns-clause-stands g c =
    on_ok_weaker c.advance.result (λ h M is judged. h ∙ keeps-found M (sent c.args.message) c.args.message.step c.args.self.now is judged)
    c.advance.ensures.now

pub returns-clause-puts : goal.returns-clause-puts
returns-clause-puts g c =
    let x = sent c.args.message in
    let by = c.args.message.step in
    on_ok_weaker c.advance.result (λ h M is judged. (decided_for by c.args.self.now x, decided-found M x by c.args.self.now is judged, h))
    c.advance.ensures.puts

pub returns-clause-needs : goal.returns-clause-needs
returns-clause-needs g c =
    on_err_weaker c.advance.result (λ h M is judged. kept-with M (sent c.args.message) c.args.message.step judged h) c.advance.ensures.needs
