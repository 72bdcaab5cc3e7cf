-- What a step does is what the messages say, where the message was judged behind them.
use Rattle.std.proofs.Common.{sym, ◌∙◌}
use Rattle.uds_exchange.specs.Judging.{sent}
use Rattle.uds_exchange.proofs.PairingSteps.{items-found}
use Rattle.std.proofs.lemmas.Result.{on_ok_weaker, on_err_weaker}
use Rattle.uds_exchange.proofs.judged_pairing.JudgedPairing.take.Goals as goal

pub returns-clause-ok : goal.returns-clause-ok
returns-clause-ok c =
    on_ok_weaker c.advance.result (λ h M is judged. h ∙ items-found M (sent c.args.message) c.args.message.step c.args.self.now is judged)
    c.advance.ensures.ok

pub returns-clause-needs : goal.returns-clause-needs
returns-clause-needs c =
    on_err_weaker c.advance.result (λ h M is judged same. h (items-found M (sent c.args.message) c.args.message.step c.args.self.now is judged
    ∙ same ∙ sym is)) c.advance.ensures.needs
