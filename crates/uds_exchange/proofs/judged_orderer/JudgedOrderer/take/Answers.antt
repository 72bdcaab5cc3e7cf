-- What a step does is what the messages say, where the message was judged behind them.
use Rattle.std.proofs.Common.{◌∙◌}
use Rattle.uds_exchange.specs.Judging.{sent}
use Rattle.uds_exchange.specs.proving.Ordering.{due_for}
use Rattle.std.proofs.lemmas.Result.{on_ok_weaker}
use Rattle.uds_exchange.proofs.Results.{if_err_along}
use Rattle.uds_exchange.proofs.OrdererSteps.{ordered-next, puts-due, stops-due}
use Rattle.uds_exchange.proofs.HeldOfMore.{held-with}
use Rattle.uds_exchange.proofs.judged_orderer.JudgedOrderer.take.Goals as goal

pub returns-clause-stands : goal.returns-clause-stands
returns-clause-stands g c =
    on_ok_weaker c.advance.result (λ h M is judged. h.1 ∙ ordered-next M (sent c.args.message) c.args.message.step c.args.self.now is judged)
    c.advance.ensures.ok

pub returns-clause-puts : goal.returns-clause-puts
returns-clause-puts g c =
    on_ok_weaker c.advance.result (λ h M is judged.
    puts-due g.S.MessageSink.after_ok g.S.MessageSink.after_err M (sent c.args.message) c.args.message.step c.args.self.now _ _ is judged h.2)
    c.advance.ensures.ok

pub returns-clause-needs : goal.returns-clause-needs
returns-clause-needs g c = λ refused M is judged.
    held-with M (sent c.args.message) c.args.message.step judged (rw refused at c.advance.ensures.err).3

pub returns-clause-stops : goal.returns-clause-stops
returns-clause-stops g c =
    if_err_along c.advance.result _ _ (λ e h M is judged.
    stops-due g.S.MessageSink.after_ok g.S.MessageSink.after_err M
    (sent c.args.message) c.args.message.step c.args.self.now c.advance.new.self _ _ e is judged h) c.advance.ensures.err

pub returns-clause-front : goal.returns-clause-front
returns-clause-front g c = λ why is. (due_for c.args.message.step c.args.self.now.holds (sent c.args.message), (rw is at c.advance.ensures.err).2)
