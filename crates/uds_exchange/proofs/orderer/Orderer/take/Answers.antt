-- The judge judges behind the messages so far, so what the inner orderer says of them holds.
use Rattle.std.proofs.Common.{Err, ap, subst, ◌∙◌}
use Rattle.direction.specs.Dir.{Message}
use Rattle.uds_exchange.specs.Judging.{IsOpenSid}
use Rattle.uds_exchange.specs.Orderer.{IsHeld, OrdererValue}
use Rattle.uds_exchange.specs.declared.order_fault.OrderFault.TheVariants.{Memory}
use Rattle.uds_exchange.proofs.OwnJudges.{judged-after, stands-with, stands-without}
use Rattle.uds_exchange.proofs.Results.{handed_fault}
use Rattle.uds_exchange.proofs.orderer.Orderer.take.Goals as goal

pub returns-clause-stands : goal.returns-clause-stands
returns-clause-stands g c = λ M is.
    let x : Message = (c.args.dir, c.args.message.now) in
    let stood = c.self.view_is ∙ is in
    let waits : IsOpenSid M c.self.inside.judge.open_sid = ap (λ (o : OrdererValue). o.open_sid) stood in
    let judged = judged-after M x c.take.result c.take.ensures.sent (c.take.ensures.step M waits) in
    stands-with M x c.take.result c.take-2.new.self c.take.new.self.open_sid c.take.ensures.sent
    (c.in_ok-take.ensures.stands M (stands-without M _ stood) judged) (c.take.ensures.is_open M waits)

pub returns-in_err-take-clause-needs : goal.returns-in_err-take-clause-needs
returns-in_err-take-clause-needs g c = λ refused M is.
    let x : Message = (c.args.dir, c.args.message.now) in
    let stood = c.self.view_is ∙ is in
    let waits : IsOpenSid M c.self.inside.judge.open_sid = ap (λ (o : OrdererValue). o.open_sid) stood in
    let judged = judged-after M x c.take.result c.take.ensures.sent (c.take.ensures.step M waits) in
    subst (IsHeld M) c.take.ensures.sent
    (c.in_err-take.ensures.needs (ap Err (handed_fault c.from_residual.result _ Memory c.from_residual.ensures.1 refused)) M
    (stands-without M _ stood) judged)
