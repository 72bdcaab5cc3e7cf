-- The judge judges behind the messages so far, so what the inner pairing says of them holds.
use Rattle.std.proofs.Common.{◌∷◌, [], ◌++◌, ◌∙◌, ap}
use Rattle.uds_exchange.specs.Meaning.{meaning}
use Rattle.uds_exchange.proofs.OwnJudges.{judged-after, open-in}
use Rattle.uds_exchange.proofs.Results.{on_err}
use Rattle.uds_exchange.proofs.pairing.Pairing.take.Goals as goal

pub returns-in_err-take-clause-needs : goal.returns-in_err-take-clause-needs
returns-in_err-take-clause-needs c =
    let judged = c.take.result in
    let sent_is = c.take.ensures.sent in
    on_err c.from_residual.result _ (λ M is same.
    let items_are = c.self.view_is ∙ is in
    let waits = open-in M c.self.inside.pairing c.self.inside.judge.open_sid c.self.invariant items_are in
    c.in_err-take.ensures.needs M items_are (judged-after M (c.args.dir, c.args.message.now) judged sent_is (c.take.ensures.step M waits))
    (ap (λ y. meaning (M ++ y ∷ [])) sent_is ∙ same))

pub returns-clause-ok : goal.returns-clause-ok
returns-clause-ok c = λ M is.
    let items_are = c.self.view_is ∙ is in
    let waits = open-in M c.self.inside.pairing c.self.inside.judge.open_sid c.self.invariant items_are in
    c.in_ok-take.ensures.ok M items_are (judged-after M (c.args.dir, c.args.message.now) c.take.result c.take.ensures.sent
    (c.take.ensures.step M waits))
    ∙ ap (λ y. meaning (M ++ y ∷ [])) c.take.ensures.sent
