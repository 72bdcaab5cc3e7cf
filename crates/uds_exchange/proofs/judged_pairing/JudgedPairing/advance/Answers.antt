-- The place of the open exchange goes on with each step; an answer changes the exchange there.
use Rattle.std.proofs.Common.{sym, ◌∙◌, ap, subst, Some, None, List}
use Rattle.uds_exchange.specs.Meaning.{ItemValue}
use Rattle.uds_exchange.specs.Judging.{sent}
use Rattle.uds_exchange.specs.proving.OpenExchange.{open_exchange_in}
use Rattle.uds_exchange.specs.declared.step.Step.{Step}
use Rattle.uds_exchange.specs.declared.step.Step.TheVariants as step
use Rattle.uds_exchange.specs.proving.Pairing.{IsOpenPlace, items_after_step}
use Rattle.uds_exchange.proofs.PairingSteps.{kept-request, kept-stray, kept-answer, waits, waits-below, waits-exchange, answered, changes-answer}
use Rattle.uds_exchange.proofs.Results.{on_err}
use Rattle.uds_exchange.proofs.judged_pairing.JudgedPairing.advance.Goals as goal

pub answer-requires : goal.answer-requires
answer-requires c = waits-below c.self.inside.meaning c.in-Some.place (c.self.invariant ∙ c.in-Some.is)

pub invariant_of-self-in-Request : goal.invariant_of-self-in-Request
invariant_of-self-in-Request c =
    let its = c.self.inside.meaning in
    let place = c.len-place.result in
    subst (λ (l : List ItemValue). IsOpenPlace l (Some place)) (sym c.in_ok-push_request-in-Request.ensures.ok)
    (kept-request its c.args.message.bytes.now place c.len-place.ensures.value)

pub invariant_of-self-in-Some : goal.invariant_of-self-in-Some
invariant_of-self-in-Some c =
    let its = c.self.inside.meaning in
    let place = c.in-Some.place in
    let kept = c.self.invariant ∙ c.in-Some.is in
    subst (λ (l : List ItemValue). IsOpenPlace l None) (sym (c.in_ok-answer-in-Answer.ensures.ok (waits its place kept).0.1
    (waits-exchange its place kept))) (kept-answer its place kept c.args.message.bytes.now)

pub invariant_of-self-in-Hold : goal.invariant_of-self-in-Hold
invariant_of-self-in-Hold c =
    let its = c.self.inside.meaning in
    subst (λ (l : List ItemValue). IsOpenPlace l c.self.inside.open_place) (sym c.in_ok-push_stray-in-Hold.ensures.ok)
    (kept-stray its c.self.inside.open_place (sent c.args.message) c.self.invariant)

pub returns-in_ok-answer-in-Answer-clause-ok : goal.returns-in_ok-answer-in-Answer-clause-ok
returns-in_ok-answer-in-Answer-clause-ok c =
    let its = c.self.inside.meaning in
    let place = c.in-Some.place in
    let kept = c.self.invariant ∙ c.in-Some.is in
    let x = sent c.args.message in
    c.in_ok-answer-in-Answer.ensures.ok (waits its place kept).0.1 (waits-exchange its place kept) ∙ answered its place kept x
    ∙ ap (λ (l : List ItemValue). items_after_step step.Answer (open_exchange_in l) l x) c.self.view_is
    ∙ ap (λ (s : Step). items_after_step s (open_exchange_in c.args.self.now) c.args.self.now x) (sym c.in-Answer.is)

pub returns-in_err-answer-in-Answer-clause-needs : goal.returns-in_err-answer-in-Answer-clause-needs
returns-in_err-answer-in-Answer-clause-needs c =
    let its = c.self.inside.meaning in
    let kept = c.self.invariant ∙ c.in-Some.is in
    let x = sent c.args.message in
    on_err c.from_residual-in_err-answer-in-Answer.result _
    (λ same. changes-answer its c.in-Some.place kept x
    (ap (λ (l : List ItemValue). items_after_step step.Answer (open_exchange_in l) l x) c.self.view_is
    ∙ ap (λ (s : Step). items_after_step s (open_exchange_in c.args.self.now) c.args.self.now x) (sym c.in-Answer.is) ∙ same ∙ sym c.self.view_is))
