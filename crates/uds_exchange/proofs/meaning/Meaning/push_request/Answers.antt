-- One more exchange is kept behind the items before.
use Rattle.std.proofs.Common.{◌∙◌, ◌++◌, ◌∷◌, [], ap, None}
use Rattle.uds_exchange.specs.declared.meaning.KeptItem.TheVariants as kept
use Rattle.uds_exchange.specs.Meaning.{exchange}
use Rattle.uds_exchange.proofs.KeptItems.{pushed-kept, pushed-items}
use Rattle.uds_exchange.proofs.meaning.Meaning.push_request.Goals as goal

pub invariant_of-self-2 : goal.invariant_of-self-2
invariant_of-self-2 c =
    let all = c.push_reserved.ensures.items ∙ ap (λ l. l ++ kept.Exchange c.in_ok-request.request None ∷ []) c.reserve.ensures.items in
    pushed-kept c.self.inside.messages c.append.new.self c.in_ok-request.ensures.laid.goes_on c.self.inside.items.items c.self.invariant
    (kept.Exchange c.in_ok-request.request None) c.push_reserved.new.self.items all (c.in_ok-request.ensures.laid.holds.inside, tt)

pub returns-clause-ok : goal.returns-clause-ok
returns-clause-ok c =
    let more = c.args.request.now in
    let all = c.push_reserved.ensures.items ∙ ap (λ l. l ++ kept.Exchange c.in_ok-request.request None ∷ []) c.reserve.ensures.items in
    pushed-items c.self.inside.messages c.append.new.self c.in_ok-request.ensures.laid.goes_on c.self.inside.items.items c.self.invariant
    (kept.Exchange c.in_ok-request.request None) c.push_reserved.new.self.items (exchange more None) all
    (ap (λ r. exchange r None) c.in_ok-request.ensures.laid.holds.bytes)
    ∙ ap (λ l. l ++ exchange more None ∷ []) c.self.view_is
