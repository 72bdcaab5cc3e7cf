-- An exchange that has its answer is kept where it was, and the other items as they were.
use Rattle.std.proofs.Common.{◌∙◌, ◌<◌, ap, Some, arith, length}
use Rattle.std.specs.Prelude.{slice_get, slice_set}
use Rattle.uds_exchange.specs.Meaning.{exchange}
use Rattle.uds_exchange.proofs.KeptItems.{length-items_at, answered-kept, answered-items}
use Rattle.uds_exchange.proofs.meaning.Meaning.answer.Goals as goal

pub invariant_of-self-2 : goal.invariant_of-self-2
invariant_of-self-2 c =
    let items = c.self.inside.items.items in
    let below : c.args.at < length items = omega (arith, c.requires, ap length c.self.view_is, length-items_at c.self.inside.messages items) in
    answered-kept c.self.inside.messages c.append.new.self c.in_ok-answer.ensures.laid.goes_on items c.self.invariant
    c.args.at c.index_mut.result.now below c.index_mut.ensures.value c.answer_with.new.item
    (c.answer_with.ensures.inside c.append.new.self c.in_ok-answer.ensures.laid.holds.inside)

pub returns-clause-ok : goal.returns-clause-ok
returns-clause-ok c = λ request found.
    let items = c.self.inside.items.items in
    let below : c.args.at < length items = omega (arith, c.requires, ap length c.self.view_is, length-items_at c.self.inside.messages items) in
    answered-items c.self.inside.messages c.append.new.self c.in_ok-answer.ensures.laid.goes_on items c.self.invariant
    c.args.at c.index_mut.result.now below c.index_mut.ensures.value c.answer_with.new.item request c.args.answer.now
    c.in_ok-answer.answer c.in_ok-answer.ensures.laid.holds c.answer_with.ensures.answered
    (ap (λ l. slice_get l c.args.at) c.self.view_is ∙ found)
    ∙ ap (λ l. slice_set l c.args.at (exchange request (Some c.args.answer.now))) c.self.view_is
