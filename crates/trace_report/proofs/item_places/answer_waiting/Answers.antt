-- The request that waits gets the place of its answer.
use Rattle.std.proofs.Common.{◌<◌, IfSome, length, ap, sym, subst, ◌∙◌}
use Rattle.trace_report.specs.proving.Keeping.{places_answered}
use Rattle.trace_report.proofs.Placing.{set-answered}
use Rattle.trace_report.proofs.item_places.answer_waiting.Goals as goal

pub returns-in-Some : goal.returns-in-Some
returns-in-Some c =
    let places = c.args.items.now.items in
    let below = subst (λ w. IfSome w (λ number. number < length places)) c.in-Some.is c.requires in
    set-answered places c.in-Some.number c.index_mut.result.now c.answer_with.new.item c.args.at c.index_mut.ensures.value below c.answer_with.ensures
    ∙ ap (λ w. places_answered places w c.args.at) (sym c.in-Some.is)
