-- What is missing of an item is what its rows tell.
use Rattle.std.proofs.Common.{◌≡◌, ℕ, ◌+◌, List, ap, subst, sym, ◌∙◌}
use Rattle.trace_report.specs.Rows.{RowValue}
use Rattle.trace_pair.specs.Losses.{first_row, losses_of, losses_text, more_losses}
use Rattle.trace_pair.specs.proving.Losing.{lost}
use Rattle.trace_pair.proofs.LossPlaces.{losses-are-lost, piece}
use Rattle.trace_pair.proofs.loss_words.say_losses.Goals as goal

pub returns : goal.returns
returns g c =
    let says = g.S.TextSink.says in
    let rows = c.args.session.now.rows in
    let item = c.args.item in
    let told = lost (piece c.stretch-from.result.0 c.stretch-from.result.1 c.rows-rows.result.now) in
    let own : told ≡ losses_of rows item =
    (λ i. lost (piece (c.stretch-from.ensures.from i) (c.stretch-from.ensures.to i) c.rows-rows.result.now))
    ∙ ap (λ (l : List RowValue). lost (piece (first_row item l) (first_row (item + 1) l) l)) c.rows-rows.ensures
    ∙ sym (losses-are-lost rows item) in
    subst (λ (losses : List RowValue). says c.args.out.now (losses_text c.args.log losses) c.say.new.out) own
    (g.met.S.TextSink.onward _ _ _ _ _ c.say_lost-told.ensures.text
    (subst (λ (count : ℕ). says c.say_lost-told.new.out (more_losses c.args.log count) c.say.new.out) c.say_lost-told.ensures.count c.say.ensures))
