-- The parts that are said are the object of the definition.
use Rattle.std.proofs.Common.{◌+◌, subst}
use Rattle.std.specs.Prelude.{slice_get}
use Rattle.trace_canon.specs.ComparisonText.{shown_value}
use Rattle.trace_canon.proofs.ComparisonTexts.{shown_object_is}
use Rattle.trace_canon.proofs.comparison_objects.say_shown_object.Goals as goal

pub returns : goal.returns
returns g c =
    let onward = g.met.S.TextSink.onward in
    let place = c.args.place in
    let left = shown_value c.args.rules.now (place + 1) (slice_get c.args.compared.now.left.meaning place) in
    let right = shown_value c.args.rules.now (place + 1) (slice_get c.args.compared.now.right.meaning place) in
    subst (λ text. g.S.TextSink.says c.args.out.now text c.say-3.new.out) (shown_object_is place left right)
    (onward _ _ _ _ _ (onward _ _ _ _ _ (onward _ _ _ _ _ (onward _ _ _ _ _ c.say.ensures c.say_item_at.ensures)
    c.say-2.ensures) c.say_item_at-2.ensures) c.say-3.ensures)
