-- The place stands in the link.
use Rattle.std.proofs.Common.{Bool, subst, sym}
use Rattle.trace_pair.specs.ChangeWords.{where_link, where_text}
use Rattle.trace_pair.proofs.change_words.say_where.Goals as goal

pub returns-then-linked : goal.returns-then-linked
returns-then-linked g c =
    let onward = g.met.S.TextSink.onward in
    let here = c.args.change in
    let place = where_text here.kind here.left here.right here.count in
    subst (λ (linked : Bool). g.S.TextSink.says c.args.out.now (where_link linked c.args.number place) c.say-then-linked.new.out) (sym c.if-linked.true)
    (onward _ _ _ _ _ (onward _ _ _ _ _ c.say.ensures c.say_place.ensures) c.say-then-linked.ensures)
