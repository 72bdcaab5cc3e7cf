-- A change is said as its kind.
use Rattle.std.proofs.Common.{arith, subst, sym}
use Rattle.uds_difference.specs.declared.row.Row.{Row}
use Rattle.trace_pair.specs.ChangeWords.{where_text}
use Rattle.trace_pair.proofs.change_words.say_place.Goals as goal

pub say_items_range-requires : goal.say_items_range-requires
say_items_range-requires g c = omega (arith, c.requires.left)

pub say_items_range-requires-in-Changed : goal.say_items_range-requires-in-Changed
say_items_range-requires-in-Changed g c = omega (arith, c.requires.right)

pub returns-in-Changed : goal.returns-in-Changed
returns-in-Changed g c =
    let onward = g.met.S.TextSink.onward in
    let here = c.args.change in
    subst (λ (kind : Row). g.S.TextSink.says c.args.out.now (where_text kind here.left here.right here.count) c.say_items_range-in-Changed.new.out) (sym c.in-Changed.is)
    (onward _ _ _ _ _ (onward _ _ _ _ _ c.say_items_range.ensures c.say.ensures) c.say_items_range-in-Changed.ensures)
