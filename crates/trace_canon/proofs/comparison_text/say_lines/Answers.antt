-- The line of a difference, and the items where they are shown, are the text of the definition.
use Rattle.std.proofs.Common.{subst}
use Rattle.trace_canon.proofs.ComparisonTexts.{different_is, shown_is}
use Rattle.trace_canon.proofs.comparison_text.say_lines.Goals as goal

pub returns-then-shows_items : goal.returns-then-shows_items
returns-then-shows_items g c =
    subst (λ text. g.S.TextSink.says c.args.out.now text c.say_items_at.new.out)
    (shown_is c.args.rules.now c.args.shows_items c.args.compared.now.comparison c.in-Different.place c.args.compared.now.left.meaning
    c.args.compared.now.right.meaning c.in-Different.is c.if-shows_items.true)
    (g.met.S.TextSink.onward _ _ _ _ _ c.say-in-Different.ensures c.say_items_at.ensures)

pub returns-else-shows_items : goal.returns-else-shows_items
returns-else-shows_items g c =
    subst (λ text. g.S.TextSink.says c.args.out.now text c.say-in-Different.new.out)
    (different_is c.args.rules.now c.args.shows_items c.args.compared.now.comparison c.in-Different.place c.args.compared.now.left.meaning
    c.args.compared.now.right.meaning c.in-Different.is c.if-shows_items.false)
    c.say-in-Different.ensures
