-- Two items that changed are told by what differs.
use Rattle.std.proofs.Common.{ℕ, List, option_map, subst, sym}
use Rattle.trace_report.specs.Items.{item_of}
use Rattle.trace_pair.specs.ItemRows.{change_words}
use Rattle.trace_pair.proofs.change_top.ChangeTitlePart.say.Goals as goal

pub returns-in-Some-Some : goal.returns-in-Some-Some
returns-in-Some-Some g c =
    let one = sym c.in-Some-Some.is-0 in
    let other = sym c.in-Some-Some.is-1 in
    subst (λ (text : List ℕ). g.S.TextSink.says c.args.out.now text c.say.new.out)
    (λ i. change_words c.args.self.rules.now c.args.self.kind c.args.self.count (option_map item_of (one i)) (option_map item_of (other i)))
    (rw (c.item_of.ensures, c.item_of-in-Some-Some.ensures) at c.say.ensures)
