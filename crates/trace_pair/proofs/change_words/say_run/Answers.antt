-- Several items are told by the first one and the last one.
use Rattle.std.proofs.Common.{◌≡◌, ◌+◌, ◌-◌, ◌++◌, Bool, codes, false, subst, sym}
use Rattle.std.specs.Fmt.{decimal}
use Rattle.std.specs.Prelude.{◌==◌, slice_get, if◌then◌else◌}
use Rattle.std.proofs.lemmas.Bool.{ne_eqb}
use Rattle.text_parts.specs.Parts.{text_if_some}
use Rattle.trace_pair.specs.ItemWords.{item_title, outcome_note}
use Rattle.trace_pair.specs.Sessions.{values_in}
use Rattle.trace_pair.proofs.change_words.say_run.Goals as goal

pub returns-else-count-eq1 : goal.returns-else-count-eq1
returns-else-count-eq1 g c =
    let items = values_in c.args.session.now in
    let first = c.args.first in
    let count = c.args.count in
    let several : (c.args.count == 1) ≡ false = ne_eqb c.args.count 1 c.if-count-eq1.false in
    subst (λ (one : Bool). g.S.TextSink.says c.args.out.now
    (if one then text_if_some (item_title c.args.rules.now) (slice_get items first) ++ text_if_some outcome_note (slice_get items first)
    else decimal count ++ codes " items, from " ++ text_if_some (item_title c.args.rules.now) (slice_get items first) ++ codes " to " ++ text_if_some (item_title c.args.rules.now) (slice_get items (first + count - 1)))
    c.say-else-count-eq1.new.out)
    (sym several) (rw (c.item_at-item.ensures, c.item_at-last.ensures, c.saturating_sub.ensures) at c.say-else-count-eq1.ensures)
