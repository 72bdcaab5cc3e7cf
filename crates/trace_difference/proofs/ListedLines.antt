-- What the lines of a list are.
use Rattle.std.proofs.Common.{◌≡◌, ℕ, ◌+◌, List, [], ◌∷◌, ◌++◌, ap, refl}
use Rattle.std.specs.List.{flat_map}
use Rattle.uds_exchange.specs.Meaning.{ItemValue}
use Rattle.trace_text.specs.ItemLines.{list_text_from}
use Rattle.trace_text.specs.declared.item_style.ItemStyle.{ItemStyle}
use Rattle.trace_text.specs.declared.item_style.Numbering.TheVariants.{Hidden}
use Rattle.trace_text.specs.declared.notation.Notation.TheVariants.{Text}
use Rattle.uds_rules.specs.Rule.{RuleValue}
use Rattle.trace_difference.specs.Laws.{ListedLinesAreTheList}
use Rattle.trace_difference.specs.Lines.{listed}

-- the lines of items, whatever number comes first
lines : (rules : List RuleValue) (number : ℕ) (items : List ItemValue) → let style : ItemStyle = record { numbering = Hidden; notation = Text } in
    flat_map (listed rules) items ≡ list_text_from rules style number items
lines rules number [] = refl
lines rules number (item ∷ items) = ap (λ (l : List ℕ). listed rules item ++ l) (lines rules (number + 1) items)

pub listed_lines_are_the_list : ListedLinesAreTheList
listed_lines_are_the_list rules items = lines rules 1 items
