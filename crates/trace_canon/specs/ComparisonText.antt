-- What is written of two logs that are compared: whether they are the same, and where they first differ; and, where
-- that is shown, the items of both there. In words, or as an object of JSON.
use Rattle.std.specs.Prelude.{ℕ, ◌+◌, Bool, true, false, List, [], ◌++◌, codes, Option, Some, None, slice_get, if◌then◌else◌}
use Rattle.std.specs.Fmt.{decimal}
use Rattle.uds_exchange.specs.Meaning.{ItemValue}
use Rattle.uds_rules.specs.Rule.{RuleValue}
use Rattle.trace_text.specs.Json.{Value, Members, nothing, member, object_line, value_text}
use Rattle.trace_text.specs.Json as json
use Rattle.trace_text.specs.ItemLines.{item_object, worded_line}
use Rattle.trace_canon.specs.declared.comparer.Compared.{Compared}
use Rattle.trace_canon.specs.declared.comparer.Comparison.{Comparison}
use Rattle.trace_canon.specs.declared.comparer.Comparison.TheVariants.{Same, Different}
use Rattle.trace_text.specs.declared.comparison_style.ComparisonStyle.{ComparisonStyle}
use Rattle.trace_text.specs.declared.item_style.Numbering.TheVariants.{Shown}
use Rattle.trace_text.specs.declared.notation.Notation.{Notation}
use Rattle.trace_text.specs.declared.notation.Notation.TheVariants.{Text, Json}

-- the line that `list` has for an item of this number, or a line that there is none
abbrev pub shown_line : List RuleValue → ℕ → Option ItemValue → List ℕ
shown_line rules number (Some item) = worded_line rules Shown number item
shown_line rules number None = codes "nothing\n"

-- the object that `list` has for an item of this number, or null
abbrev pub shown_value : List RuleValue → ℕ → Option ItemValue → Value
shown_value rules number (Some item) = json.object (item_object rules Shown number item)
shown_value rules number None = json.null

-- what is shown of an item of this number in a notation, or that there is none
abbrev pub shown_text : List RuleValue → Notation → ℕ → Option ItemValue → List ℕ
shown_text rules Text number item = shown_line rules number item
shown_text rules Json number item = value_text (shown_value rules number item)

-- the lines of the items of both logs in this place, which is counted from 0, and so one less than their number
abbrev pub shown_lines : List RuleValue → ℕ → List ItemValue → List ItemValue → List ℕ
shown_lines rules place left right =
    codes "left: " ++ shown_line rules (place + 1) (slice_get left place)
    ++ codes "right: " ++ shown_line rules (place + 1) (slice_get right place)

-- the items of both logs in this place, as members of an object
abbrev pub shown_members : List RuleValue → ℕ → List ItemValue → List ItemValue → Members
shown_members rules place left right =
    member (codes "left") (shown_value rules (place + 1) (slice_get left place))
    (member (codes "right") (shown_value rules (place + 1) (slice_get right place)) nothing)

-- the answer of a comparison in words, in which items are counted from 1, and the items that are shown
abbrev pub comparison_lines : List RuleValue → Bool → Comparison → List ItemValue → List ItemValue → List ℕ
comparison_lines rules shows Same left right = codes "same\n"
comparison_lines rules shows (Different place) left right =
    codes "different at item " ++ decimal (place + 1) ++ codes "\n" ++ (if shows then shown_lines rules place left right else [])

-- the members of two logs that differ first in this place, and what else is said of them
abbrev pub different_members : ℕ → Members → Members
different_members place later =
    member (codes "same") (json.truth false) (member (codes "item") (json.number (place + 1)) later)

-- the answer of a comparison as members of an object, and the items that are shown
abbrev pub comparison_members : List RuleValue → Bool → Comparison → List ItemValue → List ItemValue → Members
comparison_members rules shows Same left right = member (codes "same") (json.truth true) nothing
comparison_members rules shows (Different place) left right =
    different_members place (if shows then shown_members rules place left right else nothing)

-- the answer of a comparison as it is written in a notation
abbrev pub written_comparison : List RuleValue → Notation → Bool → Comparison → List ItemValue → List ItemValue → List ℕ
written_comparison rules Text shows comparison left right = comparison_lines rules shows comparison left right
written_comparison rules Json shows comparison left right = object_line (comparison_members rules shows comparison left right)

-- the text of a comparison in a style
abbrev pub comparison_text : List RuleValue → ComparisonStyle → Compared → List ℕ
comparison_text rules style compared =
    written_comparison rules style.notation style.shows_items compared.comparison compared.left.meaning compared.right.meaning
