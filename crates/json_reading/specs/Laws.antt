-- What is told as JSON is read as it is meant.
use Rattle.std.specs.Prelude.{ℕ, Bool, List, Option}
use Rattle.can_log.specs.Frame.{FrameValue}
use Rattle.json_reading.specs.ReadBack.{IsReadAsMeant}
use Rattle.trace_canon.specs.declared.comparer.Comparison.{Comparison}
use Rattle.trace_text.specs.declared.item_style.Numbering.{Numbering}
use Rattle.trace_text.specs.declared.remark.Remark.{Remark}
use Rattle.trace_canon.specs.ComparisonText.{comparison_members}
use Rattle.trace_text.specs.RemarkLines.{remark_members}
use Rattle.trace_canon.specs.CreditLines.{credit_object}
use Rattle.trace_text.specs.ItemLines.{item_object}
use Rattle.trace_canon.specs.MessagesScript.{PlacedMessage, placed_members}
use Rattle.trace_canon.specs.OpenRequests.{ReplyValue}
use Rattle.uds_exchange.specs.Meaning.{ItemValue}
use Rattle.uds_rules.specs.Rule.{RuleValue}
use Rattle.uds_find.specs.Finding.{FoundUnit, credit_line}

-- an item of a list, with its number or without, whatever the rules
abbrev pub ItemsAreReadAsMeant : Type 0
ItemsAreReadAsMeant = (rules : List RuleValue) (numbering : Numbering) (n : ℕ) (item : ItemValue) → IsReadAsMeant (item_object rules numbering n item)

-- a message with its place, and with what is told of it as a reply
abbrev pub MessagesAreReadAsMeant : Type 0
MessagesAreReadAsMeant =
    (rules : List RuleValue) (placed : PlacedMessage) (reply : Option ReplyValue) → IsReadAsMeant (placed_members rules placed reply)

-- a remark that explains a log
abbrev pub RemarksAreReadAsMeant : Type 0
RemarksAreReadAsMeant = (told : Remark) → IsReadAsMeant (remark_members told)

-- a comparison, with the items that differ or without
abbrev pub ComparisonsAreReadAsMeant : Type 0
ComparisonsAreReadAsMeant =
    (rules : List RuleValue) (shows : Bool) (comparison : Comparison) (left right : List ItemValue)
    → IsReadAsMeant (comparison_members rules shows comparison left right)

-- a unit with its tester, the number of its credits and of its tester's requests, and its functional identifier
abbrev pub PairsAreReadAsMeant : Type 0
PairsAreReadAsMeant = (frames : List FrameValue) (found : FoundUnit) → IsReadAsMeant (credit_object (credit_line frames found))
