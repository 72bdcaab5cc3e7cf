-- The numbers of items: what a row of a page, or a line of `messages`, tells of the item of a number is so of the item
-- that stands in this place of the meaning, counted from 1, as in the lists of `list` and `compare`.
use Rattle.std.specs.Prelude.{◌≡◌, ℕ, ⊤, Bool, List, ◌∷◌, ◌++◌, None}
use Rattle.std.specs.List.{AllByRecursion}
use Rattle.direction.specs.Dir.{Message}
use Rattle.isotp_receive.specs.declared.TheConstants.{MESSAGE_LIMIT}
use Rattle.isotp_receive.specs.Trace.{Entry}
use Rattle.uds_exchange.specs.Meaning.{ItemValue, exchange, stray_of, meaning}
use Rattle.uds_exchange.specs.Numbers.{HasItem, HasRoleInItem, IsAnsweredBy, IsBegunBy, IsPendingBy}
use Rattle.uds_message.specs.Message.{is_suppressing}
use Rattle.uds_rules.specs.Rule.{RuleValue}
use Rattle.trace_log.specs.Messages.{messages_under}
use Rattle.trace_canon.specs.MessagesScript.{placed_behind}
use Rattle.trace_report.specs.Page.{all_rows}
use Rattle.trace_report.specs.Silences.{is_suppressed}
use Rattle.trace_report.specs.Rows.{RowValue, message, no_answer, dropped, ended, unfinished}
use Rattle.trace_report.specs.declared.roles.MessageRole.{MessageRole}
use Rattle.trace_report.specs.declared.row.Silence.{Silence}
use Rattle.trace_report.specs.declared.roles.MessageRole.TheVariants as message_role

-- the item is an exchange without an answer, whose request asked for no positive one where this is why, and else did
-- not
abbrev pub IsUnanswered : Silence → ItemValue → Type 0
IsUnanswered silence item = (request : List ℕ) × (item ≡ exchange request None) × (is_suppressed silence ≡ is_suppressing request)

-- a message of this role has this part in the item
abbrev pub HasPart : MessageRole → Message → ItemValue → Type 0
HasPart message_role.Request sent item = IsBegunBy sent.1 item
HasPart (message_role.Positive asked) sent item = IsAnsweredBy sent.1 item
HasPart (message_role.Negative asked) sent item = IsAnsweredBy sent.1 item
HasPart (message_role.Pending asked) sent item = IsPendingBy sent item
HasPart message_role.KeepAlive sent item = item ≡ stray_of sent
HasPart message_role.Stray sent item = item ≡ stray_of sent

-- what a row tells of the item of its number is so among these items; one of a lost frame or message tells of none
abbrev pub TellsItsItem : List ItemValue → RowValue → Type 0
TellsItsItem items (message is d place bytes) = HasItem items place.item (HasPart is (d, bytes))
TellsItsItem items (no_answer number silence) = HasItem items number (IsUnanswered silence)
TellsItsItem items (dropped place d linked why) = ⊤
TellsItsItem items (ended place end) = ⊤
TellsItsItem items (unfinished d line len) = ⊤

-- The number that a row gives an item is the place of that item in the meaning.
abbrev pub RowNumbersArePlaces : Type 0
RowNumbersArePlaces = (rules : List RuleValue) (T : List Entry)
    → AllByRecursion (TellsItsItem (meaning (messages_under rules MESSAGE_LIMIT T))) (all_rows MESSAGE_LIMIT rules T)

-- And so is the number that `messages` gives it, in the line of a message behind the messages M: whatever follows.
abbrev pub LineNumbersArePlaces : Type 0
LineNumbersArePlaces = (M more : List Message) (sent : Message) (start end : Entry)
    → let placed = placed_behind M sent start end in
    HasItem (meaning (M ++ sent ∷ more)) placed.number (HasRoleInItem placed.step placed.sent)
