-- The rows of the table of items: an item that is the same in both logs, one that only one log has, or two that
-- changed.
use Rattle.std.specs.Prelude.{ℕ, ◌+◌, ◌==◌, Bool, true, false, ◌||◌, List, [], ◌++◌, codes, nat_lt}
use Rattle.std.specs.Prelude.{Option, Some, None, is_some, option_map, slice_get, if◌then◌else◌}
use Rattle.std.specs.Fmt.{decimal}
use Rattle.uds_difference.specs.Likeness.{same_bytes}
use Rattle.uds_difference.specs.declared.row.Row.{Row}
use Rattle.uds_difference.specs.declared.row.Row.TheVariants.{Same, Changed, OnlyLeft, OnlyRight}
use Rattle.byte_columns.specs.Columns.{beside}
use Rattle.trace_report.specs.Roles.{is_request_role}
use Rattle.trace_report.specs.Items.{PlacedItemValue, RowMessageValue, item_value, items_in}
use Rattle.trace_report.specs.Session.{SessionValue}
use Rattle.shown_bytes.specs.Data.{data_text}
use Rattle.shown_bytes.specs.Letters.{has_word}
use Rattle.uds_rules.specs.Rule.{RuleValue, mask_of}
use Rattle.trace_pair.specs.declared.item_row.Begun.{Begun}
use Rattle.trace_pair.specs.declared.item_row.RowPlace.{RowPlace}
use Rattle.pair_words.specs.declared.column_lines.ShownLogs.TheVariants.{Both}
use Rattle.pair_words.specs.declared.log.PairLog.{PairLog}
use Rattle.pair_words.specs.declared.log.PairLog.TheVariants.{A, B}
use Rattle.trace_pair.specs.declared.outcome.Outcome.{Outcome}
use Rattle.pair_words.specs.DifferenceNames.{difference_name}
use Rattle.trace_pair.specs.ChangeWords.{tag}
use Rattle.pair_words.specs.ColumnLines.{lines_text}
use Rattle.trace_pair.specs.ItemWords.{came_of, differ, outcome_mark, same_outcome}
use Rattle.pair_words.specs.Logs.{has_item, letter_mark}
use Rattle.trace_pair.specs.PartedRoles.{parted_role_words}
use Rattle.trace_pair.specs.Losses.{losses_of, losses_text}
use Rattle.trace_pair.specs.RowTimes.{longer_mark, row_times}
use Rattle.trace_pair.specs.ToldItems.{note_of, told_answer, told_item}

-- rules mask one of two messages that they have left
abbrev pub are_masked : List RuleValue → List ℕ → List ℕ → Bool
are_masked rules xs ys = is_some (mask_of rules xs) || is_some (mask_of rules ys)

-- the message of a log in a line of its own
abbrev pub message_line : List RuleValue → PairLog → List ℕ → List ℕ
message_line rules log bytes = codes "<div>" ++ letter_mark log ++ data_text rules bytes ++ codes "</div>"

-- Two messages that differ: byte under byte, and as text, too, where one of them may be text; but where rules mask one
-- of them, each in a line of its own.
abbrev pub both_bytes : List RuleValue → List ℕ → List ℕ → List ℕ
both_bytes rules xs ys =
    if are_masked rules xs ys
    then codes "<div class=\"hx out\">" ++ message_line rules A xs ++ message_line rules B ys ++ codes "</div>"
    else lines_text Both (has_word xs || has_word ys) (beside xs ys)

-- a message of two items, once where it is the same in both
abbrev pub message_of_both : List RuleValue → RowMessageValue → RowMessageValue → List ℕ
message_of_both rules one other =
    parted_role_words one.role one.dir one.bytes
    ++ (if same_bytes one.bytes other.bytes then data_text rules one.bytes else both_bytes rules one.bytes other.bytes)

-- the answers of two exchanges with the same outcome: byte under byte
abbrev pub same_outcomes : List RuleValue → List ℕ → Option RowMessageValue → Option RowMessageValue → List ℕ
same_outcomes rules request (Some one) (Some other) = message_of_both rules one other
same_outcomes rules request answer reply = told_answer rules request answer

-- what came of a request, by its answer
abbrev pub outcome_by : List ℕ → Option RowMessageValue → Outcome
outcome_by request None = came_of request None
outcome_by request (Some reply) = came_of request (Some reply.bytes)

-- the bytes of an answer, behind what it is; those of answers with other outcomes are not compared, and have no mark
abbrev pub answer_data : List RuleValue → Option RowMessageValue → List ℕ
answer_data rules None = []
answer_data rules (Some reply) = codes " " ++ data_text rules reply.bytes

-- the outcome of an exchange in one log, with a mark, and the bytes of its answer
abbrev pub outcome_line : List RuleValue → PairLog → List ℕ → Option RowMessageValue → List ℕ
outcome_line rules log request answer =
    codes "<div>" ++ letter_mark log ++ codes "&#8594; <mark>" ++ outcome_mark (outcome_by request answer) ++ codes "</mark>"
    ++ answer_data rules answer ++ codes "</div>"

-- the outcomes of two exchanges, each in its line
abbrev pub other_outcomes : List RuleValue → List ℕ → Option RowMessageValue → List ℕ → Option RowMessageValue → List ℕ
other_outcomes rules request answer asked reply =
    codes "<div class=\"hx out\">" ++ outcome_line rules A request answer ++ outcome_line rules B asked reply ++ codes "</div>"

-- two items that changed: what is the same once, what differs byte under byte, and other outcomes in lines of their own
abbrev pub told_pair : List RuleValue → PlacedItemValue → PlacedItemValue → List ℕ
told_pair rules one other =
    message_of_both rules one.begin other.begin
    ++ (if is_request_role one.begin.role
    then (if same_outcome (outcome_by one.begin.bytes one.answer) (outcome_by other.begin.bytes other.answer)
    then codes " &#8594; " ++ same_outcomes rules one.begin.bytes one.answer other.answer
    else other_outcomes rules one.begin.bytes one.answer other.begin.bytes other.answer)
    else [])

-- Numbers of a row.

-- a dash, in place of the number of an item that a row doesn't have
abbrev pub no_number : List ℕ
no_number = codes "<span class=\"none\">&#8211;</span>"

-- the number of an item, counted from 1, where a row has it
abbrev pub number_if : Bool → ℕ → List ℕ
number_if has place = if has then decimal (place + 1) else no_number

-- the numbers of a row, which stands behind so many items of both: those that it has
abbrev pub numbers : Row → ℕ → ℕ → List ℕ
numbers Same i j = codes "<th scope=\"row\">" ++ number_if true i ++ codes "<td>" ++ number_if true j ++ codes "<td>"
numbers Changed i j = codes "<th scope=\"row\">" ++ number_if true i ++ codes "<td>" ++ number_if true j ++ codes "<td>"
numbers OnlyLeft i j = codes "<th scope=\"row\">" ++ number_if true i ++ codes "<td>" ++ number_if false j ++ codes "<td>"
numbers OnlyRight i j = codes "<th scope=\"row\">" ++ number_if false i ++ codes "<td>" ++ number_if true j ++ codes "<td>"

-- the class of a row
abbrev pub row_class : Row → List ℕ
row_class Same = codes "same"
row_class Changed = codes "d ch"
row_class OnlyLeft = codes "d oa"
row_class OnlyRight = codes "d ob"

-- where a change begins, the identifier to which the list leads
abbrev pub row_start : Row → Option ℕ → List ℕ
row_start kind None = codes "<tr class=\"" ++ row_class kind ++ codes "\">"
row_start kind (Some number) = codes "<tr class=\"" ++ row_class kind ++ codes "\" id=\"" ++ difference_name number ++ codes "\">"

-- what a change is, above its first row
abbrev pub change_words : List RuleValue → Row → ℕ → Option PlacedItemValue → Option PlacedItemValue → List ℕ
change_words rules kind count (Some one) (Some other) =
    codes "<b class=\"tag\">" ++ tag kind ++ codes "</b> " ++ differ rules (item_value one) (item_value other)
change_words rules kind count one other =
    codes "<b class=\"tag\">" ++ tag kind ++ (if count == 1 then [] else codes ": " ++ decimal count ++ codes " items") ++ codes "</b>"

-- the number of the next change, if one follows on this one of so many
abbrev pub next_number : ℕ → ℕ → Option ℕ
next_number number all = if nat_lt number all then Some (number + 1) else None

-- a link to the next change, if there is one, or to the list
abbrev pub way_on : Option ℕ → List ℕ
way_on (Some next) = codes "<a href=\"#" ++ difference_name next ++ codes "\">next</a>"
way_on None = codes "<a href=\"#differences\">list</a>"

-- the way to the next change of all, or back to the list from the last one
abbrev pub navigation : ℕ → ℕ → List ℕ
navigation number all =
    if all == 1 then []
    else codes " <span class=\"nav\">" ++ decimal number ++ codes " of " ++ decimal all ++ codes " "
    ++ way_on (next_number number all) ++ codes "</span>"

-- the line above the first row of a change: what it is, its number of all, and the way to the next one
abbrev pub top : List RuleValue → ℕ → ℕ → Row → ℕ → Option PlacedItemValue → Option PlacedItemValue → List ℕ
top rules number all kind count one other =
    codes "<p class=\"top\"><span>" ++ change_words rules kind count one other ++ codes "</span>" ++ navigation number all ++ codes "</p>"

-- What a row says of its items, which stand at these places.

-- an item with its messages, if there is one
abbrev pub told_if : List RuleValue → Option PlacedItemValue → List ℕ
told_if rules None = []
told_if rules (Some item) = told_item rules item

-- two items that changed, if both are there
abbrev pub told_pair_if : List RuleValue → Option PlacedItemValue → Option PlacedItemValue → List ℕ
told_pair_if rules (Some one) (Some other) = told_pair rules one other
told_pair_if rules _ _ = []

-- the items of a row of this kind: what both have the same stands once
abbrev pub told : List RuleValue → Row → Option PlacedItemValue → Option PlacedItemValue → List ℕ
told rules Same one other = told_if rules other
told rules Changed one other = told_pair_if rules one other
told rules OnlyLeft one other = told_if rules one
told rules OnlyRight one other = told_if rules other

-- where an item stands in its log and when it was, if there is one
abbrev pub note_if : PairLog → ℕ → Option PlacedItemValue → List ℕ
note_if log origin None = []
note_if log origin (Some item) = note_of log origin item

-- how many items of a log stand before a row
abbrev pub place_in : PairLog → RowPlace → ℕ
place_in A place = place.left
place_in B place = place.right

-- what is missing of the item that a row has of a log, if it has one
abbrev pub row_losses : PairLog → SessionValue → RowPlace → List ℕ
row_losses log session place = if has_item log place.kind then losses_text log (losses_of session.rows (place_in log place)) else []

-- the item that a row has of a log, if it has one
abbrev pub row_item : PairLog → SessionValue → RowPlace → Option PlacedItemValue
row_item log session place = if has_item log place.kind then slice_get (items_in session.rows) (place_in log place) else None

-- the number of the change that begins with a row, if one does
abbrev pub begun_number : Option Begun → Option ℕ
begun_number begun = option_map (λ (b : Begun). b.number) begun

-- the line above a row, if a change begins with it
abbrev pub top_of : List RuleValue → Option Begun → Row → Option PlacedItemValue → Option PlacedItemValue → List ℕ
top_of rules None kind one other = []
top_of rules (Some begun) kind one other = top rules begun.number begun.all kind begun.count one other

-- a row of the table: its numbers, what the verdict links to, the change that begins with it, its items, when they were,
-- and what is missing of them
abbrev pub row_text : SessionValue → SessionValue → RowPlace → Option Begun → List ℕ
row_text left right place begun =
    row_start place.kind (begun_number begun) ++ numbers place.kind place.left place.right
    ++ longer_mark (row_times (row_item A left place) (row_item B right place)) place.left
    ++ top_of left.rules begun place.kind (row_item A left place) (row_item B right place)
    ++ codes "<div class=\"it\">" ++ told left.rules place.kind (row_item A left place) (row_item B right place)
    ++ codes "</div><div class=\"ab\">" ++ note_if A left.first (row_item A left place) ++ codes " " ++ note_if B right.first (row_item B right place)
    ++ codes "</div>" ++ row_losses A left place ++ row_losses B right place ++ codes "\n"
