-- The items of a session by its rows: each with the message that begins it and its answer, in the order of the numbers
-- that `udsnorm list` gives them.
use Rattle.std.specs.Prelude.{ℕ, ◌+◌, ◌-◌, ◌==◌, Bool, false, List, [], ◌∷◌, Option, Some, None, option_map, if◌then◌else◌}
use Rattle.direction.specs.declared.Dir.{Dir}
use Rattle.uds_exchange.specs.Meaning.{ItemValue, exchange, stray}
use Rattle.trace_report.specs.Roles.{is_request_role, begins_item, is_answer_role}
use Rattle.trace_report.specs.Rows.{RowValue, message, no_answer, dropped, ended, unfinished}
use Rattle.trace_report.specs.declared.items.PlacedItem.{PlacedItem}
use Rattle.trace_report.specs.declared.items.RowMessage.{RowMessage}
use Rattle.trace_report.specs.declared.row.MessagePlace.{MessagePlace}
use Rattle.trace_report.specs.declared.roles.MessageRole.{MessageRole}

-- A message of a session: what it is to its item, who sent it, where it stands, and its bytes.
pub record RowMessageValue : Type 0 where
  pub role : MessageRole
  pub dir : Dir
  pub place : MessagePlace
  pub bytes : List ℕ

-- An item: the message that begins it, and its answer, if it has one.
pub record PlacedItemValue : Type 0 where
  pub begin : RowMessageValue
  pub answer : Option RowMessageValue

-- a message that is lent, as it is
abbrev pub message_of : RowMessage → RowMessageValue
message_of lent = record { role = lent.sent.now.role; dir = lent.sent.now.dir; place = lent.sent.now.place; bytes = lent.bytes.now }

-- an item that is lent, as it is
abbrev pub item_of : PlacedItem → PlacedItemValue
item_of item = record { begin = message_of item.begin; answer = option_map message_of item.answer }

-- the message that a row tells, if it tells one
abbrev pub message_in : RowValue → Option RowMessageValue
message_in (message is d place bytes) = Some (record { role = is; dir = d; place = place; bytes = bytes })
message_in (no_answer number silence) = None
message_in (dropped place d linked why) = None
message_in (ended place end) = None
message_in (unfinished d line len) = None

-- the answer to a request, by the message of the row behind it and by the answer among the rows behind that
abbrev pub answer_by : Option RowMessageValue → Option RowMessageValue → Option RowMessageValue
answer_by None later = later
answer_by (Some sent) later = if is_request_role sent.role then None else if is_answer_role sent.role then Some sent else later

-- the answer to a request among the rows behind it: the first one that stands before the next request
abbrev pub answer_in : List RowValue → Option RowMessageValue
answer_in [] = None
answer_in (row ∷ rest) = answer_by (message_in row) (answer_in rest)

-- the answer to a message of this role: only a request has one
abbrev pub answer_to : MessageRole → List RowValue → Option RowMessageValue
answer_to is rest = if is_request_role is then answer_in rest else None

-- the item that a message begins, which is answered among the rows behind it, or is not
abbrev pub item_begun : RowMessageValue → List RowValue → PlacedItemValue
item_begun begin rest = record { begin = begin; answer = answer_to begin.role rest }

-- this message, where it begins an item
abbrev pub beginning : Option RowMessageValue → Option RowMessageValue
beginning None = None
beginning (Some sent) = if begins_item sent.role then Some sent else None

-- the items of a row and those behind it: that of the message, where the row begins an item with one, and these later
-- ones
abbrev pub items_by : Option RowMessageValue → List RowValue → List PlacedItemValue → List PlacedItemValue
items_by None rest later = later
items_by (Some begin) rest later = item_begun begin rest ∷ later

-- the items that these rows tell, in order
abbrev pub items_in : List RowValue → List PlacedItemValue
items_in [] = []
items_in (row ∷ rest) = items_by (beginning (message_in row)) rest (items_in rest)

-- what an item is without its places: a request with its answer, or a message of no exchange
abbrev pub item_value : PlacedItemValue → ItemValue
item_value item =
    if is_request_role item.begin.role then exchange item.begin.bytes (option_map (λ (reply : RowMessageValue). reply.bytes) item.answer)
    else stray item.begin.dir item.begin.bytes

-- an item begins with the row
abbrev pub begins : RowValue → Bool
begins (message is d place bytes) = begins_item is
begins (no_answer number silence) = false
begins (dropped place d linked why) = false
begins (ended place end) = false
begins (unfinished d line len) = false

-- how many rows stand before the one with which the item of this place begins, counted from 0; all, where there is none
abbrev pub rows_before : ℕ → List RowValue → ℕ
rows_before item [] = 0
rows_before item (row ∷ rows) =
    if begins row then (if item == 0 then 0 else 1 + rows_before (item - 1) rows) else 1 + rows_before item rows
