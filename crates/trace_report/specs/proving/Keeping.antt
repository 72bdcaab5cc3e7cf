-- Devices of proof: the rows of a session as they are kept, and where its items stand among them.
use Rattle.std.specs.Prelude.{◌≡◌, ℕ, ◌+◌, zero, suc, ⊤, Bool, true, false, List, [], ◌∷◌, ◌++◌, length}
use Rattle.std.specs.Prelude.{map, Option, Some, None, option_map, slice_get, if◌then◌else◌}
use Rattle.uds_exchange.specs.Blocks.{IsInside, bytes_at}
use Rattle.trace_report.specs.Items as Items
use Rattle.trace_report.specs.Items.{RowMessageValue, PlacedItemValue, items_in, message_in}
use Rattle.trace_report.specs.Rows.{RowValue, message, no_answer, dropped, ended, unfinished, missing_of}
use Rattle.trace_report.specs.Sorts.{counts_in}
use Rattle.trace_report.specs.declared.tally.SortCounts.{SortCounts}
use Rattle.trace_report.specs.declared.item_places.ItemPlace.{ItemPlace}
use Rattle.trace_report.specs.declared.kept_rows.KeptRow.{KeptRow}
use Rattle.trace_report.specs.declared.kept_rows.KeptRow.TheVariants as kept
use Rattle.trace_report.specs.declared.roles.MessageRole.{MessageRole}
use Rattle.trace_report.specs.declared.roles.MessageRole.TheVariants as role

-- Rows.

-- a kept row as it was, by the blocks in which bytes lie
abbrev pub row_at : List (List ℕ) → KeptRow → RowValue
row_at blocks (kept.Message sent bytes) = message sent.role sent.dir sent.place (bytes_at blocks bytes)
row_at blocks (kept.Missing what) = missing_of what

-- kept rows as they were, by the blocks in which bytes lie
abbrev pub rows_at : List (List ℕ) → List KeptRow → List RowValue
rows_at blocks rows = map (row_at blocks) rows

-- the bytes of a row lie in a block, if it has bytes
abbrev pub IsLaid : List (List ℕ) → KeptRow → Type 0
IsLaid blocks (kept.Message sent bytes) = IsInside blocks bytes
IsLaid blocks (kept.Missing what) = ⊤

-- the bytes of each of these rows lie in a block, if it has bytes
abbrev pub AreLaid : List (List ℕ) → List KeptRow → Type 0
AreLaid blocks [] = ⊤
AreLaid blocks (row ∷ rest) = IsLaid blocks row × AreLaid blocks rest

-- What rows are to items.

-- What a row is to items: it begins an exchange, answers one, begins another item, or is nothing to them.
pub data RowPart : Type 0 where
  asks : RowMessageValue → RowPart
  answers : RowMessageValue → RowPart
  begins : RowMessageValue → RowPart
  nothing : RowPart

-- what a row is to items that tells a message of this role
abbrev pub part_by : MessageRole → RowMessageValue → RowPart
part_by role.Request sent = asks sent
part_by (role.Positive asked) sent = answers sent
part_by (role.Negative asked) sent = answers sent
part_by (role.Pending asked) sent = nothing
part_by role.KeepAlive sent = begins sent
part_by role.Stray sent = begins sent

-- what a row is to items
abbrev pub part_of : RowValue → RowPart
part_of (message is d place bytes) = part_by is (record { role = is; dir = d; place = place; bytes = bytes })
part_of (no_answer number silence) = nothing
part_of (dropped place d linked why) = nothing
part_of (ended place end) = nothing
part_of (unfinished d line len) = nothing

-- none of these rows asks or answers, so a request before them waits
abbrev pub awaits : List RowPart → Bool
awaits [] = true
awaits (asks sent ∷ rest) = false
awaits (answers sent ∷ rest) = false
awaits (begins sent ∷ rest) = awaits rest
awaits (nothing ∷ rest) = awaits rest

-- the place of an item, where one more item stands before it
abbrev pub place_later : Option ℕ → Option ℕ
place_later None = None
place_later (Some number) = Some (suc number)

-- the place of the request that waits: this one, or one behind it
abbrev pub place_by : Bool → Option ℕ → Option ℕ
place_by true later = Some 0
place_by false later = place_later later

-- the place, among items, of the request that waits after these rows, by what they are to items
abbrev pub waiting_of : List RowPart → Option ℕ
waiting_of [] = None
waiting_of (asks sent ∷ rest) = place_by (awaits rest) (waiting_of rest)
waiting_of (answers sent ∷ rest) = waiting_of rest
waiting_of (begins sent ∷ rest) = place_later (waiting_of rest)
waiting_of (nothing ∷ rest) = waiting_of rest

-- the place, among items, of the request that waits after these rows
abbrev pub waiting_in : List RowValue → Option ℕ
waiting_in rows = waiting_of (map part_of rows)

-- Where items stand.

-- the message of a row, if there is one
abbrev pub message_if : Option RowValue → Option RowMessageValue
message_if None = None
message_if (Some row) = message_in row

-- the message of the row at this place, if there is one
abbrev pub message_at : List RowValue → ℕ → Option RowMessageValue
message_at rows at = message_if (slice_get rows at)

-- the item that this message begins and that has this answer, if it has one
abbrev pub item_by : RowMessageValue → Option RowMessageValue → PlacedItemValue
item_by begin answer = record { begin = begin; answer = answer }

-- the item that begins with this message, and whose answer stands there, if it has one
abbrev pub item_with : List RowValue → RowMessageValue → Option ℕ → Option PlacedItemValue
item_with rows begin None = Some (item_by begin None)
item_with rows begin (Some at) = option_map (λ (reply : RowMessageValue). item_by begin (Some reply)) (message_at rows at)

-- the item that begins with this message, if there is one, and whose answer stands there, if it has one
abbrev pub item_if : List RowValue → Option RowMessageValue → Option ℕ → Option PlacedItemValue
item_if rows None answer = None
item_if rows (Some begin) answer = item_with rows begin answer

-- the item that stands in this place among the rows
abbrev pub placed_at : List RowValue → ItemPlace → Option PlacedItemValue
placed_at rows item = item_if rows (message_at rows item.begin) item.answer

-- these items stand in these places among the rows
abbrev pub ArePlaced : List RowValue → List ItemPlace → List PlacedItemValue → Type 0
ArePlaced rows [] [] = ⊤
ArePlaced rows [] (item ∷ items) = ⊥
ArePlaced rows (place ∷ places) [] = ⊥
ArePlaced rows (place ∷ places) (item ∷ items) = (placed_at rows place ≡ Some item) × ArePlaced rows places items

-- the places of the rows with which items begin, where so many rows stand before these
abbrev pub begin_places : ℕ → List RowValue → List ℕ
begin_places before [] = []
begin_places before (row ∷ rows) = if Items.begins row then before ∷ begin_places (before + 1) rows else begin_places (before + 1) rows

-- the place of the row at this place, where an item begins with it
abbrev pub begun_at : RowValue → ℕ → List ℕ
begun_at row at = if Items.begins row then at ∷ [] else []

-- the place of the row with which an item begins
abbrev pub begin_of : ItemPlace → ℕ
begin_of item = item.begin

-- the place that is found, or else the end
abbrev pub place_or : ℕ → Option ℕ → ℕ
place_or end None = end
place_or end (Some at) = at

-- the rows are kept, with what they tell of items, and how many there are of each sort
pub record AreKept (blocks : List (List ℕ)) (rows : List KeptRow) (places : List ItemPlace) (waiting : Option ℕ) (counts : SortCounts) : Type 0 where
  pub laid : AreLaid blocks rows
  pub placed : ArePlaced (rows_at blocks rows) places (items_in (rows_at blocks rows))
  pub begun : map begin_of places ≡ begin_places 0 (rows_at blocks rows)
  pub waits : waiting ≡ waiting_in (rows_at blocks rows)
  pub counted : counts ≡ counts_in (rows_at blocks rows)

-- One more row.

-- the place of an item whose answer stands in the row at this place
abbrev pub answered_at : ItemPlace → ℕ → ItemPlace
answered_at item at = record { begin = item.begin; answer = Some at }

-- the places of items, of which the one of this number has its answer in the row at this place
abbrev pub place_answered : List ItemPlace → ℕ → ℕ → List ItemPlace
place_answered [] number at = []
place_answered (item ∷ rest) zero at = answered_at item at ∷ rest
place_answered (item ∷ rest) (suc number) at = item ∷ place_answered rest number at

-- the places of items, of which the one that waits, if one does, has its answer in the row at this place
abbrev pub places_answered : List ItemPlace → Option ℕ → ℕ → List ItemPlace
places_answered places None at = places
places_answered places (Some number) at = place_answered places number at

-- these items, of which the one of this number has this answer
abbrev pub item_answered : List PlacedItemValue → ℕ → RowMessageValue → List PlacedItemValue
item_answered [] number reply = []
item_answered (item ∷ rest) zero reply = item_by item.begin (Some reply) ∷ rest
item_answered (item ∷ rest) (suc number) reply = item ∷ item_answered rest number reply

-- these items, of which the one that waits, if one does, has this answer
abbrev pub items_answered : List PlacedItemValue → Option ℕ → RowMessageValue → List PlacedItemValue
items_answered items None reply = items
items_answered items (Some number) reply = item_answered items number reply

-- the places of items with one more, which begins in the row at this place
abbrev pub places_begun : List ItemPlace → ℕ → List ItemPlace
places_begun places at = places ++ record { begin = at; answer = None } ∷ []

-- the places of items with a message of this role in the row at this place
abbrev pub places_by : MessageRole → List ItemPlace → Option ℕ → ℕ → List ItemPlace
places_by role.Request places waiting at = places_begun places at
places_by (role.Positive asked) places waiting at = places_answered places waiting at
places_by (role.Negative asked) places waiting at = places_answered places waiting at
places_by (role.Pending asked) places waiting at = places
places_by role.KeepAlive places waiting at = places_begun places at
places_by role.Stray places waiting at = places_begun places at

-- the item that waits after a message of this role
abbrev pub waiting_by : MessageRole → List ItemPlace → Option ℕ → Option ℕ
waiting_by role.Request places waiting = Some (length places)
waiting_by (role.Positive asked) places waiting = None
waiting_by (role.Negative asked) places waiting = None
waiting_by (role.Pending asked) places waiting = waiting
waiting_by role.KeepAlive places waiting = waiting
waiting_by role.Stray places waiting = waiting

-- the places of items with this row, which stands at this place
abbrev pub places_next : RowValue → List ItemPlace → Option ℕ → ℕ → List ItemPlace
places_next (message is d place bytes) places waiting at = places_by is places waiting at
places_next (no_answer number silence) places waiting at = places
places_next (dropped place d linked why) places waiting at = places
places_next (ended place end) places waiting at = places
places_next (unfinished d line len) places waiting at = places

-- the item that waits after this row
abbrev pub waiting_next : RowValue → List ItemPlace → Option ℕ → Option ℕ
waiting_next (message is d place bytes) places waiting = waiting_by is places waiting
waiting_next (no_answer number silence) places waiting = waiting
waiting_next (dropped place d linked why) places waiting = waiting
waiting_next (ended place end) places waiting = waiting
waiting_next (unfinished d line len) places waiting = waiting
