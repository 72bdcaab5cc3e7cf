-- The blocks of a report: rows stand in tables of some 200, which fold, so that a browser draws a long session in time.
-- The first ten are written open, and the rows of the others are brief.
use Rattle.std.specs.Prelude.{ℕ, ◌+◌, ◌==◌, Bool, false, ◌&&◌, ◌||◌, List, [], ◌∷◌, ◌++◌, codes, nat_le, nat_lt, if◌then◌else◌}
use Rattle.std.specs.Fmt.{decimal}
use Rattle.trace_canon.specs.declared.reception_starts.FramePlace.{FramePlace}
use Rattle.trace_report.specs.declared.row.MessagePlace.{MessagePlace}
use Rattle.trace_report.specs.declared.blocks.Blocks.{Blocks}
use Rattle.trace_report.specs.Rows.{RowValue, message, no_answer, dropped, ended, unfinished}
use Rattle.trace_report.specs.Durations.{seconds_between}
use Rattle.trace_report.specs.Roles.{is_request_role}

-- a block of so many rows ends before the next request
abbrev pub full_block : ℕ
full_block = 200

-- a block of so many rows ends before any row
abbrev pub largest_block : ℕ
largest_block = 1000

-- so many blocks, the first ones, are written open
abbrev pub open_blocks : ℕ
open_blocks = 10

-- an exchange begins with the row: it tells a request
abbrev pub begins_exchange : RowValue → Bool
begins_exchange (message is d place bytes) = is_request_role is
begins_exchange (no_answer number silence) = false
begins_exchange (dropped place d linked why) = false
begins_exchange (ended place end) = false
begins_exchange (unfinished d line len) = false

-- a block begins before a row, which begins an exchange or does not, where so many blocks stand, and the last has so
-- many rows
abbrev pub begins_block : Bool → Blocks → Bool
begins_block exchange blocks =
    blocks.count == 0 || (nat_le largest_block blocks.rows || (exchange && nat_le full_block blocks.rows))

-- how many blocks stand, and how many rows the last has, with one more row, which begins an exchange or does not
abbrev pub one_more_row : Bool → Blocks → Blocks
one_more_row exchange blocks =
    if begins_block exchange blocks then record { count = blocks.count + 1; rows = 1 } else record { count = blocks.count; rows = blocks.rows + 1 }

-- before the first row no block stands
abbrev pub no_blocks : Blocks
no_blocks = record { count = 0; rows = 0 }

-- how many blocks stand after these rows, and how many rows the last has, by what stood before the rows
abbrev pub blocks_behind : Blocks → List RowValue → Blocks
blocks_behind blocks [] = blocks
blocks_behind blocks (row ∷ rest) = blocks_behind (one_more_row (begins_exchange row) blocks) rest

-- how many blocks stand after these rows, and how many rows the last has, where no row stands before them
abbrev pub blocks_of : List RowValue → Blocks
blocks_of rows = blocks_behind no_blocks rows

-- where a frame stands: its line, and its time
abbrev pub line_and_time : ℕ → FramePlace → List ℕ
line_and_time origin place = codes "line " ++ decimal place.line ++ codes ", " ++ seconds_between origin place.micros ++ codes " s"

-- the title of a block that begins with the row of a frame in this place
abbrev pub from_place : ℕ → FramePlace → List ℕ
from_place origin place = codes "From " ++ line_and_time origin place

-- the title of a block that begins with a row of this item
abbrev pub item_title : ℕ → List ℕ
item_title number = codes "From item " ++ decimal number

-- the title of a block that begins with the row of a message: its item, and where its first frame stands
abbrev pub message_title : ℕ → MessagePlace → List ℕ
message_title origin place = item_title place.item ++ codes ", " ++ line_and_time origin place.first

-- the title of a block, by the row that it begins with
abbrev pub block_title : ℕ → RowValue → List ℕ
block_title origin (message is d place bytes) = message_title origin place
block_title origin (no_answer number silence) = item_title number
block_title origin (dropped place d linked why) = from_place origin place
block_title origin (ended place end) = from_place origin place
block_title origin (unfinished d line len) = codes "At the end of the log"

-- the start of a block, which is open or folded by how many blocks stand before it
abbrev pub block_start : ℕ → List ℕ
block_start before =
    codes "<details class=\"b\"" ++ (if nat_lt before open_blocks then codes " open" else []) ++ codes ">\n<summary>"

-- the end of the last block, if one stands
abbrev pub block_end : ℕ → List ℕ
block_end count = if count == 0 then [] else codes "</table>\n</details>\n"

-- the head of a table of rows: the names of its columns
abbrev pub chart_head : List ℕ
chart_head =
    codes "<table>\n<thead><tr><th scope=\"col\">Item<th scope=\"col\">Lines<th scope=\"col\">Time<th scope=\"col\"><span class=\"T\">Tester</span><span class=\"U\">Unit</span></thead>\n"

-- what stands between the title of a block and its first row
abbrev pub table_start : List ℕ
table_start = codes "</summary>\n" ++ chart_head

-- what stands before a row that begins a block: the end of the block before, and the start and the title of this one
abbrev pub block_front : ℕ → ℕ → RowValue → List ℕ
block_front origin before row = block_end before ++ block_start before ++ block_title origin row ++ table_start

-- what stands before a row, where a block begins with it; nothing, where none does
abbrev pub front_if : Bool → ℕ → ℕ → RowValue → List ℕ
front_if block origin before row = if block then block_front origin before row else []

-- the start of a body of the table, where one begins
abbrev pub body_if : Bool → List ℕ
body_if body = if body then codes "<tbody>\n" else []

-- what begins before a row: a block, and a body of the table with each exchange
abbrev pub opening_text : ℕ → Blocks → RowValue → List ℕ
opening_text origin blocks row =
    front_if (begins_block (begins_exchange row) blocks) origin blocks.count row
    ++ body_if (begins_block (begins_exchange row) blocks || begins_exchange row)

-- the rows of the last block are brief
abbrev pub is_brief : Blocks → Bool
is_brief blocks = nat_lt open_blocks blocks.count
