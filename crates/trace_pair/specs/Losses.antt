-- What is missing in a log, and where it stands: each dropped frame, and each message that is not whole, belongs to an
-- item.
use Prim.Native.Nat.{zero, suc}
use Rattle.std.specs.Prelude.{ℕ, ◌+◌, ◌-◌, ◌==◌, Bool, true, false, ◌&&◌, List, [], ◌∷◌, ◌++◌, codes, length, nat_le, take, if◌then◌else◌}
use Rattle.std.specs.Fmt.{decimal}
use Rattle.std.specs.List.{filter, flat_map}
use Rattle.trace_report.specs.Items.{begins, rows_before}
use Rattle.trace_report.specs.Rows.{RowValue, message, no_answer, dropped, ended, unfinished}
use Rattle.trace_report.specs.MissingRows.{dropped_words, ended_words, unfinished_words}
use Rattle.pair_words.specs.declared.log.PairLog.{PairLog}
use Rattle.pair_words.specs.Logs.{letter, letter_mark}

-- a row tells that something is missing
abbrev pub is_loss : RowValue → Bool
is_loss (message is d place bytes) = false
is_loss (no_answer number silence) = false
is_loss (dropped place d linked why) = true
is_loss (ended place end) = true
is_loss (unfinished d line len) = true

-- how many items begin with a row
abbrev pub count_begun : RowValue → ℕ
count_begun row = if begins row then 1 else 0

-- how many rows stand before those that belong to an item: what stands before the first one belongs to that
abbrev pub first_row : ℕ → List RowValue → ℕ
first_row item rows = if item == 0 then 0 else rows_before item rows

-- What is missing of the item of this place, counted from 0, where so many items have begun before these rows. A loss
-- belongs to the item that began last before it, and to the first one where none did.
abbrev pub losses_behind : ℕ → ℕ → List RowValue → List RowValue
losses_behind begun item [] = []
losses_behind begun item (row ∷ rows) =
    if is_loss row && begun - 1 == item then row ∷ losses_behind (begun + count_begun row) item rows else losses_behind (begun + count_begun row) item rows

-- what is missing of the item of this place in a log with these rows
abbrev pub losses_of : List RowValue → ℕ → List RowValue
losses_of rows item = losses_behind 0 item rows

-- how much is missing of so many items, from this one on
abbrev pub losses_from : List RowValue → ℕ → ℕ → ℕ
losses_from rows item zero = 0
losses_from rows item (suc more) = length (losses_of rows item) + losses_from rows (item + 1) more

-- How much is missing in front of the item of a place, where another log has items that this one lacks: of the item
-- before it; in front of the first one, what is missing before the row with which that begins, or of a log without an
-- item.
abbrev pub losses_in_front : List RowValue → ℕ → ℕ
losses_in_front rows zero = length (filter is_loss (take (rows_before 0 rows) rows))
losses_in_front rows (suc before) = length (losses_of rows before)

-- the line of a frame, before what became of it
abbrev pub line_mark : ℕ → List ℕ
line_mark line = codes "line " ++ decimal line ++ codes ": "

-- a loss in words, without its place
abbrev pub loss_words : RowValue → List ℕ
loss_words (message is d place bytes) = []
loss_words (no_answer number silence) = []
loss_words (dropped place d linked why) = line_mark place.line ++ dropped_words d why
loss_words (ended place end) = line_mark place.line ++ ended_words end
loss_words (unfinished d line len) = unfinished_words d line len

-- a loss of a log, in a line of its own
abbrev pub loss_line : PairLog → RowValue → List ℕ
loss_line log row = codes "<p class=\"lost\">" ++ letter_mark log ++ loss_words row ++ codes "</p>"

-- so many losses of an item are told
abbrev pub told_losses : ℕ
told_losses = 20

-- how many losses of an item are not told, where it has more than are
abbrev pub more_losses : PairLog → ℕ → List ℕ
more_losses log count = if nat_le count told_losses then [] else codes "<p class=\"lost\">and " ++ decimal (count - told_losses) ++ codes " more in " ++ letter log ++ codes "</p>"

-- what is missing of an item: the losses that are told, and how many more there are
abbrev pub losses_text : PairLog → List RowValue → List ℕ
losses_text log losses = flat_map (loss_line log) (take told_losses losses) ++ more_losses log (length losses)
