-- What holds of what is missing in a log: where it stands, and at which changes a page says for it that the log is not
-- clean.
use Rattle.std.specs.Prelude.{◌≡◌, ℕ, ◌+◌, ◌-◌, Bool, true, false, List, drop, length, max, take}
use Rattle.std.specs.List.{filter, flat_map, list_any, range_with_len}
use Rattle.shown_rows.specs.declared.changes.Change.{Change}
use Rattle.trace_report.specs.Items.{items_in, rows_before}
use Rattle.trace_report.specs.Rows.{RowValue}
use Rattle.trace_report.specs.Session.{SessionValue}
use Rattle.pair_words.specs.declared.log.PairLog.{PairLog}
use Rattle.pair_words.specs.Logs.{has_item, items_before}
use Rattle.trace_pair.specs.Losses.{first_row, is_loss, losses_of}
use Rattle.trace_pair.specs.Verdict.{is_lossy}

-- The rows of a log at a change. Where it has items there: those that belong to these, with what stands in front of the
-- first item of the log. Where it has none: those that belong to the item before, up to the row with which the next one
-- begins; in front of the first item those before its row.
abbrev pub rows_at : Bool → ℕ → ℕ → List RowValue → List RowValue
rows_at true before count rows = take (first_row (before + count) rows - first_row before rows) (drop (first_row before rows) rows)
rows_at false before count rows = take (rows_before before rows - first_row (before - 1) rows) (drop (first_row (before - 1) rows) rows)

-- a log is not clean at a change exactly where one of its rows there tells that something is missing
abbrev pub LossyWhereLost : Type 0
LossyWhereLost = (log : PairLog) (session : SessionValue) (here : Change)
    → is_lossy log session here ≡ list_any is_loss (rows_at (has_item log here.kind) (items_before log here) here.count session.rows)

-- Each loss that a log tells stands with one of its items, once and in order; in a log without an item it stands with
-- the first one all the same, of which the page tells above the table.
abbrev pub EachLossStandsOnce : Type 0
EachLossStandsOnce = (rows : List RowValue) → flat_map (losses_of rows) (range_with_len 0 (max 1 (length (items_in rows)))) ≡ filter is_loss rows
