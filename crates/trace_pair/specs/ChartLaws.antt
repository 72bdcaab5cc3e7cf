-- What holds of the charts of a page of two logs: which rows of its log one has, and what it tells of those that it
-- leaves out.
use Rattle.std.specs.Prelude.{◌≡◌, ◌≤◌, ◌⊎◌, ℕ, suc, ◌+◌, ◌-◌, true, false, List, [], ◌++◌, drop, length, take, slice_get, ◌<◌}
use Rattle.std.specs.List.{list_any}
use Rattle.trace_report.specs.Blocks.{begins_exchange}
use Rattle.trace_report.specs.Items.{answer_in, rows_before}
use Rattle.trace_report.specs.Rows.{RowValue}
use Rattle.trace_pair.specs.FirstDifference.{asks, chart_rows, chart_to, items_more, most_before, most_rows, rows_more}
use Rattle.trace_pair.specs.Losses.{first_row}

-- A chart around the item of a place, as a piece of the log's rows between those before it and those behind it.
pub record IsAround (item : ℕ) (rows front behind : List RowValue) : Type 0 where
  pub piece : rows ≡ front ++ (chart_rows item rows ++ behind)
  -- it begins with the log's first row, with a request at or before the rows that belong to the item before, or so many
  -- rows before the item's own as it has there at most
  pub begins : (front ≡ []) ⊎ (((asks (slice_get (chart_rows item rows) 0) ≡ true) × (length front ≤ first_row (item - 1) rows)) ⊎ (length front + most_before ≡ rows_before item rows))
  -- and behind its first row none is a request up to the first one that belongs to the item before
  pub last : list_any begins_exchange (take (first_row (item - 1) rows - length front) (drop 1 (chart_rows item rows))) ≡ false
  -- around the log's first item, or the second, it begins with the log's first row, and so has what is lost in front of
  -- them; or it has so many rows before the item's own as it has there at most
  pub lost : item ≤ 1 → ((front ≡ []) ⊎ (length front + most_before ≡ rows_before item rows))
  pub before : length front ≤ rows_before item rows
  pub near : rows_before item rows ≤ length front + most_before
  -- the row with which the item begins stands in it
  pub row : slice_get (chart_rows item rows) (rows_before item rows - length front) ≡ slice_get rows (rows_before item rows)
  -- and so does the answer behind that row, or it is among the rows of which the chart tells that it leaves them out
  pub answer :
      answer_in (drop (suc (rows_before item rows - length front)) (chart_rows item rows ++ take (rows_more item rows) behind)) ≡ answer_in (drop (suc (rows_before item rows)) rows)
  -- it leaves some out only where it has as many as a chart has at most, and no more than there are
  pub cut : (rows_more item rows ≡ 0) ⊎ (length (chart_rows item rows) ≡ most_rows)
  pub few : rows_more item rows ≤ length behind

-- the chart of a log around the item of a place is one piece of the log's rows, where the item stands
abbrev pub ChartHasTheItem : Type 0
ChartHasTheItem = (item : ℕ) (rows : List RowValue) → (front behind : List RowValue) × IsAround item rows front behind

-- Of so many items from the one of a place on, a chart around that tells the last ones as items more: these begin
-- behind its rows, and behind those of which it tells that it leaves them out. Each of the others begins in front of
-- that.
abbrev pub ChartCountsTheRun : Type 0
ChartCountsTheRun = (item count : ℕ) (rows : List RowValue) (here : ℕ) → item ≤ here → here < item + count
    → (here + items_more item count rows < item + count → rows_before here rows < chart_to item rows)
    × (item + count ≤ here + items_more item count rows → chart_to item rows ≤ rows_before here rows)
