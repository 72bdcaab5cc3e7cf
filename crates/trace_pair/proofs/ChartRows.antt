-- The rows of a chart, one after another.
use Rattle.std.proofs.Common.{◌≡◌, ℕ, ◌+◌, ◌-◌, ◌≤◌, ◌<◌, Bool, List, ◌∷◌, ◌++◌, take, drop, Option, Some, None, ap, sym, ◌∙◌, append_assoc}
use Rattle.std.specs.Prelude.{slice_get}
use Rattle.text_parts.proofs.Promises.{IsLeft, same-rest, said-whole, say-more}
use Rattle.trace_report.specs.Blocks.{begins_exchange}
use Rattle.trace_report.specs.Rows.{RowValue}
use Rattle.trace_pair.specs.Counterparts.{Charted, Marked, is_other, marked_at}
use Rattle.pair_words.specs.ChartWords.{body_start}
use Rattle.trace_pair.specs.FirstDifference.{begins_chart_body, chart_row, last_begun, number_of, chart_rows_text}
use Rattle.pair_words.proofs.Promises.{cut-first, cut-none, cut-past, past-end}

module _ {S : Type 0} (says : S → List ℕ → S → Type 0) (onward : (s m t : S) (a b : List ℕ) → says s a m → says m b t → says s (a ++ b) t)
    (chart : Charted) (origin to : ℕ) (rows : List RowValue) (old : S) (whole : List ℕ) where
  abbrev pub Left : Option Bool → ℕ → ℕ → S → Type 0
  Left front last at now = IsLeft says old (chart_rows_text chart origin front last (take (to - at) (drop at rows))) whole now

  -- one more row is said, and the body that begins with it
  pub turn-row : (front : Option Bool) (last next at : ℕ) (row : RowValue) (marked : Option Marked) (begins other : Bool) (now mid new : S) → at < to
      → slice_get rows at ≡ Some row → other ≡ is_other chart (number_of last row) → marked ≡ marked_at chart (number_of last row)
      → begins ≡ begins_chart_body front (begins_exchange row) other → next ≡ last_begun last row
      → Left front last at now → says now (body_start begins other) mid → says mid (chart_row chart.left.rules chart.log marked origin row) new → Left (Some other) next (at + 1) new
  turn-row front last next at row marked begins other now mid new below there other_is marked_is begins_is next_is left begun said =
      let behind = take (to - (at + 1)) (drop (at + 1) rows) in
      let start = body_start begins other in
      let here = chart_row chart.left.rules chart.log marked origin row in
      let rest = chart_rows_text chart origin (Some other) next behind in
      let begun_is : begins_chart_body front (begins_exchange row) (is_other chart (number_of last row)) ≡ begins =
      sym (begins_is ∙ ap (begins_chart_body front (begins_exchange row)) other_is) in
      let parts : chart_rows_text chart origin front last (row ∷ behind) ≡ start ++ here ++ rest =
      (λ i. body_start (begun_is i) (sym other_is i) ++ chart_row chart.left.rules chart.log (sym marked_is i) origin row ++ chart_rows_text chart origin (Some (sym other_is i)) (sym next_is i) behind) in
      say-more says onward old mid new here rest whole
      (say-more says onward old now mid start (here ++ rest) whole
      (same-rest says old now _ _ whole (ap (chart_rows_text chart origin front last) (cut-first rows at to row below there) ∙ parts ∙ append_assoc start here rest) left)
      begun) said

  -- the log ends before
  pub turn-past : (front : Option Bool) (last at : ℕ) (now : S) → slice_get rows at ≡ None → Left front last at now → says old whole now
  turn-past front last at now past left =
      said-whole says old now whole (same-rest says old now _ _ whole (ap (chart_rows_text chart origin front last) (cut-past rows at to (past-end rows at past))) left)

  -- and that are all
  pub turn-end : (front : Option Bool) (last at : ℕ) (now : S) → to ≤ at → Left front last at now → says old whole now
  turn-end front last at now over left =
      said-whole says old now whole (same-rest says old now _ _ whole (ap (chart_rows_text chart origin front last) (cut-none rows at to over)) left)
