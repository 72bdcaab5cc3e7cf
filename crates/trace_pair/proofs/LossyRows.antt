-- A log is not clean at a change exactly where one of its rows there tells a loss.
use Rattle.std.proofs.Common.{◌≡◌, ℕ, Bool, true, false, List, [], ◌∷◌, length, ap, ◌∙◌, arith, refl}
use Rattle.std.specs.Prelude.{◌||◌, nat_lt, if◌then◌else◌}
use Rattle.std.specs.List.{list_any}
use Rattle.std.proofs.lemmas.Bool.{lt-ltb}
use Rattle.trace_report.specs.Rows.{RowValue}
use Rattle.pair_words.specs.Logs.{has_item, items_before}
use Rattle.trace_pair.specs.Losses.{is_loss}
use Rattle.trace_pair.specs.LossLaws.{LossyWhereLost, rows_at}
use Rattle.trace_pair.specs.Verdict.{lossy_by}
use Rattle.trace_pair.specs.proving.Losing.{lost}
use Rattle.trace_pair.proofs.LossPlaces.{in-front-counted, losses-counted}

-- rows tell a loss where one of them does
some-lost : (rows : List RowValue) → nat_lt 0 (length (lost rows)) ≡ list_any is_loss rows
some-lost [] = refl
some-lost (row ∷ rows) = by (is_loss row) (some-lost rows)
  where
    by : (loss : Bool) → nat_lt 0 (length (lost rows)) ≡ list_any is_loss rows
        → nat_lt 0 (length (if loss then row ∷ lost rows else lost rows)) ≡ (loss || list_any is_loss rows)
    by true rest = lt-ltb 0 (length (row ∷ lost rows)) (omega arith)
    by false rest = rest

pub lossy-where-lost : LossyWhereLost
lossy-where-lost log session here = by (has_item log here.kind)
  where
    by : (has : Bool)
        → lossy_by has session (items_before log here) here.count ≡ list_any is_loss (rows_at has (items_before log here) here.count session.rows)
    by true =
        ap (λ (n : ℕ). nat_lt 0 n) (losses-counted session.rows (items_before log here) here.count)
        ∙ some-lost (rows_at true (items_before log here) here.count session.rows)
    by false =
        ap (λ (n : ℕ). nat_lt 0 n) (in-front-counted session.rows (items_before log here))
        ∙ some-lost (rows_at false (items_before log here) here.count session.rows)
