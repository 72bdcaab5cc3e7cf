-- How two sessions compare, by the rows that set them side by side.
use Rattle.std.specs.Prelude.{ℕ, Option, Some, None}
use Rattle.trace_canon.specs.declared.comparer.Comparison.{Comparison}
use Rattle.trace_canon.specs.declared.comparer.Comparison.TheVariants.{Same, Different}
use Rattle.uds_difference.specs.Laws.{first_change}
use Rattle.uds_difference.specs.Rows.{rows_of}
use Rattle.trace_report.specs.Kept.{KeptSessionsValue}
use Rattle.trace_pair.specs.Sessions.{values_in}

-- what two sessions are to each other, by how many rows stand before the first that is not the same, if there is one
abbrev pub comparison_by : Option ℕ → Comparison
comparison_by None = Same
comparison_by (Some place) = Different place

-- what two sessions are to each other that are kept
abbrev pub comparison_in : KeptSessionsValue → Comparison
comparison_in two = comparison_by (first_change (rows_of (values_in two.left) (values_in two.right)))
