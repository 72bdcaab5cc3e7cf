-- What is written of two sessions: where they differ, in words or as objects of JSON.
use Rattle.std.specs.Prelude.{ℕ, ◌+◌, Bool, List, length}
use Rattle.uds_difference.specs.Bound.{bound_for}
use Rattle.uds_difference.specs.Rows.{is_shortest, rows_of}
use Rattle.uds_difference.specs.declared.row.Row.{Row}
use Rattle.trace_canon.specs.declared.collector.Session.{Session}
use Rattle.trace_text.specs.declared.notation.Notation.{Notation}
use Rattle.trace_text.specs.declared.notation.Notation.TheVariants.{Text, Json}
use Rattle.uds_rules.specs.Rule.{RuleValue}
use Rattle.trace_difference.specs.Objects.{objects_text}
use Rattle.trace_difference.specs.Unified.{unified_text}

-- these rows, of sessions under rules whose files have these names
abbrev pub written_rows : List RuleValue → Notation → List ℕ → List ℕ → Bool → List Row → Session → Session → List ℕ
written_rows rules Text left_name right_name shortest rows left right =
    unified_text rules left_name right_name shortest (bound_for (length left.meaning + length right.meaning)) rows left right
written_rows rules Json left_name right_name shortest rows left right = objects_text rules shortest rows left right

-- the difference of both sessions
abbrev pub difference_text : List RuleValue → Notation → List ℕ → List ℕ → Session → Session → List ℕ
difference_text rules notation left_name right_name left right =
    written_rows rules notation left_name right_name (is_shortest left.meaning right.meaning) (rows_of left.meaning right.meaning) left right
