-- The rows are those of the items of both sessions that are kept.
use Rattle.std.proofs.Common.{◌∙◌}
use Rattle.uds_difference.specs.Rows.{is_shortest, rows_of}
use Rattle.trace_pair.specs.Sessions.{values_in}
use Rattle.trace_pair.proofs.aligned.Aligned.of.Goals as goal

pub invariant_of-result : goal.invariant_of-result
invariant_of-result c = (
  c.in_ok-difference.ensures.rows ∙ (λ i. rows_of (values_in (c.left.ensures i)) (values_in (c.right.ensures i))),
  c.in_ok-difference.ensures.shortest ∙ (λ i. is_shortest (values_in (c.left.ensures i)) (values_in (c.right.ensures i))),
)
