use Rattle.std.proofs.Common.{arith}
use Rattle.byte_columns.proofs.column.ByteColumns.line_count.Goals as goal

pub overflow_add-result : goal.overflow_add-result
overflow_add-result c = omega (arith, c.columns_in_lines.ensures.few)

pub returns-clause-few : goal.returns-clause-few
returns-clause-few c = omega (arith, c.columns_in_lines.ensures.few)
