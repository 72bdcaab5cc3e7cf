use Rattle.isotp_receive.specs.declared.TheConstants.{MESSAGE_LIMIT}
use Rattle.trace_canon.proofs.Promises.{agrees_in_memory}
use Rattle.trace_difference.proofs.DifferencesInMemory.{compared_in_memory}
use Rattle.trace_difference.proofs.in_memory.compare_both.Goals as goal

pub returns : goal.returns
returns c =
    let ran = c.compare.ensures in
    let left = agrees_in_memory c.args.left.now c.new.result c.compare.new.left c.new.ensures ran.left_read.gave ran.left_read.ended in
    let right = agrees_in_memory c.args.right.now c.new-2.result c.compare.new.right c.new-2.ensures ran.right_read.gave ran.right_read.ended in
    compared_in_memory MESSAGE_LIMIT c.args.config.now c.args.left.now c.args.right.now c.compare.result ran.left_read.failed ran.right_read.failed ran.never_write
    (ran.left_memory c.args.left.now left) (ran.right_memory c.args.right.now right) (ran.answer c.args.left.now c.args.right.now left right)
