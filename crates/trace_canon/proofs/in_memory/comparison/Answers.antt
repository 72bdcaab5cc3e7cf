-- Neither source is a device: so a fault is why a log is refused, or refused memory.
use Rattle.std.proofs.Common.{Ok, Err, subst, sym}
use Rattle.isotp_receive.specs.declared.TheConstants.{MESSAGE_LIMIT}
use Rattle.trace_canon.specs.InMemory.{ComparesWithCounts}
use Rattle.trace_canon.specs.declared.in_memory.CountedComparison.{CountedComparison}
use Rattle.trace_log.proofs.Promises.{handed_on}
use Rattle.trace_canon.proofs.GatheredTexts.{agrees_in_memory}
use Rattle.trace_canon.proofs.InMemories.{comparison_in_memory}
use Rattle.trace_canon.proofs.in_memory.comparison.Goals as goal

pub returns : goal.returns
returns c = record {
  answer =
      let ran = c.in_ok-compared.ensures in
      let left = agrees_in_memory c.args.left.now c.new.result c.compare.new.left c.new.ensures ran.left_read.gave ran.left_read.ended in
      let right = agrees_in_memory c.args.right.now c.new-2.result c.compare.new.right c.new-2.ensures ran.right_read.gave ran.right_read.ended in
      subst (λ (counted : CountedComparison). ComparesWithCounts MESSAGE_LIMIT c.args.config.now c.args.left.now
      c.args.right.now (Ok counted)) (sym c.counted_comparison.ensures)
      (comparison_in_memory MESSAGE_LIMIT c.args.config.now c.args.left.now c.args.right.now (Ok c.in_ok-compared.compared)
      ran.left_read.failed ran.right_read.failed ran.never_write
      (ran.left_memory c.args.left.now left) (ran.right_memory c.args.right.now right)
      (ran.answer c.args.left.now c.args.right.now left right));
}

pub returns-in_err-compared : goal.returns-in_err-compared
returns-in_err-compared c =
    let ran = c.in_err-compared.ensures in
    let left = agrees_in_memory c.args.left.now c.new.result c.compare.new.left c.new.ensures ran.left_read.gave ran.left_read.ended in
    let right = agrees_in_memory c.args.right.now c.new-2.result c.compare.new.right c.new-2.ensures ran.right_read.gave ran.right_read.ended in
    rw (handed_on c.from_residual.result _ c.from_residual.ensures.1)
    (record {
      answer =
          comparison_in_memory MESSAGE_LIMIT c.args.config.now c.args.left.now c.args.right.now
          (Err c.in_err-compared.field-0.0) ran.left_read.failed ran.right_read.failed ran.never_write
          (ran.left_memory c.args.left.now left) (ran.right_memory c.args.right.now right)
          (ran.answer c.args.left.now c.args.right.now left right);
    })
