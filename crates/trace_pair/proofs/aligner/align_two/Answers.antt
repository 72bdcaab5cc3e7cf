-- What is known of two logs that are kept is known of them side by side.
use Rattle.isotp_receive.specs.declared.TheConstants.{MESSAGE_LIMIT}
use Rattle.trace_log.specs.declared.fault.CompareFault.TheVariants.{Left, Right}
use Rattle.trace_log.specs.declared.fault.Fault.TheVariants as fault
use Rattle.trace_pair.proofs.Beside.{beside_holds, left_before, memory_is_no_read, none_written, read_beside, right_is_no_left}
use Rattle.trace_pair.proofs.OwnItems.{needed_where_refused}
use Rattle.trace_pair.proofs.aligner.align_two.Goals as goal

pub returns-clause-answer : goal.returns-clause-answer
returns-clause-answer g c = λ one other left right.
    beside_holds MESSAGE_LIMIT c.args.config.now one other c.keep_two-kept.result c.set_beside.result c.set_beside.ensures (c.keep_two-kept.ensures.answer one other left right)

pub returns-clause-unread : goal.returns-clause-unread
returns-clause-unread g c = λ why told.
    c.keep_two-kept.ensures.unread why (left_before c.keep_two-kept.result c.set_beside.result why c.set_beside.ensures told)

pub returns-clause-left_memory : goal.returns-clause-left_memory
returns-clause-left_memory g c = λ one agrees told.
    c.keep_two-kept.ensures.left_memory one agrees (left_before c.keep_two-kept.result c.set_beside.result fault.Memory c.set_beside.ensures told)

pub returns-clause-right_memory : goal.returns-clause-right_memory
returns-clause-right_memory g c = λ one other left right told.
    needed_where_refused c.items_are_the_meaning.ensures c.args.config.now one other c.keep_two-kept.result c.set_beside.result c.set_beside.ensures
    (c.keep_two-kept.ensures.answer one other left right) (c.keep_two-kept.ensures.right_memory other right) told

pub returns-clause-left_read : goal.returns-clause-left_read
returns-clause-left_read g c =
    read_beside g.A.Source (Left fault.Read) c.args.config.now.max_bytes c.keep_two-kept.result c.set_beside.result _ _ (right_is_no_left fault.Read) c.set_beside.ensures c.keep_two-kept.ensures.left_read

pub returns-clause-right_read : goal.returns-clause-right_read
returns-clause-right_read g c =
    read_beside g.B.Source (Right fault.Read) c.args.config.now.max_bytes c.keep_two-kept.result c.set_beside.result _ _ memory_is_no_read c.set_beside.ensures c.keep_two-kept.ensures.right_read

pub returns-clause-never_write : goal.returns-clause-never_write
returns-clause-never_write g c = none_written c.keep_two-kept.result c.set_beside.result c.set_beside.ensures c.keep_two-kept.ensures.never_write
