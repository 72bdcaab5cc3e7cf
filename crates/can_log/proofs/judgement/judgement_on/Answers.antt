use Rattle.std.proofs.Common.{arith}
use Rattle.can_log.proofs.LineLength.{column_of_rest}
use Rattle.can_log.proofs.judgement.judgement_on.Goals as goal

pub overflow_cast-result : goal.overflow_cast-result
overflow_cast-result c =
    let e = rw c.in-Err-Refused.field-0-is at c.in-Err-Refused.ensures in
    let r = (column_of_rest c.args.bytes.now c.in-Err-Refused.rest.now e.refused).0 in
    omega (arith, r)
