-- The text that is gathered is the one that was written.
use Rattle.std.proofs.Common.{subst}
use Rattle.trace_io.specs.Written.{HasWritten}
use Rattle.trace_run.proofs.sheet.write_out.Goals as goal

pub returns-clause-taken : goal.returns-clause-taken
returns-clause-taken g c =
    let W = g.W.Target in
    subst (λ text. HasWritten c.write_all-result.result (W.taken c.args.target.now) text
    (W.taken c.write_all-result.new.target)) c.as_slice.ensures.value
    c.write_all-result.ensures.taken
