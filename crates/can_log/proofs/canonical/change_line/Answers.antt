use Rattle.std.proofs.Common.{arith}
use Rattle.can_log.proofs.CanonicalLines.{line_changed}
use Rattle.can_log.proofs.canonical.change_line.Goals as goal

pub returns : goal.returns
returns c = λ n id earlier eight was.
    line_changed n c.args.clock.now id earlier c.args.data.now c.args.line.now c.write_at.new.line c.write_at-2.new.line c.front.result c.digits_of_bytes.result
    eight (omega (arith, c.fits-data)) was c.front.ensures c.digits_of_bytes.ensures
    c.write_at.ensures.written c.write_at.ensures.kept c.write_at-2.ensures.written c.write_at-2.ensures.kept
