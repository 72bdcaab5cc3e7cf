use Rattle.std.proofs.Common.{◌∙◌}
use Rattle.can_log.proofs.CanonicalLines.{end_of_digits}
use Rattle.can_log.proofs.canonical.line_end.Goals as goal

pub returns : goal.returns
returns c = end_of_digits c.args.data.now c.copy_from_slice.new.self (c.copy_from_slice.ensures.after ∙ c.digits_of_bytes.ensures)
