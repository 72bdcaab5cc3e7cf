use Rattle.line_text.proofs.Promises.{name_writes_no_control, clipped_writes_no_control, as_written_writes_no_control}
use Rattle.line_text.proofs.laws.no_control_is_written.Goals as goal

pub returns : goal.returns
returns c = record { name = name_writes_no_control; clipped = clipped_writes_no_control; as_written = as_written_writes_no_control }
