-- One byte more is skipped.
use Rattle.std.proofs.Common.{ap, ◌∙◌}
use Rattle.shown_bytes.specs.Data.{marks_behind}
use Rattle.shown_bytes.specs.proving.Marking.{marks_in}
use Rattle.shown_bytes.proofs.MarkedBytes.{skipped_more}
use Rattle.shown_bytes.proofs.marks.Marks.skip.Goals as goal

pub bytes-preserved : goal.bytes-preserved
bytes-preserved c =
    c.split_first-is_masked.ensures.behind ∙ ap marks_behind c.bytes.invariant ∙ skipped_more (marks_in c.args.self) c.bytes._at
