use Rattle.can_log.proofs.PaddedLines.{put_both}
use Rattle.can_log.proofs.padded.put_line.Goals as goal

pub returns : goal.returns
returns c = rw c.requires.feeds (put_both c.args.line.now c.args.bytes.now _ _ 195 c.copy_from_slice.ensures.after c.copy_from_slice-2.ensures.after)
