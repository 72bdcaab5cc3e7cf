-- Control information and bytes over padding, where they leave room for it and where they don't.
use Rattle.std.proofs.Common.{arith, rules}
use Rattle.isotp_segment.proofs.Padding.{put_mid-whole, put_mid-padded}
use Rattle.isotp_segment.proofs.frame.padded.Goals as goal

pub returns-then-bytes-place : goal.returns-then-bytes-place
returns-then-bytes-place c = put_mid-whole c.args.control.now c.args.bytes.now _ _ c.requires (omega arith) (search rules) (search rules)

pub returns-else-bytes-place : goal.returns-else-bytes-place
returns-else-bytes-place c =
    put_mid-padded c.args.control.now c.args.bytes.now _ _ _ c.requires (omega arith) (omega arith) (search rules) (search rules)
