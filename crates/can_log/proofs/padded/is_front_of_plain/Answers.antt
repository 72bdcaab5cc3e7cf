use Rattle.std.proofs.Common.{arith}
use Rattle.can_log.proofs.PaddedLines.{padded_completes}
use Rattle.can_log.proofs.padded.is_front_of_plain.Goals as goal

pub returns-then-end-lt-POINT : goal.returns-then-end-lt-POINT
returns-then-end-lt-POINT c =
    padded_completes c.args.line.now c.args.bytes.now c.in-Some.completion.now _ _ c.plain_line.result c.is_some.result c.requires c.in-Some.ensures.clean
    c.in-Some.ensures.few (omega arith) c.put_line.ensures c.copy_from_slice.ensures.after c.plain_line.ensures.line c.plain_line.ensures.legal c.is_some.ensures

pub returns : goal.returns
returns c =
    padded_completes c.args.line.now c.args.bytes.now c.in-Some.completion.now _ _ c.plain_line-2.result c.is_some-2.result c.requires c.in-Some.ensures.clean
    c.in-Some.ensures.few (omega arith) c.put_line.ensures c.copy_from_slice.ensures.after c.plain_line-2.ensures.line c.plain_line-2.ensures.legal
    c.is_some-2.ensures
