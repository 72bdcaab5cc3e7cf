-- The first four bytes and the last four lie in eight lanes.
use lib.Lanes.{chunk}
use Rattle.std.proofs.Common.{◌≡◌, ◌-◌, ◌++◌, true, length, length-append, arith}
use Rattle.std.specs.Prelude.{nat_le}
use Rattle.std.proofs.lemmas.Bool.{le-leb}
use Rattle.std.proofs.lemmas.Simd.{length-chunk, pick_l_whole}
use Rattle.isotp_segment.proofs.single.ends.Goals as goal

pub returns-then-len-ge4 : goal.returns-then-len-ge4
returns-then-len-ge4 c =
    let message = c.args.message.now in
    let before = length message - 4 in
    let enough : nat_le 4 (length message) ≡ true = le-leb 4 (length message) c.if-len-ge4.true in
    let eight = length-append (chunk 0 4 message) (chunk before 4 message) in
    rw enough (pick_l_whole 0 (chunk 0 4 message ++ chunk before 4 message) 8
    (omega (arith, eight, length-chunk 0 4 message c.if-len-ge4.true, length-chunk before 4 message (omega arith))))
