use Rattle.std.proofs.Common.{◌≡◌, ℕ, min, ap, arith, length, take}
use Rattle.byte_columns.specs.Columns.{differing, paired}
use Rattle.byte_columns.proofs.PairedPieces.{differing-byte, differing-rest}
use Rattle.byte_columns.proofs.pairs.count_differing.Goals as goal

pub bytes-preserved : goal.bytes-preserved
bytes-preserved c =
    let inv = c.bytes.invariant in
    let more = differing-byte c.args.left.now c.args.right.now c.bytes.k (omega (arith, c.bytes-test.true, c.min-both.ensures)) (omega (arith, c.bytes-test.true, c.min-both.ensures)) in
    record { so_far = omega (arith, inv.so_far, more, c.one_if_other-count.ensures.value); few = omega (arith, inv.few, c.one_if_other-count.ensures.one) }

pub returns-clause-value : goal.returns-clause-value
returns-clause-value c =
    let inv = c.bytes.invariant in
    let all = differing-rest c.args.left.now c.args.right.now in
    let end : c.bytes.k ≡ min (length c.args.left.now) (length c.args.right.now) = omega (arith, c.bytes-test.false, c.bytes.auto, c.min-both.ensures) in
    let so_far = ap (λ (n : ℕ). differing (take n (paired c.args.left.now c.args.right.now))) end in
    omega (arith, all, so_far, inv.so_far, c.min-both.ensures, c.max.ensures)

pub returns-clause-few : goal.returns-clause-few
returns-clause-few c = omega (arith, c.bytes.invariant.few, c.bytes-test.false, c.bytes.auto, c.min-both.ensures, c.max.ensures)
