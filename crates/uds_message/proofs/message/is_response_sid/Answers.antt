-- Bit 6 by a mask is bit 6 by its place.
use Rattle.std.proofs.Common.{◌≡◌, ℕ, ◌*◌, ◌<◌, not, nat_eq, ◌==◌, arith, bit_and}
use Rattle.std.specs.Int.{bit_at}
use Rattle.std.proofs.lemmas.Nat.Bits.{and_pow, bit_at-lt}
use Rattle.uds_message.proofs.message.is_response_sid.Goals as goal

mask_is_bit : (m b : ℕ) → m ≡ b * 64 → b < 2 → not (nat_eq m 0) ≡ (b == 1)
mask_is_bit m b e h = grind arith

pub returns : goal.returns
returns c =
    let s = c.args.sid in
    mask_is_bit (bit_and s 64) (bit_at s 6) (and_pow s 6) (bit_at-lt s 6)
