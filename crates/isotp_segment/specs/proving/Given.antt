-- A device of proof: what is known inside an iterator over the frames of a message. Callers see the frames that are
-- left, and nothing of this.
use Rattle.std.specs.Prelude.{◌≡◌, ◌≤◌, ℕ, List, length}
use Rattle.isotp_receive.specs.declared.TheConstants.{MESSAGE_LIMIT}
use Rattle.isotp_segment.specs.CanonicalFrames.{frame_count}

-- the message has `count` frames, of which the first `number` were given
pub record HasGiven (message : List ℕ) (count number : ℕ) : Type 0 where
  pub some : 1 ≤ length message
  pub limit : length message ≤ MESSAGE_LIMIT
  pub counted : count ≡ frame_count (length message)
  pub within : number ≤ count
