-- A device of proof: which consecutive frames a message may have.
use Rattle.std.specs.Prelude.{◌≤◌, ℕ}
use Rattle.isotp_receive.specs.declared.TheConstants.{MESSAGE_LIMIT}
use Rattle.isotp_segment.specs.CanonicalFrames.{place_of}

-- consecutive frame `number` has its place in a message of this length, at the latest at the end of it
pub record HasPlace (len number : ℕ) : Type 0 where
  pub counted : 1 ≤ number
  pub place : place_of len number ≤ len
  pub limit : len ≤ MESSAGE_LIMIT
