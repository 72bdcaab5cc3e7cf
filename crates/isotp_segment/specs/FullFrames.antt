-- What `Segments::next_full` must not miss. No promise of the program is made of it.
use Rattle.std.specs.Prelude.{◌≡◌, ◌≢◌, ℕ, ◌≤◌, ◌⊎◌, List, ◌∷◌, ◌++◌, length, slice_get, Some}
use Rattle.direction.specs.declared.Dir.{Dir}
use Rattle.isotp_segment.specs.CanonicalFrames.{padding, consecutive_control}

-- The next of these frames is a consecutive one of this sender that its message fills: another frame comes behind it,
-- or it does not end in padding. (Where a message itself ends in a byte of that value, its last frame does not tell.)
pub record FullFrameIsNext (sender : Dir) (frames : List (Dir × List ℕ)) : Type 0 where
  pub number : ℕ
  pub part : List ℕ
  pub later : List (Dir × List ℕ)
  pub next : frames ≡ (sender, consecutive_control number ++ part) ∷ later
  pub full : (1 ≤ length later) ⊎ (slice_get part 6 ≢ Some padding)
