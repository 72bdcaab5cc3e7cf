-- Devices of proof: what was heard of the lines of a log.
use Rattle.std.specs.Prelude.{◌≡◌, ℕ, List, length, Option}
use Rattle.can_log.specs.declared.frame.Stamped.{Stamped}
use Rattle.trace_canon.specs.Heard.{frames_in}
use Rattle.uds_find.specs.Finding.{FinderValue, StandsAfter}

-- All lines that mean this were heard.
pub record HasHeard (meanings : List (Option Stamped)) (finder : FinderValue) (lines : ℕ) : Type 0 where
  pub stands : StandsAfter (frames_in meanings) finder
  pub counted : lines ≡ length meanings
