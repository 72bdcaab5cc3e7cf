-- What is heard of a log: every frame, whatever its identifier.
use Rattle.std.specs.Prelude.{List, [], ◌∷◌, Option, Some, None}
use Rattle.can_log.specs.Frame.{FrameValue}
use Rattle.can_log.specs.declared.frame.Stamped.{Stamped}

-- the frames of lines that mean this, whatever their identifiers
unfoldable pub frames_in : List (Option Stamped) → List FrameValue
frames_in [] = []
frames_in (None ∷ meanings) = frames_in meanings
frames_in (Some stamped ∷ meanings) = stamped.frame ∷ frames_in meanings
