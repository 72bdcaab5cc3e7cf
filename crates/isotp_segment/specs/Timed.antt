-- Canonical frames as a trace: in lines one after another, each a millisecond after the one before.
use Rattle.std.specs.Prelude.{ℕ, ◌+◌, ◌≤◌, List, [], ◌∷◌, length}
use Rattle.std.specs.List.{flat_map}
use Rattle.direction.specs.Dir.{Message}
use Rattle.direction.specs.declared.Dir.{Dir}
use Rattle.can_log.specs.declared.frame.Id.{Id}
use Rattle.can_log.specs.declared.frame.Kind.TheVariants.{Classic}
use Rattle.isotp_receive.specs.Channels.{channel_of}
use Rattle.isotp_receive.specs.Trace.{Entry}
use Rattle.isotp_segment.specs.CanonicalFrames.{canonical_frames}

-- frames under the identifiers of their directions, the first in this line and at this time
abbrev pub timed : (Dir → Id) → ℕ → ℕ → List (Dir × List ℕ) → List Entry
timed identifier line micros [] = []
timed identifier line micros (frame ∷ frames) =
    record {
      line = line;
      micros = micros;
      channel = channel_of frame.0;
      frame = record { id = identifier frame.0; kind = Classic; bytes = frame.1 };
    }
    ∷ timed identifier (line + 1) (micros + 1000) frames

-- a message that has canonical frames
pub record HasFrames (limit : ℕ) (message : Message) : Type 0 where
  pub some : 1 ≤ length message.1
  pub fits : length message.1 ≤ limit

-- the frames of messages, one message after another
abbrev pub all_frames : ℕ → List Message → List (Dir × List ℕ)
all_frames limit messages = flat_map (λ message. canonical_frames limit message.0 message.1) messages
