-- The messages that a trace delivers (ISO 15765-2, section 9.6), by looking back over the whole trace.
use Rattle.std.specs.Prelude.{◌≡◌, ℕ, List, [], ◌∷◌, ◌++◌, length}
use Rattle.direction.specs.Dir.{Message}
use Rattle.isotp_receive.specs.declared.channel.Channel.{Channel}
use Rattle.isotp_receive.specs.Channels.{dir_of}
use Rattle.isotp_receive.specs.Trace.{Entry, SingleFrameAt}
use Rattle.isotp_receive.specs.Places.{AtPlaces}
use Rattle.isotp_receive.specs.Fit.{last}
use Rattle.isotp_receive.specs.OpenReception.{FitsOpen}

-- the frame at `position` is the last consecutive frame of the reception that is open there, and this is its message
pub record Completes (limit : ℕ) (T : List Entry) (position : ℕ) (d : Channel) (message : List ℕ) : Type 0 where
  pub fit : FitsOpen limit T d position last
  -- the message has the announced length, and its bytes are at their places
  pub size : length message ≡ fit.is_open.begins.start.len
  pub places : AtPlaces T d fit.begun fit.is_open.begins.entry fit.is_open.begins.start.rx_dl message

-- the frame at `position` delivers the message of d: a single frame that holds it, or the last frame of its reception
pub data Delivers (limit : ℕ) (T : List Entry) (position : ℕ) (d : Channel) (message : List ℕ) : Type 0 where
  in_one_frame : SingleFrameAt T d position message → Delivers limit T position d message
  in_frames : Completes limit T position d message → Delivers limit T position d message

-- the messages that the frame e delivers after the frames `past`: one of its side, or none
abbrev pub AreDeliveredBy : ℕ → List Entry → Entry → List Message → Type 0
AreDeliveredBy limit past e [] = (bytes : List ℕ) → ¬ Delivers limit (past ++ e ∷ []) (length past) e.channel bytes
AreDeliveredBy limit past e (message ∷ []) = (message.0 ≡ dir_of e.channel) × Delivers limit (past ++ e ∷ []) (length past) e.channel message.1
AreDeliveredBy limit past e (message ∷ other ∷ others) = ⊥

-- the messages that each of these frames delivers, in order, where `past` came before them
abbrev pub AreDeliveredAfter : ℕ → List Entry → List Entry → List Message → Type 0
AreDeliveredAfter limit past [] M = M ≡ []
AreDeliveredAfter limit past (e ∷ rest) M =
    (own : List Message) × (others : List Message) × (M ≡ own ++ others) × AreDeliveredBy limit past e own × AreDeliveredAfter limit (past ++ e ∷ []) rest others

-- the messages that the trace delivers, in order
abbrev pub AreDelivered : ℕ → List Entry → List Message → Type 0
AreDelivered limit T M = AreDeliveredAfter limit [] T M
