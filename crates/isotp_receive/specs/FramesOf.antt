-- The frames that make a message which a trace delivers, and how a recording gives them to its messages.
use Rattle.std.specs.Prelude.{◌≡◌, ◌<◌, ◌≤◌, ◌↔◌, ℕ, List, [], ◌∷◌, ◌++◌, Result, Ok, Err, ⊤}
use Rattle.std.specs.List.{AllByRecursion}
use Rattle.isotp_receive.specs.declared.channel.Channel.{Channel}
use Rattle.isotp_pdu.specs.Layout.{Layout}
use Rattle.isotp_pdu.specs.Layout as layout
use Rattle.isotp_receive.specs.declared.event.Reason.{Reason}
use Rattle.isotp_receive.specs.Trace.{Entry, At, layout_in, SingleFrameAt, ConsecutiveFrameAt}
use Rattle.isotp_receive.specs.Delivers.{Completes}
use Rattle.isotp_receive.specs.Recording.{Transfer, IsIn, IsGiven, last_or}

-- at `place` is a consecutive frame of d, after the position `begun` and at `position` at the latest
pub record IsConsecutiveWithin (T : List Entry) (d : Channel) (begun position place : ℕ) : Type 0 where
  pub later : begun < place
  pub within : place ≤ position
  pub next : ConsecutiveFrameAt T d place

-- The positions are those of the frames that make the message of d: of the single frame that delivers it; or of the first
-- frame of the reception that the last of them completes with it, and of all consecutive frames of d since
-- (ISO 15765-2, section 9.6).
pub data AreFramesOf (limit : ℕ) (T : List Entry) (d : Channel) (message : List ℕ) : List ℕ → Type 0 where
  alone : {position : ℕ} → SingleFrameAt T d position message → AreFramesOf limit T d message (position ∷ [])
  together : {begun : ℕ} {positions : List ℕ}
      (completed : Completes limit T (last_or begun positions) d message) → completed.fit.begun ≡ begun
      → ((place : ℕ) → IsIn place positions ↔ IsConsecutiveWithin T d begun (last_or begun positions) place)
      → AreFramesOf limit T d message (begun ∷ positions)

-- each message is given the positions of the frames that make it
abbrev pub AreGivenTheirFrames : ℕ → List Entry → List Transfer → Type 0
AreGivenTheirFrames limit T transfers =
    AllByRecursion (λ transfer. AreFramesOf limit T transfer.channel transfer.message transfer.positions) transfers

-- a single frame, a first frame or a consecutive frame
abbrev pub CarriesMessage : Result Layout Reason → Type 0
CarriesMessage (Ok (layout.single message)) = ⊤
CarriesMessage (Ok (layout.first len rx_dl bytes)) = ⊤
CarriesMessage (Ok (layout.consecutive sequence_number can_dl bytes)) = ⊤
CarriesMessage (Ok (layout.flow_control status)) = ⊥
CarriesMessage (Err fault) = ⊥

-- exactly one of the messages is given the position
pub record IsGivenOnce (position : ℕ) (transfers : List Transfer) : Type 0 where
  pub before : List Transfer
  pub transfer : Transfer
  pub after : List Transfer
  pub splits : transfers ≡ before ++ transfer ∷ after
  pub given : IsIn position transfer.positions
  pub none_before : IsGiven position before → ⊥
  pub none_after : IsGiven position after → ⊥

-- each single, first and consecutive frame of the trace belongs to exactly one of the messages
abbrev pub EachBelongsOnce : List Entry → List Transfer → Type 0
EachBelongsOnce T transfers =
    (position : ℕ) (e : Entry) → At T position e → CarriesMessage (layout_in e) → IsGivenOnce position transfers
