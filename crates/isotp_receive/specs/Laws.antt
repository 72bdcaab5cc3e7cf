-- What the public laws of the receptions say.
use Rattle.std.specs.Prelude.{◌≡◌, ◌<◌, ◌≤◌, ℕ, ◌+◌, ◌%◌, ◌++◌, ◌∷◌, [], ◌↔◌, List, length, Some, None, IsTrue}
use Rattle.direction.specs.Dir.{Message}
use Rattle.isotp_pdu.specs.Reading.{layout_of}
use Rattle.isotp_receive.specs.declared.channel.Channel.{Channel}
use Rattle.isotp_receive.specs.declared.channel.Channel.TheVariants.{Functional}
use Rattle.isotp_receive.specs.Trace.{Entry, At, FirstFrame, first, role}
use Rattle.isotp_receive.specs.Places.{bytes_in_first, bytes_before, IsConsecutiveCount, FitsAs}
use Rattle.isotp_receive.specs.OnTime.{IsReference, IsOnTime}
use Rattle.isotp_receive.specs.StandingReception.{StandingReception, carried_after, fits_length, stands, receptions_after}
use Rattle.isotp_receive.specs.OpenReception.{IsOpenAt, IsStandingAt}
use Rattle.isotp_receive.specs.Delivers.{Delivers, AreDelivered}
use Rattle.isotp_receive.specs.Verdict.{EventValue, message, told_to_all, verdict, messages}
use Rattle.isotp_receive.specs.VerdictTable.{HasVerdict}

-- what stands after T is what is known of the reception that is open there, whatever follows
abbrev pub WhatStandsIsOpen : Type 0
WhatStandsIsOpen =
    (limit : ℕ) (T rest : List Entry) (d : Channel) (standing : StandingReception) → stands limit d T ≡ Some standing
    → IsStandingAt limit (T ++ rest) d (length T) standing

-- and what is open there stands
abbrev pub WhatIsOpenStands : Type 0
WhatIsOpenStands =
    (limit : ℕ) (T rest : List Entry) (d : Channel) (begun number : ℕ) (reception : IsOpenAt limit (T ++ rest) d begun number (length T))
    → (standing : StandingReception) × (stands limit d T ≡ Some standing)
    × (standing.line ≡ reception.begins.start.line) × (standing.len ≡ reception.begins.start.len) × (standing.taken ≡ number)

-- What stands is fixed by its definition: a record of all that is known of the reception that is open there is what stands.
abbrev pub WhatStandsIsFixed : Type 0
WhatStandsIsFixed =
    (limit : ℕ) (T rest : List Entry) (d : Channel) (standing : StandingReception) → IsStandingAt limit (T ++ rest) d (length T) standing
    → stands limit d T ≡ Some standing

-- at most one reception of a channel is open at a position
abbrev pub OneIsOpen : Type 0
OneIsOpen =
    (limit : ℕ) (T : List Entry) (d : Channel) (begun number begun_too number_too position : ℕ)
    → IsOpenAt limit T d begun number position → IsOpenAt limit T d begun_too number_too position
    → (begun ≡ begun_too) × (number ≡ number_too)

-- a frame has at most one reference frame, from which N_Cr runs
abbrev pub OneReference : Type 0
OneReference =
    (T : List Entry) (d : Channel) (begun position reference other : ℕ)
    → IsReference T d begun position reference → IsReference T d begun position other → reference ≡ other

-- a frame is on time exactly where it comes at most 1,000,000 microseconds after its reference frame (ISO 15765-2, section 9.8)
abbrev pub OnTimeIsWithinASecond : Type 0
OnTimeIsWithinASecond =
    (T : List Entry) (d : Channel) (begun position reference : ℕ) (entry last : Entry)
    → IsReference T d begun position reference → At T reference last
    → IsOnTime T d begun position entry ↔ (entry.micros ≤ last.micros + 1000000)

-- fewer bytes are kept of a message under way than it has, and it has at most the limit
abbrev pub KeepsFewerBytes : Type 0
KeepsFewerBytes =
    (limit : ℕ) (T : List Entry) (d : Channel) (standing : StandingReception) → stands limit d T ≡ Some standing
    → (standing.len ≤ limit) × (length standing.bytes < standing.len)

-- the verdict on a frame is a message exactly where the trace delivers that message with the frame
abbrev pub AMessageIsDelivered : Type 0
AMessageIsDelivered =
    (limit : ℕ) (T : List Entry) (e : Entry) (bytes : List ℕ)
    → ((verdict limit T e).verdict ≡ message bytes) ↔ Delivers limit (T ++ e ∷ []) (length T) e.channel bytes

-- so the messages of a trace are exactly those that its frames deliver, in order
abbrev pub MessagesAreDelivered : Type 0
MessagesAreDelivered = (limit : ℕ) (T : List Entry) (M : List Message) → AreDelivered limit T M ↔ (messages limit T ≡ M)

-- what the places say of the bytes that have come is what the reception counts
abbrev pub PlacesAgreeOnBytes : Type 0
PlacesAgreeOnBytes =
    (d : Channel) (e : Entry) (start : FirstFrame) (number : ℕ) → role d e ≡ first start
    → carried_after start number ≡ bytes_before (bytes_in_first e.frame.bytes) start.rx_dl number

-- a consecutive frame fits as the next after `number` others where it has the sequence number and a length that the
-- reception takes
abbrev pub PlacesAgreeOnFit : Type 0
PlacesAgreeOnFit =
    (in_first rx_dl len count number sequence_number can_dl : ℕ) → IsConsecutiveCount in_first rx_dl len count → number < count
    → FitsAs in_first rx_dl len count (number + 1) sequence_number can_dl
    ↔ (sequence_number ≡ (number + 1) % 16) × IsTrue (fits_length len rx_dl (bytes_before in_first rx_dl number) can_dl)

-- the table has one verdict for each frame, and that is the verdict
abbrev pub TheVerdictIsTabled : Type 0
TheVerdictIsTabled = (limit : ℕ) (T : List Entry) (e : Entry) (event : EventValue) → HasVerdict limit T e event ↔ (verdict limit T e ≡ event)

-- What is known of a frame to all units: what stands is what stood, nothing stands on its channel, and what it does is told
-- by its layout alone.
pub record StandsAlone (limit : ℕ) (T : List Entry) (e : Entry) : Type 0 where
  pub untouched : receptions_after limit (T ++ e ∷ []) ≡ receptions_after limit T
  pub none_stands : stands limit Functional T ≡ None
  pub alone : verdict limit T e ≡ record { ended = None; verdict = told_to_all (layout_of e.frame) }

-- so it is of each of them
abbrev pub FunctionalFramesStandAlone : Type 0
FunctionalFramesStandAlone = (limit : ℕ) (T : List Entry) (e : Entry) → e.channel ≡ Functional → StandsAlone limit T e
