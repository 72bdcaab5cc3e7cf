-- Why a frame has no layout: the faults in their order of precedence, each with the fact that it stands for.
use Rattle.std.specs.Prelude.{◌⊎◌, ◌/◌, ◌%◌, ◌^◌, ◌≡◌, ℕ, ◌<◌, ◌≤◌, IsFalse, List, [], ◌∷◌, length}
use Rattle.can_log.specs.Frame.{FrameValue}
use Rattle.can_log.specs.declared.frame.Kind.TheVariants as kind
use Rattle.isotp_pdu.specs.declared.PduFault.{PduFault}
use Rattle.isotp_pdu.specs.declared.PduFault.TheVariants as fault
use Rattle.isotp_pdu.specs.Layout.{Spells, is_can_dl, first_byte, least_first, single, first}

-- the place of a fault in that order: the lower is answered
abbrev pub precedence : PduFault → ℕ
precedence fault.Remote = 1
precedence fault.FrameLength = 2
precedence fault.Empty = 3
precedence fault.UnknownKind = 4
precedence fault.SingleLength = 5
precedence fault.FirstLength = 6
precedence fault.FlowShort = 7
precedence fault.FlowStatus = 8

-- the first byte has this kind in its high bits, and this number in its low ones
pub record Begins (kind low : ℕ) (bytes : List ℕ) : Type 0 where
  pub rest : List ℕ
  pub four_bits : low < 16
  pub parts : bytes ≡ first_byte kind low ∷ rest

-- the fault applies to the frame
abbrev pub Applies : PduFault → FrameValue → Type 0
-- a remote frame has no data
Applies fault.Remote frame = frame.kind ≡ kind.Remote
-- no CAN frame has this many bytes
Applies fault.FrameLength frame = IsFalse (is_can_dl (length frame.bytes))
-- a frame without bytes has no kind
Applies fault.Empty frame = frame.bytes ≡ []
-- single, first and consecutive frames and flow control are the kinds 0 to 3
Applies fault.UnknownKind frame = (kind : ℕ) × (low : ℕ) × (3 < kind) × Begins kind low frame.bytes
-- a single frame whose bytes spell no message
Applies fault.SingleLength frame = (low : ℕ) × Begins 0 low frame.bytes × ((message : List ℕ) → ¬ Spells frame.bytes (single message))
-- a first frame whose bytes announce no length that a first frame of theirs may (`AnnouncesWrongly` says in which ways)
Applies fault.FirstLength frame =
    (low : ℕ) × Begins 1 low frame.bytes
    × ((announced rx_dl : ℕ) (data_bytes : List ℕ) → ¬ Spells frame.bytes (first announced rx_dl data_bytes))
-- flow control without room for block size and separation time
Applies fault.FlowShort frame = (low : ℕ) × Begins 3 low frame.bytes × (length frame.bytes < 3)
-- continue, wait and overflow are the statuses 0 to 2
Applies fault.FlowStatus frame = (low : ℕ) × Begins 3 low frame.bytes × (2 < low)

-- What a first frame has wrong: it has fewer than 8 bytes; or its 12 bits announce less than a first frame of its length
-- may; or they are 0, and its 32 bits announce what 12 bits hold.
abbrev pub AnnouncesWrongly : List ℕ → Type 0
AnnouncesWrongly bytes =
    (length bytes < 8)
    ⊎ (((announced : ℕ) × (data_bytes : List ℕ) × (0 < announced) × (announced < least_first (length bytes))
    × (bytes ≡ first_byte 1 (announced / 256) ∷ (announced % 256) ∷ data_bytes))
    ⊎ ((announced : ℕ) × (data_bytes : List ℕ) × (announced ≤ 4095)
    × (bytes ≡ first_byte 1 0 ∷ 0
    ∷ (announced / 2 ^ 24) ∷ (announced / 2 ^ 16 % 256) ∷ (announced / 2 ^ 8 % 256) ∷ (announced % 256) ∷ data_bytes)))

-- the fault that the frame is answered with
pub record IsFault (e : PduFault) (frame : FrameValue) : Type 0 where
  pub applies : Applies e frame
  pub lowest : (other : PduFault) → Applies other frame → precedence e ≤ precedence other
