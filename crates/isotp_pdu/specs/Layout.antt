-- What a CAN frame says under ISO 15765-2:2016, section 9.6: each layout as the bytes that it spells. Sections are of that
-- standard.
use Rattle.std.specs.Prelude.{◌≡◌, ◌≢◌, ℕ, ◌+◌, ◌-◌, ◌*◌, ◌/◌, ◌%◌, ◌^◌, ◌<◌, ◌≤◌, ◌⊎◌, Bool, ◌||◌, ◌==◌, nat_lt, IsTrue, List, [], ◌∷◌, ◌++◌, length, Result, Ok, Err, ⊤, if◌then◌else◌}
use Rattle.can_log.specs.Frame.{FrameValue}
use Rattle.can_log.specs.declared.frame.Kind.TheVariants as kind
use Rattle.isotp_pdu.specs.declared.Status.{Status}
use Rattle.isotp_pdu.specs.declared.Status.TheVariants as status
use Rattle.isotp_pdu.specs.declared.PduFault.{PduFault}
use Rattle.isotp_pdu.specs.declared.Pdu.{Pdu}
use Rattle.isotp_pdu.specs.declared.Pdu.TheVariants as pdu

-- what a frame says, apart from where its bytes lie
pub data Layout : Type 0 where
  -- the message
  single : List ℕ → Layout
  -- the announced length, RX_DL, and the first bytes of the message
  first : ℕ → ℕ → List ℕ → Layout
  -- the sequence number, CAN_DL, and the bytes after the first: the next of the message, and padding after its end
  consecutive : ℕ → ℕ → List ℕ → Layout
  -- the flow status
  flow_control : Status → Layout

-- the data lengths of a first frame, which are the values of RX_DL
abbrev pub is_rx_dl : ℕ → Bool
is_rx_dl n = n == 8 || n == 12 || n == 16 || n == 20 || n == 24 || n == 32 || n == 48 || n == 64

-- the data lengths of a CAN frame (ISO 11898-1), which are the values of CAN_DL
abbrev pub is_can_dl : ℕ → Bool
is_can_dl n = nat_lt n 8 || is_rx_dl n

-- the first byte of a frame: its kind in the high four bits, and a number below 16 in the low four
abbrev pub first_byte : ℕ → ℕ → ℕ
first_byte kind low = 16 * kind + low

-- Single frame (section 9.6.2): the length of the message in the low bits, or in a separate byte where CAN_DL is above 8;
-- then the message, and padding of any value.
abbrev pub SpellsSingle : List ℕ → List ℕ → Type 0
SpellsSingle bytes message = (padding : List ℕ) × (0 < length message)
    × (((length bytes ≤ 8) × (bytes ≡ first_byte 0 (length message) ∷ message ++ padding))
    ⊎ ((8 < length bytes) × (bytes ≡ first_byte 0 0 ∷ length message ∷ message ++ padding)))

-- the least length that a first frame announces: one more than a single frame of the same length holds
abbrev pub least_first : ℕ → ℕ
least_first rx_dl = if rx_dl == 8 then 8 else rx_dl - 1

-- First frame (section 9.6.3): the announced length in 12 bits; or these are 0, and it is in 32 bits and above 4095.
-- Then the first bytes of the message, to the end of the frame.
abbrev pub SpellsFirst : List ℕ → ℕ → List ℕ → Type 0
SpellsFirst bytes announced data_bytes =
    ((least_first (length bytes) ≤ announced) × (announced ≤ 4095)
    × (bytes ≡ first_byte 1 (announced / 256) ∷ (announced % 256) ∷ data_bytes))
    ⊎ ((4095 < announced) × (announced < 2 ^ 32)
    × (bytes ≡ first_byte 1 0 ∷ 0
    ∷ (announced / 2 ^ 24) ∷ (announced / 2 ^ 16 % 256) ∷ (announced / 2 ^ 8 % 256) ∷ (announced % 256) ∷ data_bytes))

-- the flow status in the low bits of a flow control frame
abbrev pub status_number : Status → ℕ
status_number status.Continue = 0
status_number status.Wait = 1
status_number status.Overflow = 2

-- the bytes spell the layout
abbrev pub Spells : List ℕ → Layout → Type 0
Spells bytes (single message) = SpellsSingle bytes message
Spells bytes (first announced rx_dl data_bytes) = IsTrue (is_rx_dl rx_dl) × (rx_dl ≡ length bytes) × SpellsFirst bytes announced data_bytes
-- Consecutive frame (section 9.6.4): the sequence number in the low bits, then bytes to the end of the frame.
Spells bytes (consecutive number can_dl data_bytes) = (number < 16) × (can_dl ≡ length bytes) × (bytes ≡ first_byte 2 number ∷ data_bytes)
-- Flow control (section 9.6.5): the flow status in the low bits, then block size and separation time, of any value, and padding.
Spells bytes (flow_control status) = (block_size : ℕ) × (separation_time : ℕ) × (padding : List ℕ)
    × (bytes ≡ first_byte 3 (status_number status) ∷ block_size ∷ separation_time ∷ padding)

-- a data frame of a legal length, whose bytes spell the layout
pub record HasLayout (frame : FrameValue) (layout : Layout) : Type 0 where
  pub data_frame : frame.kind ≢ kind.Remote
  pub frame_length : IsTrue (is_can_dl (length frame.bytes))
  pub spelled : Spells frame.bytes layout

-- a first frame carries less than it announces, and has one of the eight lengths
pub record IsSoundFirst (announced rx_dl : ℕ) (data_bytes : List ℕ) : Type 0 where
  pub carries_less : length data_bytes < announced
  pub in_frame : length data_bytes < rx_dl
  pub at_least : 8 ≤ rx_dl
  pub at_most : rx_dl ≤ 64
  pub one_of_eight : IsTrue (is_rx_dl rx_dl)

-- a consecutive frame has its first byte, and the rest is data
pub record IsSoundConsecutive (number can_dl : ℕ) (data_bytes : List ℕ) : Type 0 where
  pub in_frame : length data_bytes + 1 ≡ can_dl
  pub at_most : can_dl ≤ 64
  pub four_bits : number < 16

-- what the layers above need of a layout: no message is empty, and the numbers are in their ranges
abbrev pub IsSoundLayout : Layout → Type 0
IsSoundLayout (single message) = 0 < length message
IsSoundLayout (first announced rx_dl data_bytes) = IsSoundFirst announced rx_dl data_bytes
IsSoundLayout (consecutive number can_dl data_bytes) = IsSoundConsecutive number can_dl data_bytes
IsSoundLayout (flow_control status) = ⊤

-- the bytes of a message that it carries, in a consecutive frame with the padding after them
abbrev pub bytes_carried : Layout → List ℕ
bytes_carried (single message) = message
bytes_carried (first announced rx_dl data_bytes) = data_bytes
bytes_carried (consecutive number can_dl data_bytes) = data_bytes
bytes_carried (flow_control status) = []

-- a `Pdu` without where its bytes lie
abbrev pub layout_at : Pdu → Layout
layout_at (pdu.Single message) = single message.now
layout_at (pdu.First announced rx_dl bytes) = first announced rx_dl bytes.now
layout_at (pdu.Next number can_dl bytes) = consecutive number can_dl bytes.now
layout_at (pdu.Flow status) = flow_control status

-- a result of the code's `layout_of` without where its bytes lie
abbrev pub layout_seen : Result Pdu PduFault → Result Layout PduFault
layout_seen (Ok pdu) = Ok (layout_at pdu)
layout_seen (Err fault) = Err fault
