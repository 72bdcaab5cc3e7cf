-- Where the bytes of a message are in its frames (ISO 15765-2, section 9.6).
use Rattle.std.specs.Prelude.{◌≡◌, ◌<◌, ◌≤◌, ℕ, ◌+◌, ◌-◌, ◌*◌, ◌%◌, List, [], ◌∷◌, length, slice_index, slice_range, ◌==◌, if◌then◌else◌}
use Rattle.isotp_receive.specs.declared.channel.Channel.{Channel}
use Rattle.isotp_receive.specs.Trace.{Entry, At, FrameRole, single, first, consecutive, continue_or_wait, overflow, no_part, role}

-- how many bytes of its message a first frame of these bytes holds, with 12 bits of length or with the escape
-- (section 9.6.3)
abbrev pub bytes_in_first : List ℕ → ℕ
bytes_in_first bytes = if (slice_index bytes 0 % 16) * 256 + slice_index bytes 1 == 0 then length bytes - 6 else length bytes - 2

-- how many bytes of the message come before the next consecutive frame: in the first frame, and RX_DL - 1 in each of
-- this number of others (section 9.6.4)
abbrev pub bytes_before : ℕ → ℕ → ℕ → ℕ
bytes_before in_first rx_dl number = in_first + number * (rx_dl - 1)

-- the least count of consecutive frames that hold what the first frame leaves (section 9.6.4)
pub record IsConsecutiveCount (in_first rx_dl len count : ℕ) : Type 0 where
  pub enough : len ≤ bytes_before in_first rx_dl count
  pub fewer : (number : ℕ) → number < count → bytes_before in_first rx_dl number < len

-- A consecutive frame of this sequence number and CAN_DL fits as number `number` of `count`: it is as long as the first
-- frame, or the last one, which holds what is missing and is no longer (section 9.6.4).
pub record FitsAs (in_first rx_dl len count number sequence_number can_dl : ℕ) : Type 0 where
  -- counted from 1
  pub from_one : 1 ≤ number
  pub to_last : number ≤ count
  pub in_sequence : sequence_number ≡ number % 16
  pub full : number < count → can_dl ≡ rx_dl
  pub last_low : number ≡ count → 1 + (len - bytes_before in_first rx_dl (count - 1)) ≤ can_dl
  pub last_high : number ≡ count → can_dl ≤ rx_dl

-- 1 for a consecutive frame on the channel, 0 for any other
abbrev pub consecutive_by : FrameRole → ℕ
consecutive_by (consecutive sequence_number can_dl bytes) = 1
consecutive_by (single message) = 0
consecutive_by (first start) = 0
consecutive_by continue_or_wait = 0
consecutive_by overflow = 0
consecutive_by no_part = 0

-- how many of the frames are consecutive frames of d
abbrev pub consecutive_frames_in : Channel → List Entry → ℕ
consecutive_frames_in d [] = 0
consecutive_frames_in d (e ∷ rest) = consecutive_by (role d e) + consecutive_frames_in d rest

-- the frames strictly between two positions
abbrev pub between : List Entry → ℕ → ℕ → List Entry
between T begun position = slice_range T (begun + 1) position

-- the entry is at `position`, and is consecutive frame number `number` of d after the position `begun`
pub record IsConsecutive (T : List Entry) (d : Channel) (begun number position : ℕ) (entry : Entry) : Type 0 where
  pub later : begun < position
  pub stands : At T position entry
  pub kind : consecutive_by (role d entry) ≡ 1
  pub counted : number ≡ consecutive_frames_in d (between T begun position) + 1

-- Each byte of the message is at its place, where its first frame, of CAN_DL `rx_dl`, is at `begun`: the first of the
-- bytes in that frame, after the length, the others in the consecutive frames of d after it, `rx_dl - 1` in each, after
-- the sequence number.
pub record AtPlaces (T : List Entry) (d : Channel) (begun : ℕ) (entry : Entry) (rx_dl : ℕ) (message : List ℕ) : Type 0 where
  pub in_first : (place : ℕ) → place < length message → place < bytes_in_first entry.frame.bytes
      → slice_index message place ≡ slice_index entry.frame.bytes (rx_dl - bytes_in_first entry.frame.bytes + place)
  pub in_consecutive : (before offset : ℕ) → offset < rx_dl - 1
      → bytes_in_first entry.frame.bytes + (before * (rx_dl - 1) + offset) < length message
      → (position : ℕ) × (carrier : Entry) × IsConsecutive T d begun (before + 1) position carrier
      × (slice_index message (bytes_in_first entry.frame.bytes + (before * (rx_dl - 1) + offset)) ≡ slice_index carrier.frame.bytes (1 + offset))
