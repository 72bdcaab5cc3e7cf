-- The canonical frames of a message: classic frames of 8 bytes with normal addressing (ISO 15765-2:2016, section 9.6),
-- each by its number and by the place in the message where its bytes begin. Sections are of that standard.
use Rattle.std.specs.Prelude.{ℕ, ◌+◌, ◌-◌, ◌/◌, ◌%◌, ◌^◌, List, [], ◌++◌, ◌∷◌, length, map, take, drop, replicate}
use Rattle.std.specs.Prelude.{nat_le, ◌==◌, ◌&&◌, if◌then◌else◌}
use Rattle.std.specs.List.{range_with_len}
use Rattle.direction.specs.Dir.{other_direction}
use Rattle.direction.specs.declared.Dir.{Dir}
use Rattle.isotp_pdu.specs.declared.Status.TheVariants.{Continue}
use Rattle.isotp_pdu.specs.Layout.{first_byte, status_number}
use Rattle.isotp_receive.specs.Places.{bytes_before}

-- the byte that pads a frame
abbrev pub padding : ℕ
padding = 0xCC

-- The 8 bytes of a frame: its protocol control information, bytes of the message as far as there is room, and padding.
unfoldable pub padded : List ℕ → List ℕ → List ℕ
padded control bytes = take 8 (control ++ (bytes ++ replicate 8 padding))

-- a single frame tells the length in four bits (section 9.6.2)
abbrev pub single_control : ℕ → List ℕ
single_control len = first_byte 0 len ∷ []

-- a first frame tells it in 12 bits, or a longer one in 32 bits after 12 bits that are 0 (section 9.6.3)
abbrev pub first_control : ℕ → List ℕ
first_control len =
    if nat_le len 4095 then first_byte 1 (len / 2 ^ 8) ∷ (len % 256) ∷ []
    else first_byte 1 0 ∷ 0 ∷ (len / 2 ^ 24) ∷ (len / 2 ^ 16 % 256) ∷ (len / 2 ^ 8 % 256) ∷ (len % 256) ∷ []

-- a consecutive frame has the sequence number, which is its number modulo 16 (section 9.6.4)
abbrev pub consecutive_control : ℕ → List ℕ
consecutive_control number = first_byte 2 (number % 16) ∷ []

-- continue to send: no limit of the block, no separation time (section 9.6.5)
abbrev pub continue_control : List ℕ
continue_control = first_byte 3 (status_number Continue) ∷ 0 ∷ 0 ∷ []

-- how many bytes of the message a first frame holds: what its control information leaves of 8 (section 9.6.3)
abbrev pub room_in_first : ℕ → ℕ
room_in_first len = if nat_le len 4095 then 6 else 2

-- the place in the message where the bytes of consecutive frame `number` begin (section 9.6.4); these frames are
-- counted from 1
abbrev pub place_of : ℕ → ℕ → ℕ
place_of len number = bytes_before (room_in_first len) 8 (number - 1)

-- consecutive frame `number` of a message: what it holds begins at its place
abbrev pub consecutive_frame : List ℕ → ℕ → List ℕ
consecutive_frame message number = padded (consecutive_control number) (drop (place_of (length message) number) message)

-- how many consecutive frames hold what the first frame leaves
abbrev pub consecutive_count : ℕ → ℕ
consecutive_count len = (len - room_in_first len + 6) / 7

-- how many frames there are, the continue frame counted
abbrev pub frame_count : ℕ → ℕ
frame_count len = if nat_le len 7 then 1 else 2 + consecutive_count len

-- Frame `number` of a message, from 0, and who sends it: a single frame, or a first frame, the continue frame of the
-- other side, and the consecutive frames.
unfoldable pub canonical_frame : Dir → List ℕ → ℕ → Dir × List ℕ
canonical_frame direction message number =
    if nat_le (length message) 7 then (direction, padded (single_control (length message)) message)
    else if number == 0 then (direction, padded (first_control (length message)) message)
    else if number == 1 then (other_direction direction, padded continue_control [])
    else (direction, consecutive_frame message (number - 1))

-- The frames of a message of 1 to `limit` bytes. Any other has none.
unfoldable pub canonical_frames : ℕ → Dir → List ℕ → List (Dir × List ℕ)
canonical_frames limit direction message =
    if nat_le 1 (length message) && nat_le (length message) limit
    then map (canonical_frame direction message) (range_with_len 0 (frame_count (length message)))
    else []
