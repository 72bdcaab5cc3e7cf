-- How many canonical frames a message has, by its length.
use Rattle.std.proofs.Common.{◌≡◌, ℕ, ◌+◌, ◌<◌, ◌≤◌, nat_le, refl, arith, inl, inr}
use Rattle.std.proofs.lemmas.Bool.{le-leb, lt-leb, cases_Bool}
use Rattle.isotp_receive.specs.Places.{IsConsecutiveCount}
use Rattle.isotp_segment.specs.CanonicalFrames.{room_in_first, consecutive_count, frame_count}
use Rattle.isotp_segment.specs.Laws.{FrameCountByLength}

-- a message of at most 7 bytes has one frame
pub total-short : (len : ℕ) → len ≤ 7 → frame_count len ≡ 1
total-short len short = (let one = le-leb len 7 short in rw one refl)

-- a longer one has the first frame, the continue frame, and its consecutive ones
pub total-long : (len : ℕ) → 7 < len → frame_count len ≡ 2 + consecutive_count len
total-long len long = (let more = lt-leb len 7 long in rw more refl)

pub frame_count_by_length : FrameCountByLength
frame_count_by_length len = (total-short len, total-long len)

-- a first frame holds at most 6 bytes
pub room_in_first-few : (len : ℕ) → room_in_first len ≤ 6
room_in_first-few len = elim (cases_Bool (nat_le len 4095)) [ inl t ↦ rw t (omega arith) | inr t ↦ rw t (omega arith) ]

pub consecutive_count_is_least : (len : ℕ) → 7 < len → IsConsecutiveCount (room_in_first len) 8 len (consecutive_count len)
consecutive_count_is_least len long = (let few = room_in_first-few len in record { enough = omega arith; fewer = λ number less. omega arith })
