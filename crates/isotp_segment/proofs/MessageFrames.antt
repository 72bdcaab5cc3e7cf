-- What is at the positions of a message's canonical frames, where these begin at a position, and what each is to the
-- reception of its direction.
use Rattle.std.proofs.Common.{◌≡◌, ℕ, ◌+◌, ◌%◌, ◌*◌, ◌<◌, ◌≤◌, ◌^◌, List, [], length, take, drop, arith, subst}
use Rattle.direction.specs.Dir.{other_direction}
use Rattle.direction.specs.declared.Dir.{Dir}
use Rattle.can_log.specs.declared.frame.Id.{Id}
use Rattle.isotp_receive.specs.Channels.{channel_of}
use Rattle.isotp_receive.specs.Trace.{Entry, At, single, first, consecutive, continue_or_wait, role}
use Rattle.isotp_segment.specs.CanonicalFrames.{padded, single_control, first_control, consecutive_control, continue_control}
use Rattle.isotp_segment.specs.CanonicalFrames.{room_in_first, place_of, frame_count, canonical_frame}
use Rattle.isotp_segment.proofs.Frames.{frame-single, frame-first, frame-continue, frame-consecutive}
use Rattle.isotp_segment.proofs.Layouts.{layout-single, layout-first, layout-consecutive, layout-continue}
use Rattle.isotp_segment.proofs.TimedFrames.{entry, StandFrom, role-own, role-other}

-- where they are
module _ (identifier : Dir → Id) (line micros : ℕ) (T : List Entry) (d : Dir) (message : List ℕ) (begun : ℕ)
    (stand : StandFrom identifier line micros T d message begun) where
  at-number : (number : ℕ) (frame : Dir × List ℕ) → number < frame_count (length message) → canonical_frame d message number ≡ frame
      → At T (begun + number) (entry identifier line micros (begun + number) frame)
  at-number number frame below is = subst (λ x. At T (begun + number) (entry identifier line micros (begun + number) x)) is (stand number below)

  at-begin : (frame : Dir × List ℕ) → 0 < frame_count (length message) → canonical_frame d message 0 ≡ frame
      → At T begun (entry identifier line micros begun frame)
  at-begin frame below is =
      let place : begun + 0 ≡ begun = omega arith in
      subst (λ p. At T p (entry identifier line micros p frame)) place (at-number 0 frame below is)

  pub at-single : length message ≤ 7 → 0 < frame_count (length message)
      → At T begun (entry identifier line micros begun (d, padded (single_control (length message)) message))
  at-single short below = at-begin _ below (frame-single d message 0 short)

  pub at-first : 7 < length message → 0 < frame_count (length message)
      → At T begun (entry identifier line micros begun (d, padded (first_control (length message)) message))
  at-first long below = at-begin _ below (frame-first d message long)

  pub at-continue : 7 < length message → 1 < frame_count (length message)
      → At T (begun + 1) (entry identifier line micros (begun + 1) (other_direction d, padded continue_control []))
  at-continue long below = at-number 1 _ below (frame-continue d message long)

  pub at-consecutive : (number : ℕ) → 7 < length message → 1 ≤ number → 1 + number < frame_count (length message)
      → At T (begun + (1 + number)) (entry identifier line micros (begun + (1 + number))
      (d, padded (consecutive_control number) (drop (place_of (length message) number) message)))
  at-consecutive number long one below = at-number (1 + number) _ below (frame-consecutive d message number long one)

-- what they are
module _ (identifier : Dir → Id) (line micros : ℕ) (d : Dir) (n : ℕ) where
  pub single-role : (message : List ℕ) → 1 ≤ length message → length message ≤ 7
      → role (channel_of d) (entry identifier line micros n (d, padded (single_control (length message)) message)) ≡ single message
  single-role message some short = role-own identifier line micros d n _ _ (layout-single (identifier d) message some short)

  pub first-role : (message : List ℕ) → 8 ≤ length message → length message < 2 ^ 32
      → role (channel_of d) (entry identifier line micros n (d, padded (first_control (length message)) message))
      ≡ first (record { line = line + n; micros = micros + n * 1000; len = length message; rx_dl = 8; bytes = take (room_in_first (length message)) message })
  first-role message low bits = role-own identifier line micros d n _ _ (layout-first (identifier d) message low bits)

  pub consecutive-role : (number : ℕ) (bytes : List ℕ) → role (channel_of d) (entry identifier line micros n (d, padded (consecutive_control number) bytes))
      ≡ consecutive (number % 16) 8 (drop 1 (padded (consecutive_control number) bytes))
  consecutive-role number bytes = role-own identifier line micros d n _ _ (layout-consecutive (identifier d) number bytes)

  pub continue-role : role (channel_of d) (entry identifier line micros n (other_direction d, padded continue_control [])) ≡ continue_or_wait
  continue-role = role-other identifier line micros d n (padded continue_control []) _ (layout-continue (identifier (other_direction d)))
