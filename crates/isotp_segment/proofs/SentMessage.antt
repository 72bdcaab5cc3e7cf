-- A message whose canonical frames are in a trace and are given to it, where nothing is open when they begin.
use Rattle.std.proofs.Common.{◌≡◌, ℕ, suc, ◌+◌, ◌-◌, ◌<◌, ◌≤◌, false, List, ◌∷◌, length, nat_le, sym, ◌∙◌, ap, arith, subst}
use Rattle.std.specs.List.{range_with_len}
use Rattle.std.proofs.lemmas.Bool.{lt-leb}
use Rattle.direction.specs.declared.Dir.{Dir}
use Rattle.isotp_receive.specs.declared.channel.Channel.{Channel}
use Rattle.isotp_receive.specs.Channels.{channel_of}
use Rattle.can_log.specs.declared.frame.Id.{Id}
use Rattle.isotp_receive.specs.Trace.{Entry}
use Rattle.isotp_receive.specs.Delivers.{Completes}
use Rattle.isotp_receive.specs.Recording.{last_or}
use Rattle.isotp_receive.specs.FramesOf.{AreFramesOf, together}
use Rattle.isotp_segment.specs.CanonicalFrames.{consecutive_count, frame_count}
use Rattle.isotp_segment.proofs.Counts.{room_in_first-few}
use Rattle.isotp_segment.proofs.Positions.{positions_of, last-position-is}
use Rattle.isotp_segment.proofs.TimedFrames.{StandFrom}
use Rattle.isotp_segment.proofs.OpenReceptions.{IsClosedAt}

-- A message whose frames stand in the trace from `begun` on, and are given to it, where no reception is open.
pub record IsSent (identifier : Dir → Id) (line micros limit : ℕ) (T : List Entry) (d : Dir) (message : List ℕ) (begun : ℕ) : Type 0 where
  pub some : 1 ≤ length message
  pub fits : length message ≤ limit
  pub stand : StandFrom identifier line micros T d message begun
  pub given : AreFramesOf limit T (channel_of d) message (positions_of message begun)
  pub closed : (heard : Channel) → IsClosedAt limit T heard begun

-- The last of several frames completes the reception that the first one began.
pub record IsCompleted (limit : ℕ) (T : List Entry) (d : Channel) (message : List ℕ) (begun : ℕ) : Type 0 where
  pub last : ℕ
  pub ends : last + 1 ≡ begun + frame_count (length message)
  pub completed : Completes limit T last d message
  pub from : completed.fit.begun ≡ begun

two-or-more : (limit : ℕ) (T : List Entry) (d : Channel) (message : List ℕ) (begun next : ℕ) (positions : List ℕ)
    → AreFramesOf limit T d message (begun ∷ next ∷ positions)
    → (completed : Completes limit T (last_or next positions) d message) × (completed.fit.begun ≡ begun)
two-or-more limit T d message begun next positions (together completed from only) = (completed, from)

pub is-completed : (limit : ℕ) (T : List Entry) (d : Channel) (message : List ℕ) (begun : ℕ) → 7 < length message
    → AreFramesOf limit T d message (positions_of message begun) → IsCompleted limit T d message begun
is-completed limit T d message begun long given =
    let count = consecutive_count (length message) in
    let further = range_with_len (begun + 2 + 1) (count - 1) in
    let few = room_in_first-few (length message) in
    let some : count ≡ suc (count - 1) = omega arith in
    let is : nat_le (length message) 7 ≡ false = lt-leb (length message) 7 long in
    let positions : positions_of message begun ≡ begun ∷ (begun + 2) ∷ further =
    rw is (ap (λ n. begun ∷ range_with_len (begun + 2) n) some) in
    let found = two-or-more limit T d message begun (begun + 2) further (subst (AreFramesOf limit T d message) positions given) in
    record {
      last = last_or (begun + 2) further;
      ends = ap (λ ps. last_or 0 ps + 1) (sym positions) ∙ last-position-is message begun (omega arith);
      completed = found.0;
      from = found.1;
    }
