-- The frames of one message, after any trace, deliver it, and before the last of them nothing.
use Rattle.std.proofs.Common.{◌≡◌, ℕ, ◌<◌, ◌≤◌, ◌^◌, List, [], ◌∷◌, ◌++◌, length, take, sym, ◌∙◌, ap, arith}
use Rattle.std.specs.List.{AllByRecursion}
use Rattle.std.proofs.lemmas.List.{append-nil}
use Rattle.direction.specs.Dir.{Message}
use Rattle.direction.specs.declared.Dir.{Dir}
use Rattle.can_log.specs.declared.frame.Id.{Id}
use Rattle.isotp_receive.specs.Trace.{Entry}
use Rattle.isotp_receive.specs.Recording.{IsRecording}
use Rattle.isotp_receive.specs.Verdict.{messages}
use Rattle.isotp_receive.proofs.Promises.{recording_delivers_behind, recording_delivers_at_last_position}
use Rattle.isotp_segment.specs.CanonicalFrames.{frame_count, canonical_frames}
use Rattle.isotp_segment.specs.Timed.{timed, HasFrames, all_frames}
use Rattle.isotp_segment.proofs.Frames.{length-canonical_frames}
use Rattle.isotp_segment.proofs.TimedFrames.{take-timed}
use Rattle.isotp_segment.proofs.Recorded.{frames-recording, frames-ended}

module _ (limit : ℕ) (identifier : Dir → Id) (line micros : ℕ) (T : List Entry) (d : Dir) (message : List ℕ)
    (bits : limit < 2 ^ 32) (some : 1 ≤ length message) (fits : length message ≤ limit) where
  alone : List Message
  alone = (d, message) ∷ []

  sizes : AllByRecursion (HasFrames limit) alone
  unfolding alone
  sizes = (record { some = some; fits = fits }, tt)

  their-frames : all_frames limit alone ≡ canonical_frames limit d message
  unfolding alone
  their-frames = append-nil (canonical_frames limit d message)

  abbrev their_trace : List Entry
  their_trace = timed identifier line micros (all_frames limit alone)

  recording : IsRecording limit their_trace alone
  recording = frames-recording identifier line micros limit bits alone sizes

  pub frames-deliver : messages limit (T ++ timed identifier line micros (canonical_frames limit d message)) ≡ messages limit T ++ (d, message) ∷ []
  unfolding alone
  frames-deliver =
      ap (λ frames. messages limit (T ++ timed identifier line micros frames)) (sym their-frames)
      ∙ recording_delivers_behind limit T their_trace alone recording

  pub front-delivers : (n : ℕ) → n < length (canonical_frames limit d message)
      → messages limit (T ++ timed identifier line micros (take n (canonical_frames limit d message))) ≡ messages limit T
  unfolding alone recording
  front-delivers n below =
      let inside : n < frame_count (length message) = omega (arith, length-canonical_frames limit d message some fits) in
      ap (λ l. messages limit (T ++ l)) (take-timed identifier line micros n (canonical_frames limit d message))
      ∙ ap (λ frames. messages limit (T ++ take n (timed identifier line micros frames))) (sym their-frames)
      ∙ recording_delivers_at_last_position limit T their_trace alone recording n
      ∙ ap (λ l. messages limit T ++ l) (frames-ended identifier line micros limit bits d message sizes n inside)
      ∙ append-nil (messages limit T)
