-- The canonical frames of messages, a millisecond apart, are a clean trace.
use Rattle.std.proofs.Common.{◌≡◌, ℕ, ◌+◌, ◌<◌, ◌≤◌, ◌^◌, List, [], ◌∷◌, ◌++◌, length, refl, sym, ◌∙◌, ap, arith, inl, inr, subst, append_assoc}
use Rattle.std.specs.List.{AllByRecursion}
use Rattle.std.proofs.lemmas.Bool.{cases_lt}
use Rattle.std.proofs.lemmas.List.{append-nil}
use Rattle.std.proofs.lemmas.Option.{slice_get_within}
use Rattle.direction.specs.Dir.{Message}
use Rattle.direction.specs.declared.Dir.{Dir}
use Rattle.isotp_receive.specs.declared.channel.Channel.{Channel}
use Rattle.isotp_receive.specs.Channels.{channel_of}
use Rattle.can_log.specs.declared.frame.Id.{Id}
use Rattle.isotp_receive.specs.Trace.{Entry, At}
use Rattle.isotp_receive.specs.Verdict.{verdict}
use Rattle.isotp_receive.specs.FramesOf.{AreGivenTheirFrames}
use Rattle.isotp_receive.specs.CleanTrace.{IsCleanEvent, EachClean, IsClean}
use Rattle.isotp_receive.proofs.Promises.{recording_delivers_by_frames, get-here}
use Rattle.isotp_segment.specs.CanonicalFrames.{frame_count}
use Rattle.isotp_segment.specs.Timed.{timed, HasFrames, all_frames}
use Rattle.isotp_segment.proofs.TimedFrames.{StandFrom}
use Rattle.isotp_segment.proofs.AllFrames.{AreLastFrom, all-of-them, those-behind, those-of-first, none-left}
use Rattle.isotp_segment.proofs.OpenReceptions.{IsClosedAt}
use Rattle.isotp_segment.proofs.CleanVerdicts.{closed-stands}
use Rattle.isotp_segment.proofs.Recorded.{transfers_from, frames-recording, their-transfers}
use Rattle.isotp_segment.proofs.SentMessage.{IsSent}
use Rattle.isotp_segment.proofs.CleanMessage.{each-is-clean}
use Rattle.isotp_segment.proofs.ClosedMessage.{closed-behind-message}

module _ (identifier : Dir → Id) (line micros limit : ℕ) (bits : limit < 2 ^ 32) (frames : List (Dir × List ℕ)) where
  -- the frames of the messages are the last of the trace and are given to them, and nothing is open where they begin
  record AreSent (M : List Message) (begun : ℕ) (T : List Entry) : Type 0 where
    timed_frames : T ≡ timed identifier line micros frames
    last : AreLastFrom limit frames M begun
    given : AreGivenTheirFrames limit T (transfers_from begun M)
    closed : (heard : Channel) → IsClosedAt limit T heard begun

  first-sent : (x : Message) (M : List Message) (begun : ℕ) (T : List Entry) → AreSent (x ∷ M) begun T
      → IsSent identifier line micros limit T x.0 x.1 begun
  first-sent x M begun T sent = record {
    some = sent.last.sizes.0.some;
    fits = sent.last.sizes.0.fits;
    stand = subst (λ l. StandFrom identifier line micros l x.0 x.1 begun) (sym sent.timed_frames)
        (those-of-first identifier line micros limit frames x M begun sent.last);
    given = sent.given.0;
    closed = sent.closed;
  }

  others-sent : (x : Message) (M : List Message) (begun : ℕ) (T : List Entry) → AreSent (x ∷ M) begun T
      → AreSent M (begun + frame_count (length x.1)) T
  others-sent x M begun T sent = record {
    timed_frames = sent.timed_frames;
    last = those-behind limit frames x M begun sent.last;
    given = sent.given.1;
    closed = closed-behind-message identifier line micros limit T x.0 x.1 begun (first-sent x M begun T sent);
  }

  sent-to-end : (begun : ℕ) (T : List Entry) → AreSent [] begun T → begun ≡ length T
  sent-to-end begun T sent =
      none-left identifier line micros limit frames begun sent.last ∙ sym (ap length sent.timed_frames)

  all-clean : (M : List Message) (begun : ℕ) (past rest : List Entry) (e : Entry) → At (past ++ rest) (length past) e → begun ≤ length past
      → AreSent M begun (past ++ rest) → IsCleanEvent (verdict limit past e)
  all-clean [] begun past rest e there least sent =
      absurd (omega (arith, slice_get_within (past ++ rest) (length past) e there, sent-to-end begun (past ++ rest) sent))
  all-clean (x ∷ M) begun past rest e there least sent =
      let behind = begun + frame_count (length x.1) in
      elim (cases_lt (length past) behind) [
        | inl below ↦
            each-is-clean identifier line micros limit bits past rest e there x.0 x.1 begun
            (first-sent x M begun (past ++ rest) sent) least below
        | inr later ↦ all-clean M behind past rest e there later (others-sent x M begun (past ++ rest) sent)
      ]

  all-closed : (M : List Message) (begun : ℕ) (T : List Entry) → AreSent M begun T → (heard : Channel) → IsClosedAt limit T heard (length T)
  all-closed [] begun T sent heard = subst (IsClosedAt limit T heard) (sent-to-end begun T sent) (sent.closed heard)
  all-closed (x ∷ M) begun T sent heard = all-closed M (begun + frame_count (length x.1)) T (others-sent x M begun T sent) heard

  each-clean : (M : List Message) (past rest : List Entry) → AreSent M 0 (past ++ rest) → EachClean limit past rest
  each-clean M past [] sent = tt
  each-clean M past (e ∷ rest) sent = (
    all-clean M 0 past (e ∷ rest) e (get-here past rest e) (omega arith) sent,
    each-clean M (past ++ e ∷ []) rest (subst (AreSent M 0) (sym (append_assoc past (e ∷ []) rest)) sent),
  )

pub frames-clean : (identifier : Dir → Id) (line micros limit : ℕ) → limit < 2 ^ 32 → (M : List Message) → AllByRecursion (HasFrames limit) M
    → IsClean limit (timed identifier line micros (all_frames limit M))
frames-clean identifier line micros limit bits M sizes =
    let frames = all_frames limit M in
    let T = timed identifier line micros frames in
    let recording = frames-recording identifier line micros limit bits M sizes in
    let sent : AreSent identifier line micros limit bits frames M 0 T = record {
      timed_frames = refl;
      last = all-of-them limit M sizes;
      given = subst (AreGivenTheirFrames limit T) (their-transfers identifier line micros limit bits M sizes)
          (recording_delivers_by_frames limit T M recording).0;
      closed = λ heard from number reception. absurd (omega (arith, reception.later));
    } in record {
      each = each-clean identifier line micros limit bits frames M [] T sent;
      finished = λ d. closed-stands limit T [] (channel_of d) (subst (λ l. IsClosedAt limit l (channel_of d) (length T)) (sym (append-nil T))
          (all-closed identifier line micros limit bits frames M 0 T sent (channel_of d)));
    }
