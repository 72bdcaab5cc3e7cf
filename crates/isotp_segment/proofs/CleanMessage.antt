-- Each canonical frame of a message is expected where it comes: it is not dropped, and ends no reception.
use Rattle.std.proofs.Common.{◌≡◌, ℕ, ◌+◌, ◌-◌, ◌%◌, ◌<◌, ◌≤◌, ◌^◌, List, ◌++◌, length, drop, refl, arith, inl, inr, subst}
use Rattle.std.proofs.lemmas.Bool.{cases_lt}
use Rattle.direction.specs.Dir.{other_direction}
use Rattle.direction.specs.declared.Dir.{Dir}
use Rattle.isotp_receive.specs.Channels.{channel_of}
use Rattle.isotp_receive.proofs.Promises.{answered_on}
use Rattle.can_log.specs.declared.frame.Id.{Id}
use Rattle.isotp_receive.specs.Trace.{Entry, At}
use Rattle.isotp_receive.specs.Places.{consecutive_frames_in, between}
use Rattle.isotp_receive.specs.OpenReception.{IsOpenAt}
use Rattle.isotp_receive.specs.Delivers.{Completes}
use Rattle.isotp_receive.specs.Verdict.{verdict}
use Rattle.isotp_receive.specs.CleanTrace.{IsCleanEvent}
use Rattle.isotp_segment.specs.CanonicalFrames.{padded, consecutive_control, place_of, frame_count}
use Rattle.isotp_segment.proofs.Counts.{total-short, total-long}
use Rattle.isotp_segment.proofs.Layouts.{layout-single, layout-first, layout-consecutive, layout-continue}
use Rattle.isotp_segment.proofs.TimedFrames.{entry, says}
use Rattle.isotp_segment.proofs.MessageFrames.{at-single, at-first, at-continue, at-consecutive, consecutive-role}
use Rattle.isotp_segment.proofs.OpenReceptions.{IsClosedAt, same-entry, open-since, next-since}
use Rattle.isotp_segment.proofs.CleanVerdicts.{continue-clean, consecutive-clean, single-clean, first-clean}
use Rattle.isotp_segment.proofs.SentMessage.{IsSent, IsCompleted, is-completed}

-- a frame of the message, after `past`
module _ (identifier : Dir → Id) (line micros limit : ℕ) (bits : limit < 2 ^ 32) (past rest : List Entry) (e : Entry)
    (there : At (past ++ rest) (length past) e) (d : Dir) (message : List ℕ) (begun : ℕ)
    (sent : IsSent identifier line micros limit (past ++ rest) d message begun) where
  abbrev T : List Entry
  T = past ++ rest

  abbrev here : ℕ
  here = length past

  -- what is expected of the canonical frame that is here is expected of this one
  clean-as : (frame : Dir × List ℕ) (p : ℕ) → At T p (entry identifier line micros p frame) → p ≡ here
      → IsCleanEvent (verdict limit past (entry identifier line micros here frame)) → IsCleanEvent (verdict limit past e)
  clean-as frame p at is clean =
      let at_here = subst (λ q. At T q (entry identifier line micros q frame)) is at in
      subst (λ x. IsCleanEvent (verdict limit past x)) (same-entry T here _ e at_here there) clean

  closed-here : begun ≡ here → IsClosedAt limit T (channel_of d) here
  closed-here is = subst (IsClosedAt limit T (channel_of d)) is (sent.closed (channel_of d))

  alone-clean : length message ≤ 7 → begun ≡ here → IsCleanEvent (verdict limit past e)
  alone-clean short is =
      let one = total-short (length message) short in
      clean-as _ begun (at-single identifier line micros T d message begun sent.stand short (omega arith)) is
      (single-clean limit past rest _ (closed-here is) message (says identifier line micros here d _ _ (layout-single (identifier d) message sent.some short)))

  begin-clean : 7 < length message → begun ≡ here → IsCleanEvent (verdict limit past e)
  begin-clean long is =
      let all = total-long (length message) long in
      clean-as _ begun (at-first identifier line micros T d message begun sent.stand long (omega arith)) is
      (first-clean limit past rest _ (closed-here is) _ _ _
      (says identifier line micros here d _ _ (layout-first (identifier d) message (omega arith) (omega (arith, sent.fits)))) sent.fits)

  -- after the first one
  module _ (long : 7 < length message) (its : IsCompleted limit T (channel_of d) message begun) (later : begun < here) (below : here < begun + frame_count (length message)) where
    abbrev completed : Completes limit T its.last (channel_of d) message
    completed = its.completed

    abbrev number : ℕ
    number = consecutive_frames_in (channel_of d) (between T completed.fit.begun here)

    reception : IsOpenAt limit T (channel_of d) completed.fit.begun number here
    reception =
        open-since limit T (channel_of d) completed.fit.begun completed.fit.number its.last completed.fit.is_open here
        (omega (arith, its.from)) (omega (arith, its.ends))

    go-on-clean : begun + 1 ≡ here → IsCleanEvent (verdict limit past e)
    go-on-clean is =
        clean-as _ (begun + 1) (at-continue identifier line micros T d message begun sent.stand long (omega arith)) is
        (continue-clean limit past rest (channel_of d) completed.fit.begun number reception _ (answered_on d)
        (says identifier line micros here (other_direction d) _ _ (layout-continue (identifier (other_direction d)))))

    next-clean : (k : ℕ) → 1 ≤ k → begun + (1 + k) ≡ here → IsCleanEvent (verdict limit past e)
    unfolding reception open-since
    next-clean k one is =
        let frame : Dir × List ℕ = (d, padded (consecutive_control k) (drop (place_of (length message) k) message)) in
        let at = at-consecutive identifier line micros T d message begun sent.stand k long one (omega arith) in
        let at_here = subst (λ q. At T q (entry identifier line micros q frame)) is at in
        let next = next-since limit T (channel_of d) its.last message completed here (entry identifier line micros here frame) (k % 16) 8 _
        (omega (arith, its.from)) (omega (arith, its.ends)) at_here (consecutive-role identifier line micros d here k _) in
        clean-as _ (begun + (1 + k)) at is
        (consecutive-clean limit past rest (channel_of d) completed.fit.begun number reception _ (k % 16) 8 _ refl
        (says identifier line micros here d _ _ (layout-consecutive (identifier d) k _)) next.0 next.1)

  further-clean : 7 < length message → begun < here → here < begun + frame_count (length message) → IsCleanEvent (verdict limit past e)
  further-clean long later below =
      let its = is-completed limit T (channel_of d) message begun long sent.given in
      elim (cases_lt (begun + 1) here) [
        | inr most ↦ go-on-clean long its later below (omega arith)
        | inl behind ↦ next-clean long its later below (here - (begun + 1)) (omega arith) (omega arith)
      ]

  pub each-is-clean : begun ≤ here → here < begun + frame_count (length message) → IsCleanEvent (verdict limit past e)
  each-is-clean least below = elim (cases_lt 7 (length message)) [
    | inr short ↦ (let one = total-short (length message) short in alone-clean short (omega arith))
    | inl long ↦ elim (cases_lt begun here) [
      | inr most ↦ begin-clean long (omega arith)
      | inl later ↦ further-clean long later below
    ]
  ]
