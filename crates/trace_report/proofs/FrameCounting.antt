-- How many consecutive frames the receptions took that stand, after one more frame.
use Rattle.std.proofs.Common.{◌≡◌, ℕ, ◌+◌, ◌<◌, ◌≤◌, ◌^◌, ◌==◌, true, List, [], ◌∷◌, ◌++◌, length}
use Rattle.std.proofs.Common.{Option, Some, None, Result, Ok, Err, IfSome, option_map, nat_le, inl, inr}
use Rattle.std.proofs.Common.{refl, ap, sym, subst, ◌∙◌, arith}
use Rattle.std.proofs.lemmas.Bool.{cases_Bool}
use Rattle.can_log.specs.Frame.{FrameValue}
use Rattle.direction.specs.Dir.{other_direction}
use Rattle.direction.specs.declared.Dir.{Dir}
use Rattle.direction.specs.declared.Dir.TheVariants.{Tester, Unit}
use Rattle.isotp_pdu.specs.Layout.{Layout}
use Rattle.isotp_pdu.specs.Layout as layout
use Rattle.isotp_pdu.specs.Reading.{layout_of}
use Rattle.isotp_pdu.specs.declared.Status.{Status}
use Rattle.isotp_pdu.specs.declared.Status.TheVariants.{Continue, Wait, Overflow}
use Rattle.isotp_receive.specs.declared.TheConstants.{MESSAGE_LIMIT}
use Rattle.isotp_receive.specs.Channels.{channel_of, to_one}
use Rattle.isotp_receive.specs.declared.channel.Channel.{Channel}
use Rattle.isotp_receive.specs.declared.channel.Channel.TheVariants as on
use Rattle.isotp_receive.specs.declared.event.Reason.{Reason}
use Rattle.isotp_receive.specs.Fit.{Fit, late, wrong_number, wrong_length, one_more as one_more_fits, last}
use Rattle.isotp_receive.specs.proving.Machine.{after, continued_by}
use Rattle.isotp_receive.specs.StandingReception.{StandingReception, fit_of, stands}
use Rattle.isotp_receive.specs.Trace.{Entry, FrameRole, single, first, consecutive, continue_or_wait, overflow, no_part, role, own_role, other_role}
use Rattle.isotp_receive.specs.Verdict.{EventValue, VerdictValue, message, on_fit, on_flow_control, on_layout, verdict}
use Rattle.isotp_receive.proofs.Promises.{one_more, functional_frames_stand_alone, functional_has_no_part}
use Rattle.uds_exchange.specs.Judging.{one_more as one_more_count}
use Rattle.trace_canon.specs.FirstFrames.{last_start, place_of}
use Rattle.trace_report.specs.Events.{frames_by}
use Rattle.trace_canon.specs.declared.reception_starts.FramePlace.{FramePlace}
use Rattle.trace_report.specs.declared.frames.FrameCounts.{FrameCounts}
use Rattle.trace_canon.specs.ReceptionStarts.{IsBegunAt, still_begun}
use Rattle.trace_report.specs.declared.extents.ReceptionExtents.{ReceptionExtents}
use Rattle.trace_report.specs.proving.Following.{CountFrames, KnowsExtents, IsTaken, counted_by, frames_counted, frames_with, taken_after}
use Rattle.trace_canon.proofs.Promises.{entry_at, role_own, role_other, same_side, verdict_of_side}
use Rattle.trace_report.proofs.FewFrames.{TookAtMost, stands_few}

-- a count is that of the reception, if one stands
abbrev Counts : Option StandingReception → ℕ → Type 0
Counts standing taken = IfSome standing (λ (s : StandingReception). taken ≡ s.taken)

-- flow control counts for no reception of its sender
flow_counts : (other : Dir) (others : Option StandingReception) (status : Status) (taken : ℕ) → counted_by true (on_flow_control other others status).verdict taken ≡ taken
flow_counts other None Continue taken = refl
flow_counts other (Some s) Continue taken = refl
flow_counts other None Wait taken = refl
flow_counts other (Some s) Wait taken = refl
flow_counts other None Overflow taken = refl
flow_counts other (Some s) Overflow taken = elim (cases_Bool (s.taken == 0)) [ inl e ↦ rw e refl | inr e ↦ rw e refl ]

one_higher : (taken kept most : ℕ) → kept ≡ taken → taken ≤ most → most < 2 ^ 63 → one_more_count kept ≡ taken + 1
one_higher taken kept most is low few = rw is (omega arith)

module _ (line micros most : ℕ) (few : most < 2 ^ 63) where
  fitting : (d : Dir) (s : StandingReception) (sequence_number : ℕ) (bytes : List ℕ) (taken : ℕ) (fit : Fit) → taken ≡ s.taken → s.taken ≤ most
      → Counts (continued_by fit s micros bytes) (counted_by true (on_fit d s fit sequence_number bytes).verdict taken)
  fitting d s sequence_number bytes taken late is low = tt
  fitting d s sequence_number bytes taken wrong_number is low = tt
  fitting d s sequence_number bytes taken wrong_length is low = tt
  fitting d s sequence_number bytes taken one_more_fits is low = one_higher s.taken taken most is low few
  fitting d s sequence_number bytes taken last is low = tt

  -- a frame of the direction itself
  own_next : (d : Dir) (own others : Option StandingReception) (taken : ℕ) (read : Result Layout Reason) → Counts own taken → TookAtMost most own
      → Counts (after MESSAGE_LIMIT own micros (own_role line micros read)) (counted_by true (on_layout MESSAGE_LIMIT d own others micros read).verdict taken)
  own_next d own others taken (Err why) is low = is
  own_next d own others taken (Ok (layout.single whole)) is low = tt
  own_next d own others taken (Ok (layout.first len rx_dl bytes)) is low =
      elim (cases_Bool (nat_le len MESSAGE_LIMIT)) [ inl e ↦ rw e refl | inr e ↦ rw e tt ]
  own_next d None others taken (Ok (layout.consecutive sequence_number can_dl bytes)) is low = tt
  own_next d (Some s) others taken (Ok (layout.consecutive sequence_number can_dl bytes)) is low =
      fitting d s sequence_number bytes taken (fit_of s micros sequence_number can_dl) is low
  own_next d own others taken (Ok (layout.flow_control status)) is low =
      subst (λ (n : ℕ). Counts own n) (sym (flow_counts (other_direction d) others status taken)) is

  -- a frame of the other direction
  other_next : (others : Option StandingReception) (taken : ℕ) (read : Result Layout Reason) → Counts others taken
      → Counts (after MESSAGE_LIMIT others micros (other_role read)) taken
  other_next others taken (Err why) is = is
  other_next others taken (Ok (layout.single whole)) is = is
  other_next others taken (Ok (layout.first len rx_dl bytes)) is = is
  other_next others taken (Ok (layout.consecutive sequence_number can_dl bytes)) is = is
  other_next None taken (Ok (layout.flow_control Continue)) is = tt
  other_next (Some s) taken (Ok (layout.flow_control Continue)) is = is
  other_next None taken (Ok (layout.flow_control Wait)) is = tt
  other_next (Some s) taken (Ok (layout.flow_control Wait)) is = is
  other_next None taken (Ok (layout.flow_control Overflow)) is = tt
  other_next (Some s) taken (Ok (layout.flow_control Overflow)) is =
      elim (cases_Bool (s.taken == 0)) [ inl e ↦ rw e tt | inr e ↦ rw e is ]

-- what is kept of the sender's direction is right with one more frame
own_taken : (d : Dir) (T : List Entry) (line micros : ℕ) (frame : FrameValue) (taken : ℕ) → length T < 2 ^ 63 → IsTaken d T taken
    → IsTaken d (T ++ entry_at line micros (channel_of d) frame ∷ [])
    (counted_by true (verdict MESSAGE_LIMIT T (entry_at line micros (channel_of d) frame)).verdict taken)
own_taken d T line micros frame taken few is =
    let c : Channel = channel_of d in
    let e : Entry = entry_at line micros c frame in
    rw (one_more MESSAGE_LIMIT c T e, role_own d line micros frame, verdict_of_side d T line micros frame)
    (own_next line micros (length T) few d (stands MESSAGE_LIMIT c T) (stands MESSAGE_LIMIT (channel_of (other_direction d)) T) taken (to_one (layout_of frame)) is (stands_few c T))

-- and of the other direction
other_taken : (d : Dir) (T : List Entry) (line micros : ℕ) (frame : FrameValue) (taken : ℕ) → IsTaken (other_direction d) T taken
    → IsTaken (other_direction d) (T ++ entry_at line micros (channel_of d) frame ∷ []) taken
other_taken d T line micros frame taken is =
    let o : Channel = channel_of (other_direction d) in
    let e : Entry = entry_at line micros (channel_of d) frame in
    rw (one_more MESSAGE_LIMIT o T e, role_other d line micros frame)
    (other_next line micros 0 (omega arith) (stands MESSAGE_LIMIT o T) taken (to_one (layout_of frame)) is)

-- a frame to all units leaves both
still_taken : (x : Dir) (T : List Entry) (e : Entry) (taken : ℕ) → e.channel ≡ on.Functional → IsTaken x T taken → IsTaken x (T ++ e ∷ []) taken
still_taken x T e taken is so =
    let c : Channel = channel_of x in
    let same : stands MESSAGE_LIMIT c (T ++ e ∷ []) ≡ stands MESSAGE_LIMIT c T =
    one_more MESSAGE_LIMIT c T e ∙ ap (after MESSAGE_LIMIT (stands MESSAGE_LIMIT c T) e.micros) (functional_has_no_part x e is) in
    subst (λ (o : Option StandingReception). Counts o taken) (sym same) so

taken_by : (channel : Channel) (T : List Entry) (line micros : ℕ) (frame : FrameValue) (counts : FrameCounts) → length T < 2 ^ 63 → CountFrames T counts
    → IsTaken Tester (T ++ entry_at line micros channel frame ∷ []) (taken_after Tester channel (verdict MESSAGE_LIMIT T (entry_at line micros channel frame)).verdict counts.tester)
    × IsTaken Unit (T ++ entry_at line micros channel frame ∷ []) (taken_after Unit channel (verdict MESSAGE_LIMIT T (entry_at line micros channel frame)).verdict counts.unit)
taken_by on.Tester T line micros frame counts few are =
    (own_taken Tester T line micros frame counts.tester few are.tester, other_taken Tester T line micros frame counts.unit are.unit)
taken_by on.Unit T line micros frame counts few are =
    (other_taken Unit T line micros frame counts.tester are.tester, own_taken Unit T line micros frame counts.unit few are.unit)
taken_by on.Functional T line micros frame counts few are =
    let e : Entry = entry_at line micros on.Functional frame in
    (still_taken Tester T e counts.tester refl are.tester, still_taken Unit T e counts.unit refl are.unit)

-- so both counts are, of whichever channel the frame is
pub frames_next : (T : List Entry) (e : Entry) (channel : Channel) (did : VerdictValue) → e.channel ≡ channel → did ≡ (verdict MESSAGE_LIMIT T e).verdict → length T < 2 ^ 63
    → (old now : FrameCounts) → CountFrames T old → now.tester ≡ taken_after Tester channel did old.tester → now.unit ≡ taken_after Unit channel did old.unit
    → CountFrames (T ++ e ∷ []) now
frames_next T e channel did channel_is is few old now are tester_is unit_is =
    let both = taken_by e.channel T e.line e.micros e.frame old few are in
    record {
      tester = subst (λ (n : ℕ). IsTaken Tester (T ++ e ∷ []) n) (sym (tester_is ∙ (λ i. taken_after Tester (sym channel_is i) (is i) old.tester))) both.0;
      unit = subst (λ (n : ℕ). IsTaken Unit (T ++ e ∷ []) n) (sym (unit_is ∙ (λ i. taken_after Unit (sym channel_is i) (is i) old.unit))) both.1;
    }

-- as many frames carry a message as are counted
module _ (line micros most : ℕ) (few : most < 2 ^ 63) (place : FramePlace) where
  begun_at : Option StandingReception → Option FramePlace
  begun_at own = option_map (λ (s : StandingReception). place) own

  two_higher : (taken kept : ℕ) → kept ≡ taken → taken ≤ most → one_more_count (one_more_count kept) ≡ taken + 2
  two_higher taken kept is low = rw is (omega arith)

  found : (d : Dir) (own others : Option StandingReception) (taken : ℕ) (read : Result Layout Reason) (whole : List ℕ) → Counts own taken → TookAtMost most own
      → (on_layout MESSAGE_LIMIT d own others micros read).verdict ≡ message whole
      → frames_with (still_begun d (on_layout MESSAGE_LIMIT d own others micros read).ended (begun_at own)) taken ≡ frames_by own (own_role line micros read)
  unfolding begun_at
  found d own others taken (Err why) whole counts low is = absurd (cc is)
  found d None others taken (Ok (layout.single bytes)) whole counts low is = refl
  found d (Some standing) others taken (Ok (layout.single bytes)) whole counts low is = rw (same_side d) refl
  found d own others taken (Ok (layout.first len rx_dl bytes)) whole counts low is =
      elim (cases_Bool (nat_le len MESSAGE_LIMIT)) [ inl e ↦ absurd (cc (rw e at is)) | inr e ↦ absurd (cc (rw e at is)) ]
  found d None others taken (Ok (layout.consecutive sequence_number can_dl bytes)) whole counts low is = absurd (cc is)
  found d (Some standing) others taken (Ok (layout.consecutive sequence_number can_dl bytes)) whole counts low is =
      by (fit_of standing micros sequence_number can_dl) is
    where
      by : (fit : Fit) → (on_fit d standing fit sequence_number bytes).verdict ≡ message whole
          → frames_with (still_begun d (on_fit d standing fit sequence_number bytes).ended (Some place)) taken ≡ standing.taken + 2
      by late it = absurd (cc it)
      by wrong_number it = absurd (cc it)
      by wrong_length it = absurd (cc it)
      by one_more_fits it = absurd (cc it)
      by last it = two_higher standing.taken taken counts low
  found d own None taken (Ok (layout.flow_control Continue)) whole counts low is = absurd (cc is)
  found d own (Some standing) taken (Ok (layout.flow_control Continue)) whole counts low is = absurd (cc is)
  found d own None taken (Ok (layout.flow_control Wait)) whole counts low is = absurd (cc is)
  found d own (Some standing) taken (Ok (layout.flow_control Wait)) whole counts low is = absurd (cc is)
  found d own None taken (Ok (layout.flow_control Overflow)) whole counts low is = absurd (cc is)
  found d own (Some standing) taken (Ok (layout.flow_control Overflow)) whole counts low is =
      elim (cases_Bool (standing.taken == 0)) [ inl e ↦ absurd (cc (rw e at is)) | inr e ↦ absurd (cc (rw e at is)) ]

-- of a message that the frame of a side completes
frames_found : (d : Dir) (T : List Entry) (line micros : ℕ) (frame : FrameValue) (begun : Option FramePlace) (taken : ℕ) (whole : List ℕ) → length T < 2 ^ 63
    → IsBegunAt MESSAGE_LIMIT d T begun → IsTaken d T taken
    → (verdict MESSAGE_LIMIT T (entry_at line micros (channel_of d) frame)).verdict ≡ message whole
    → frames_with (still_begun d (verdict MESSAGE_LIMIT T (entry_at line micros (channel_of d) frame)).ended begun) taken
    ≡ frames_by (stands MESSAGE_LIMIT (channel_of d) T) (role (channel_of d) (entry_at line micros (channel_of d) frame))
unfolding begun_at
frames_found d T line micros frame begun taken whole few is counts completes =
    let c : Channel = channel_of d in
    let e : Entry = entry_at line micros c frame in
    let o : Option StandingReception = stands MESSAGE_LIMIT (channel_of (other_direction d)) T in
    let told : (on_layout MESSAGE_LIMIT d (stands MESSAGE_LIMIT c T) o micros (to_one (layout_of frame))).verdict ≡ message whole =
    ap (λ (x : EventValue). x.verdict) (sym (verdict_of_side d T line micros frame)) ∙ completes in
    rw (is e, role_own d line micros frame, verdict_of_side d T line micros frame)
    (found line micros (length T) few (place_of (last_start c e T)) d (stands MESSAGE_LIMIT c T) o taken (to_one (layout_of frame)) whole
    counts (stands_few c T) told)

-- one frame carries a message to all units
none_before : (r : FrameRole) → frames_by None r ≡ 1
none_before (single whole) = refl
none_before (first start) = refl
none_before (consecutive sequence_number can_dl bytes) = refl
none_before continue_or_wait = refl
none_before overflow = refl
none_before no_part = refl

frames_alone : (T : List Entry) (e : Entry) → e.channel ≡ on.Functional → 1 ≡ frames_by (stands MESSAGE_LIMIT on.Functional T) (role on.Functional e)
frames_alone T e is =
    sym (ap (λ (o : Option StandingReception). frames_by o (role on.Functional e)) (functional_frames_stand_alone MESSAGE_LIMIT T e is).none_stands
    ∙ none_before (role on.Functional e))

frames_on : (channel : Channel) (T : List Entry) (line micros : ℕ) (frame : FrameValue) (extents : ReceptionExtents) (whole : List ℕ)
    → length T < 2 ^ 63 → KnowsExtents T extents
    → (verdict MESSAGE_LIMIT T (entry_at line micros channel frame)).verdict ≡ message whole
    → frames_counted channel (verdict MESSAGE_LIMIT T (entry_at line micros channel frame)).ended extents.begun extents.frames
    ≡ frames_by (stands MESSAGE_LIMIT channel T) (role channel (entry_at line micros channel frame))
frames_on on.Tester T line micros frame extents whole few known completes =
    frames_found Tester T line micros frame extents.begun.tester extents.frames.tester whole few (known.begun Tester) known.frames.tester completes
frames_on on.Unit T line micros frame extents whole few known completes =
    frames_found Unit T line micros frame extents.begun.unit extents.frames.unit whole few (known.begun Unit) known.frames.unit completes
frames_on on.Functional T line micros frame extents whole few known completes = frames_alone T (entry_at line micros on.Functional frame) refl

-- of whichever channel, by what is known of the extents
pub frames_known : (T : List Entry) (e : Entry) (channel : Channel) (event : EventValue) (extents : ReceptionExtents) (whole : List ℕ)
    → e.channel ≡ channel → event ≡ verdict MESSAGE_LIMIT T e → length T < 2 ^ 63 → KnowsExtents T extents → event.verdict ≡ message whole
    → frames_counted channel event.ended extents.begun extents.frames ≡ frames_by (stands MESSAGE_LIMIT e.channel T) (role e.channel e)
frames_known T e channel event extents whole channel_is is few known completes =
    (λ i. frames_counted (sym channel_is i) (is i).ended extents.begun extents.frames)
    ∙ frames_on e.channel T e.line e.micros e.frame extents whole few known (sym (ap (λ (x : EventValue). x.verdict) is) ∙ completes)
