-- Where the receptions that stand began, after one more frame, and where a message began.
use Rattle.std.proofs.Common.{◌≡◌, ℕ, ◌==◌, Bool, true, false, List, [], ◌∷◌, ◌++◌, Option, Some, None, Result, Ok, Err}
use Rattle.std.proofs.Common.{refl, sym, subst, ap, ◌∙◌, nat_le, inl, inr, option_map}
use Rattle.std.specs.Prelude.{unwrap_or, if◌then◌else◌}
use Rattle.std.proofs.lemmas.Bool.{cases_Bool}
use Rattle.can_log.specs.Frame.{FrameValue}
use Rattle.direction.specs.Dir.{other_direction}
use Rattle.direction.specs.declared.Dir.{Dir}
use Rattle.direction.specs.declared.Dir.TheVariants.{Tester, Unit}
use Rattle.isotp_pdu.specs.Layout.{Layout}
use Rattle.isotp_pdu.specs.Layout as layout
use Rattle.isotp_pdu.specs.Reading.{layout_of}
use Rattle.isotp_pdu.specs.declared.PduFault.{PduFault}
use Rattle.isotp_pdu.specs.declared.Status.TheVariants.{Continue, Wait, Overflow}
use Rattle.isotp_receive.specs.declared.TheConstants.{MESSAGE_LIMIT}
use Rattle.isotp_receive.specs.Channels.{channel_of, dir_of, to_one, to_all}
use Rattle.isotp_receive.specs.declared.channel.Channel.{Channel}
use Rattle.isotp_receive.specs.declared.channel.Channel.TheVariants as on
use Rattle.isotp_receive.specs.declared.event.Event.{Event}
use Rattle.isotp_receive.specs.declared.event.Reason.{Reason}
use Rattle.isotp_receive.specs.EventSeen.{seen_event}
use Rattle.isotp_receive.specs.Fit.{Fit, late, wrong_number, wrong_length, one_more as one_more_fits, last}
use Rattle.isotp_receive.specs.proving.Machine.{after, continued_by}
use Rattle.isotp_receive.specs.StandingReception.{StandingReception, Receptions, fit_of, stands, of_direction, receptions_after}
use Rattle.isotp_receive.specs.Trace.{Entry, role, own_role, other_role, layout_in, same_direction}
use Rattle.isotp_receive.specs.Verdict.{EventValue, message, began, told_to_all, on_layout, on_fit, verdict}
use Rattle.isotp_receive.proofs.Promises.{one_more, functional_frames_stand_alone, functional_has_no_part}
use Rattle.trace_run.specs.Seen.{IsEventOf}
use Rattle.trace_canon.specs.FirstFrames.{CompletesMessage, place_of, starts_message, last_start, first_frame}
use Rattle.trace_canon.specs.ReceptionStarts.{AreStartsAfter, IsBegunAt, reception_start, still_begun, start_after_verdict, start_after_event, message_start}
use Rattle.trace_canon.specs.declared.reception_starts.FramePlace.{FramePlace}
use Rattle.trace_canon.specs.declared.reception_starts.ReceptionStarts.{ReceptionStarts}
use Rattle.trace_canon.proofs.Sides.{entry_at, other-apart, role_other, role_own, same_side, side-apart, verdict_of_side}

-- what a frame of a side moves: `start_after_event` of a channel on which the side sends to the other alone
abbrev moved : Dir → Dir → EventValue → FramePlace → Option FramePlace → Option FramePlace
moved d sender event here begun = start_after_verdict (same_direction d sender) event.verdict here (still_begun d event.ended begun)

-- and where a message of it began
abbrev began_at : Dir → EventValue → FramePlace → Option FramePlace → FramePlace
began_at sender event here begun = unwrap_or (still_begun sender event.ended begun) here

-- the last start with one more frame
pub last_start_more : (d : Channel) (earlier : Entry) (T : List Entry) (e : Entry)
    → last_start d earlier (T ++ e ∷ []) ≡ (if starts_message (role d e) then e else last_start d earlier T)
last_start_more d earlier [] e = refl
last_start_more d earlier (x ∷ T) e = last_start_more d (if starts_message (role d x) then x else earlier) T e

-- where a reception began that stands, if one does
abbrev at : FramePlace → Option StandingReception → Option FramePlace
at place standing = option_map (λ (s : StandingReception). place) standing

-- a consecutive frame of the direction, by how it fits
on_fitting : (d : Dir) (standing : StandingReception) (micros sequence_number : ℕ) (bytes : List ℕ) (here place : FramePlace) (fit : Fit)
    → moved d d (on_fit d standing fit sequence_number bytes) here (Some place) ≡ at place (continued_by fit standing micros bytes)
on_fitting d standing micros sequence_number bytes here place late = rw (same_side d) refl
on_fitting d standing micros sequence_number bytes here place wrong_number = rw (same_side d) refl
on_fitting d standing micros sequence_number bytes here place wrong_length = rw (same_side d) refl
on_fitting d standing micros sequence_number bytes here place one_more_fits = rw (same_side d) refl
on_fitting d standing micros sequence_number bytes here place last = rw (same_side d) refl

-- what ends of the other direction leaves where the own one began
module _ (line micros : ℕ) (here : FramePlace) where
  -- a frame of the direction itself
  own_next : (d : Dir) (own others : Option StandingReception) (place : FramePlace) (read : Result Layout Reason)
      → moved d d (on_layout MESSAGE_LIMIT d own others micros read) here (at place own)
      ≡ at (if starts_message (own_role line micros read) then here else place) (after MESSAGE_LIMIT own micros (own_role line micros read))
  own_next d own others place (Err fault) = rw (same_side d) refl
  own_next d None others place (Ok (layout.single whole)) = rw (same_side d) refl
  own_next d (Some standing) others place (Ok (layout.single whole)) = rw (same_side d) refl
  own_next d None others place (Ok (layout.first len rx_dl bytes)) =
      elim (cases_Bool (nat_le len MESSAGE_LIMIT)) [ inl e ↦ rw (e, same_side d) refl | inr e ↦ rw (e, same_side d) refl ]
  own_next d (Some standing) others place (Ok (layout.first len rx_dl bytes)) =
      elim (cases_Bool (nat_le len MESSAGE_LIMIT)) [ inl e ↦ rw (e, same_side d) refl | inr e ↦ rw (e, same_side d) refl ]
  own_next d None others place (Ok (layout.consecutive sequence_number can_dl bytes)) = rw (same_side d) refl
  own_next d (Some standing) others place (Ok (layout.consecutive sequence_number can_dl bytes)) =
      on_fitting d standing micros sequence_number bytes here place (fit_of standing micros sequence_number can_dl)
  own_next d own None place (Ok (layout.flow_control Continue)) = rw (same_side d) refl
  own_next d own (Some standing) place (Ok (layout.flow_control Continue)) = rw (same_side d) refl
  own_next d own None place (Ok (layout.flow_control Wait)) = rw (same_side d) refl
  own_next d own (Some standing) place (Ok (layout.flow_control Wait)) = rw (same_side d) refl
  own_next d own None place (Ok (layout.flow_control Overflow)) = rw (same_side d) refl
  own_next d own (Some standing) place (Ok (layout.flow_control Overflow)) =
      elim (cases_Bool (standing.taken == 0)) [ inl e ↦ rw (e, same_side d, other-apart d) refl | inr e ↦ rw (e, same_side d) refl ]

  -- what a consecutive frame of the other direction does
  other_fitting : (d : Dir) (standing : StandingReception) (sequence_number : ℕ) (bytes : List ℕ) (begun : Option FramePlace) (fit : Fit)
      → moved (other_direction d) d (on_fit d standing fit sequence_number bytes) here begun ≡ begun
  other_fitting d standing sequence_number bytes begun late = rw (side-apart d) refl
  other_fitting d standing sequence_number bytes begun wrong_number = rw (side-apart d) refl
  other_fitting d standing sequence_number bytes begun wrong_length = rw (side-apart d) refl
  other_fitting d standing sequence_number bytes begun one_more_fits = rw (side-apart d) refl
  other_fitting d standing sequence_number bytes begun last = rw (side-apart d) refl

  -- a frame of the other direction d
  other_next : (d : Dir) (own others : Option StandingReception) (place : FramePlace) (read : Result Layout Reason)
      → moved (other_direction d) d (on_layout MESSAGE_LIMIT d own others micros read) here (at place others)
      ≡ at (if starts_message (other_role read) then here else place) (after MESSAGE_LIMIT others micros (other_role read))
  other_next d own others place (Err fault) = rw (side-apart d) refl
  other_next d None others place (Ok (layout.single whole)) = rw (side-apart d) refl
  other_next d (Some standing) others place (Ok (layout.single whole)) = rw (side-apart d) refl
  other_next d None others place (Ok (layout.first len rx_dl bytes)) = rw (side-apart d) refl
  other_next d (Some standing) others place (Ok (layout.first len rx_dl bytes)) = rw (side-apart d) refl
  other_next d None others place (Ok (layout.consecutive sequence_number can_dl bytes)) = rw (side-apart d) refl
  other_next d (Some standing) others place (Ok (layout.consecutive sequence_number can_dl bytes)) =
      other_fitting d standing sequence_number bytes (at place others) (fit_of standing micros sequence_number can_dl)
  other_next d own None place (Ok (layout.flow_control Continue)) = rw (side-apart d) refl
  other_next d own (Some standing) place (Ok (layout.flow_control Continue)) = rw (side-apart d) refl
  other_next d own None place (Ok (layout.flow_control Wait)) = rw (side-apart d) refl
  other_next d own (Some standing) place (Ok (layout.flow_control Wait)) = rw (side-apart d) refl
  other_next d own None place (Ok (layout.flow_control Overflow)) = rw (side-apart d) refl
  other_next d own (Some standing) place (Ok (layout.flow_control Overflow)) =
      elim (cases_Bool (standing.taken == 0)) [
        | inl e ↦ rw (e, side-apart d, same_side (other_direction d)) refl
        | inr e ↦ rw (e, side-apart d) refl
      ]

  -- where the message began that a frame completes: here, or where the reception did that stood
  first_found : (d : Dir) (own others : Option StandingReception) (place : FramePlace) (read : Result Layout Reason) (whole : List ℕ)
      → (on_layout MESSAGE_LIMIT d own others micros read).verdict ≡ message whole
      → began_at d (on_layout MESSAGE_LIMIT d own others micros read) here (at place own)
      ≡ (if starts_message (own_role line micros read) then here else place)
  first_found d own others place (Err fault) whole is = absurd (cc is)
  first_found d None others place (Ok (layout.single bytes)) whole is = refl
  first_found d (Some standing) others place (Ok (layout.single bytes)) whole is = rw (same_side d) refl
  first_found d own others place (Ok (layout.first len rx_dl bytes)) whole is =
      elim (cases_Bool (nat_le len MESSAGE_LIMIT)) [ inl e ↦ absurd (cc (rw e at is)) | inr e ↦ absurd (cc (rw e at is)) ]
  first_found d None others place (Ok (layout.consecutive sequence_number can_dl bytes)) whole is = absurd (cc is)
  first_found d (Some standing) others place (Ok (layout.consecutive sequence_number can_dl bytes)) whole is =
      by (fit_of standing micros sequence_number can_dl) is
    where
      by : (fit : Fit) → (on_fit d standing fit sequence_number bytes).verdict ≡ message whole
          → began_at d (on_fit d standing fit sequence_number bytes) here (Some place) ≡ place
      by late it = absurd (cc it)
      by wrong_number it = absurd (cc it)
      by wrong_length it = absurd (cc it)
      by one_more_fits it = absurd (cc it)
      by last it = refl
  first_found d own None place (Ok (layout.flow_control Continue)) whole is = absurd (cc is)
  first_found d own (Some standing) place (Ok (layout.flow_control Continue)) whole is = absurd (cc is)
  first_found d own None place (Ok (layout.flow_control Wait)) whole is = absurd (cc is)
  first_found d own (Some standing) place (Ok (layout.flow_control Wait)) whole is = absurd (cc is)
  first_found d own None place (Ok (layout.flow_control Overflow)) whole is = absurd (cc is)
  first_found d own (Some standing) place (Ok (layout.flow_control Overflow)) whole is =
      elim (cases_Bool (standing.taken == 0)) [ inl e ↦ absurd (cc (rw e at is)) | inr e ↦ absurd (cc (rw e at is)) ]

place_if : (b : Bool) (e x : Entry) → place_of (if b then e else x) ≡ (if b then place_of e else place_of x)
place_if true e x = refl
place_if false e x = refl

-- where a frame stands of this line and time
abbrev pub here_at : ℕ → ℕ → FramePlace
here_at line micros = record { line = line; micros = micros }

-- where the sender's reception began, after its frame
own_begun : (d : Dir) (T : List Entry) (line micros : ℕ) (frame : FrameValue) (begun : Option FramePlace) → IsBegunAt MESSAGE_LIMIT d T begun
    → IsBegunAt MESSAGE_LIMIT d (T ++ entry_at line micros (channel_of d) frame ∷ [])
    (moved d d (verdict MESSAGE_LIMIT T (entry_at line micros (channel_of d) frame)) (here_at line micros) begun)
own_begun d T line micros frame begun is earlier =
    let c : Channel = channel_of d in
    let e : Entry = entry_at line micros c frame in
    rw (
      is earlier,
      one_more MESSAGE_LIMIT c T e,
      last_start_more c earlier T e,
      place_if (starts_message (role c e)) e (last_start c earlier T),
      role_own d line micros frame,
      verdict_of_side d T line micros frame,
    )
    (own_next line micros (here_at line micros) d (stands MESSAGE_LIMIT c T) (stands MESSAGE_LIMIT (channel_of (other_direction d)) T)
    (place_of (last_start c earlier T)) (to_one (layout_of frame)))

-- and that of the other direction
other_begun : (d : Dir) (T : List Entry) (line micros : ℕ) (frame : FrameValue) (begun : Option FramePlace)
    → IsBegunAt MESSAGE_LIMIT (other_direction d) T begun
    → IsBegunAt MESSAGE_LIMIT (other_direction d) (T ++ entry_at line micros (channel_of d) frame ∷ [])
    (moved (other_direction d) d (verdict MESSAGE_LIMIT T (entry_at line micros (channel_of d) frame)) (here_at line micros) begun)
other_begun d T line micros frame begun is earlier =
    let o : Channel = channel_of (other_direction d) in
    let e : Entry = entry_at line micros (channel_of d) frame in
    rw (
      is earlier,
      one_more MESSAGE_LIMIT o T e,
      last_start_more o earlier T e,
      place_if (starts_message (role o e)) e (last_start o earlier T),
      role_other d line micros frame,
      verdict_of_side d T line micros frame,
    )
    (other_next line micros (here_at line micros) d (stands MESSAGE_LIMIT (channel_of d) T) (stands MESSAGE_LIMIT o T)
    (place_of (last_start o earlier T)) (to_one (layout_of frame)))

-- where the message began that a frame of a side completed is the place of its first frame
first_of : (d : Dir) (T : List Entry) (line micros : ℕ) (frame : FrameValue) (begun : Option FramePlace) (whole : List ℕ)
    → IsBegunAt MESSAGE_LIMIT d T begun
    → (verdict MESSAGE_LIMIT T (entry_at line micros (channel_of d) frame)).verdict ≡ message whole
    → began_at d (verdict MESSAGE_LIMIT T (entry_at line micros (channel_of d) frame)) (here_at line micros) begun
    ≡ place_of (first_frame T (entry_at line micros (channel_of d) frame))
first_of d T line micros frame begun whole is completes =
    let c : Channel = channel_of d in
    let e : Entry = entry_at line micros c frame in
    let other : Channel = channel_of (other_direction d) in
    let did : EventValue =
    on_layout MESSAGE_LIMIT d (stands MESSAGE_LIMIT c T) (stands MESSAGE_LIMIT other T) micros (to_one (layout_of frame)) in
    let told : did.verdict ≡ message whole =
    ap (λ (x : EventValue). x.verdict) (sym (verdict_of_side d T line micros frame)) ∙ completes in
    rw (
      is e,
      last_start_more c e T e,
      place_if (starts_message (role c e)) e (last_start c e T),
      role_own d line micros frame,
      verdict_of_side d T line micros frame,
    )
    (first_found line micros (here_at line micros) d (stands MESSAGE_LIMIT c T) (stands MESSAGE_LIMIT (channel_of (other_direction d)) T)
    (place_of (last_start c e T)) (to_one (layout_of frame)) whole told)

-- ---- a frame to all units

-- it moves no start
begun_still : (x : Dir) (T : List Entry) (e : Entry) (begun : Option FramePlace) → e.channel ≡ on.Functional → IsBegunAt MESSAGE_LIMIT x T begun
    → IsBegunAt MESSAGE_LIMIT x (T ++ e ∷ []) begun
begun_still x T e begun is so earlier =
    let c : Channel = channel_of x in
    let quiet : last_start c earlier (T ++ e ∷ []) ≡ last_start c earlier T =
    last_start_more c earlier T e ∙ ap (λ r. if starts_message r then e else last_start c earlier T) (functional_has_no_part x e is) in
    let same : stands MESSAGE_LIMIT c (T ++ e ∷ []) ≡ stands MESSAGE_LIMIT c T =
    stood x (T ++ e ∷ []) ∙ ap (λ (r : Receptions). of_direction r x) (functional_frames_stand_alone MESSAGE_LIMIT T e is).untouched ∙ sym (stood x T) in
    so earlier ∙ sym (ap (λ o. at (place_of (last_start c earlier T)) o) same)
    ∙ sym (ap (λ (y : Entry). at (place_of y) (stands MESSAGE_LIMIT c (T ++ e ∷ []))) quiet)
  where
    stood : (x : Dir) (T : List Entry) → stands MESSAGE_LIMIT (channel_of x) T ≡ of_direction (receptions_after MESSAGE_LIMIT T) x
    stood Tester T = refl
    stood Unit T = refl

ends_none : (x : Dir) (event : EventValue) (here : FramePlace) (begun : Option FramePlace) → event.ended ≡ None
    → start_after_event x on.Functional event here begun ≡ begun
ends_none Tester event here begun none = rw none refl
ends_none Unit event here begun none = rw none refl

functional_begun : (x : Dir) (T : List Entry) (e : Entry) (here : FramePlace) (begun : Option FramePlace) → e.channel ≡ on.Functional
    → IsBegunAt MESSAGE_LIMIT x T begun
    → IsBegunAt MESSAGE_LIMIT x (T ++ e ∷ []) (start_after_event x on.Functional (verdict MESSAGE_LIMIT T e) here begun)
functional_begun x T e here begun is so =
    let none = ap (λ (v : EventValue). v.ended) (functional_frames_stand_alone MESSAGE_LIMIT T e is).alone in
    subst (IsBegunAt MESSAGE_LIMIT x (T ++ e ∷ [])) (sym (ends_none x (verdict MESSAGE_LIMIT T e) here begun none)) (begun_still x T e begun is so)

-- and a message to all begins with it
starts_alone : (line micros : ℕ) (r : Result Layout PduFault) (whole : List ℕ) → told_to_all r ≡ message whole
    → starts_message (own_role line micros (to_all r)) ≡ true
starts_alone line micros (Ok (layout.single bytes)) whole is = refl
starts_alone line micros (Ok (layout.first len rx_dl bytes)) whole is = absurd (cc is)
starts_alone line micros (Ok (layout.consecutive sequence_number can_dl bytes)) whole is = absurd (cc is)
starts_alone line micros (Ok (layout.flow_control status)) whole is = absurd (cc is)
starts_alone line micros (Err fault) whole is = absurd (cc is)

starts_there : (line micros : ℕ) (frame : FrameValue) (whole : List ℕ) → told_to_all (layout_of frame) ≡ message whole
    → starts_message (role on.Functional (entry_at line micros on.Functional frame)) ≡ true
unfolding role layout_in
starts_there line micros frame whole is = starts_alone line micros (layout_of frame) whole is

first_functional : (T : List Entry) (line micros : ℕ) (frame : FrameValue) (whole : List ℕ)
    → (verdict MESSAGE_LIMIT T (entry_at line micros on.Functional frame)).verdict ≡ message whole
    → here_at line micros ≡ place_of (first_frame T (entry_at line micros on.Functional frame))
first_functional T line micros frame whole is =
    let e : Entry = entry_at line micros on.Functional frame in
    let told = ap (λ (x : EventValue). x.verdict) (sym (functional_frames_stand_alone MESSAGE_LIMIT T e refl).alone) ∙ is in
    sym (ap place_of (last_start_more on.Functional e T e
    ∙ ap (λ b. if b then e else last_start on.Functional e T) (starts_there line micros frame whole told)))

-- ---- any frame

begun_by : (channel : Channel) (x : Dir) (T : List Entry) (line micros : ℕ) (frame : FrameValue) (before : ReceptionStarts)
    → AreStartsAfter MESSAGE_LIMIT T before
    → IsBegunAt MESSAGE_LIMIT x (T ++ entry_at line micros channel frame ∷ [])
    (start_after_event x channel (verdict MESSAGE_LIMIT T (entry_at line micros channel frame)) (here_at line micros) (reception_start before x))
begun_by on.Tester Tester T line micros frame before are = own_begun Tester T line micros frame before.tester (are Tester)
begun_by on.Tester Unit T line micros frame before are = other_begun Tester T line micros frame before.unit (are Unit)
begun_by on.Unit Tester T line micros frame before are = other_begun Unit T line micros frame before.tester (are Tester)
begun_by on.Unit Unit T line micros frame before are = own_begun Unit T line micros frame before.unit (are Unit)
begun_by on.Functional x T line micros frame before are =
    functional_begun x T (entry_at line micros on.Functional frame) (here_at line micros) (reception_start before x) refl (are x)

first_by : (channel : Channel) (T : List Entry) (line micros : ℕ) (frame : FrameValue) (before : ReceptionStarts) (whole : List ℕ)
    → AreStartsAfter MESSAGE_LIMIT T before
    → (verdict MESSAGE_LIMIT T (entry_at line micros channel frame)).verdict ≡ message whole
    → message_start channel (verdict MESSAGE_LIMIT T (entry_at line micros channel frame)) (here_at line micros) (reception_start before (dir_of channel))
    ≡ place_of (first_frame T (entry_at line micros channel frame))
first_by on.Tester T line micros frame before whole are completes = first_of Tester T line micros frame before.tester whole (are Tester) completes
first_by on.Unit T line micros frame before whole are completes = first_of Unit T line micros frame before.unit whole (are Unit) completes
first_by on.Functional T line micros frame before whole are completes = first_functional T line micros frame whole completes

module _ (T : List Entry) (e : Entry) (here : FramePlace) (channel : Channel) (event : Event) (is : IsEventOf T e here.line here.micros channel event)
    (before : ReceptionStarts) (are : AreStartsAfter MESSAGE_LIMIT T before) where
  -- what one more frame moves them to are the starts after it
  pub starts_next : (moved : ReceptionStarts)
      → ((x : Dir) → reception_start moved x ≡ start_after_event x channel (seen_event event) here (reception_start before x))
      → AreStartsAfter MESSAGE_LIMIT (T ++ e ∷ []) moved
  starts_next moved by x =
      subst (λ b. IsBegunAt MESSAGE_LIMIT x (T ++ e ∷ []) b)
      (sym (by x ∙ (λ i. start_after_event x (sym is.channel i) (is.did i) (here_at (sym is.line i) (sym is.micros i)) (reception_start before x))))
      (begun_by e.channel x T e.line e.micros e.frame before are)

  -- and a message that it completes begins where its first frame stands
  pub begins_at : CompletesMessage MESSAGE_LIMIT T e → (first : FramePlace)
      → first ≡ message_start channel (seen_event event) here (reception_start before (dir_of channel))
      → first ≡ place_of (first_frame T e)
  begins_at (whole, completes) first first_is =
      first_is ∙ (λ i. message_start (sym is.channel i) (is.did i) (here_at (sym is.line i) (sym is.micros i))
      (reception_start before (dir_of (sym is.channel i))))
      ∙ first_by e.channel T e.line e.micros e.frame before whole are completes
