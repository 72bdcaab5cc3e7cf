-- Where the receptions that stand began, moved by what one frame does.
use Rattle.std.proofs.Common.{◌≡◌, Bool, true, false, List, [], ℕ, Option, None, Some, refl}
use Rattle.std.specs.Prelude.{unwrap_or, if◌then◌else◌}
use Rattle.direction.specs.declared.Dir.{Dir}
use Rattle.direction.specs.declared.Dir.TheVariants.{Tester, Unit}
use Rattle.isotp_receive.specs.Channels.{dir_of}
use Rattle.isotp_receive.specs.declared.TheConstants.{MESSAGE_LIMIT}
use Rattle.isotp_receive.specs.declared.channel.Channel.{Channel}
use Rattle.isotp_receive.specs.declared.channel.Channel.TheVariants as on
use Rattle.isotp_receive.specs.declared.channel.Channel.TheVariants.{Functional}
use Rattle.isotp_receive.specs.declared.event.Reason.{Reason}
use Rattle.isotp_receive.specs.Trace.{same_direction}
use Rattle.isotp_receive.specs.Verdict.{EventValue, message, began, stored, flowed, dropped}
use Rattle.trace_canon.specs.ReceptionStarts.{AreStartsAfter, reception_start, still_begun, start_after_event, start_after_verdict, message_start}
use Rattle.trace_canon.specs.declared.reception_starts.FramePlace.{FramePlace}
use Rattle.trace_canon.specs.declared.reception_starts.ReceptionStarts.{ReceptionStarts}

-- before the first frame none stands
pub none_begun : AreStartsAfter MESSAGE_LIMIT [] (record { tester = None; unit = None })
none_begun Tester earlier = refl
none_begun Unit earlier = refl

-- that of one direction is another now
pub of_tester : (begun : Option FramePlace) (old : ReceptionStarts) (d : Dir)
    → reception_start (record { tester = begun; unit = old.unit }) d
    ≡ (if same_direction d Tester then begun else reception_start old d)
of_tester begun old Tester = refl
of_tester begun old Unit = refl

pub of_unit : (begun : Option FramePlace) (old : ReceptionStarts) (d : Dir)
    → reception_start (record { tester = old.tester; unit = begun }) d
    ≡ (if same_direction d Unit then begun else reception_start old d)
of_unit begun old Tester = refl
of_unit begun old Unit = refl

module _ (here : FramePlace) (begun : Option FramePlace) where
  -- it is over with a message
  pub over : (own : Bool) (bytes : List ℕ) → (if own then None else begun) ≡ start_after_verdict own (message bytes) here begun
  over true bytes = refl
  over false bytes = refl

  -- it begins with a first frame
  pub anew : (own : Bool) → (if own then Some here else begun) ≡ start_after_verdict own began here begun
  anew true = refl
  anew false = refl

  -- and else it goes on
  pub on_stored : (own : Bool) → begun ≡ start_after_verdict own stored here begun
  on_stored true = refl
  on_stored false = refl

  pub on_flow : (own : Bool) → begun ≡ start_after_verdict own flowed here begun
  on_flow true = refl
  on_flow false = refl

  pub on_drop : (own : Bool) (reason : Reason) → begun ≡ start_after_verdict own (dropped reason) here begun
  on_drop true reason = refl
  on_drop false reason = refl

-- A frame to all units moves none, and a message to them begins with it.
pub moved_by_all : (channel : Channel) (d : Dir) (event : EventValue) (here : FramePlace) (begun : Option FramePlace) → channel ≡ Functional
    → still_begun d event.ended begun ≡ start_after_event d channel event here begun
moved_by_all Functional Tester event here begun is = refl
moved_by_all Functional Unit event here begun is = refl
moved_by_all on.Tester d event here begun is = absurd (cc)
moved_by_all on.Unit d event here begun is = absurd (cc)

pub first_here : (channel : Channel) (event : EventValue) (here : FramePlace) (begun : Option FramePlace) → channel ≡ Functional
    → here ≡ message_start channel event here begun
first_here Functional event here begun is = refl
first_here on.Tester event here begun is = absurd (cc)
first_here on.Unit event here begun is = absurd (cc)

-- Any other frame moves that of its side, and a message of it begins where that stood.
pub moved_on : (channel : Channel) (sender d : Dir) (event : EventValue) (here : FramePlace) (begun : Option FramePlace) → sender ≡ dir_of channel
    → (channel ≡ Functional → ⊥)
    → start_after_verdict (same_direction d sender) event.verdict here (still_begun d event.ended begun) ≡ start_after_event d channel event here begun
moved_on on.Tester sender Tester event here begun is apart = rw is refl
moved_on on.Tester sender Unit event here begun is apart = rw is refl
moved_on on.Unit sender Tester event here begun is apart = rw is refl
moved_on on.Unit sender Unit event here begun is apart = rw is refl
moved_on Functional sender d event here begun is apart = absurd (apart refl)

pub first_on : (channel : Channel) (sender : Dir) (event : EventValue) (here : FramePlace) (starts : ReceptionStarts) → sender ≡ dir_of channel
    → (channel ≡ Functional → ⊥)
    → unwrap_or (still_begun sender event.ended (reception_start starts sender)) here
    ≡ message_start channel event here (reception_start starts (dir_of channel))
first_on on.Tester sender event here starts is apart = rw is refl
first_on on.Unit sender event here starts is apart = rw is refl
first_on Functional sender event here starts is apart = absurd (apart refl)
