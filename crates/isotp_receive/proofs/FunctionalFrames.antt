-- Frames that are sent to all: no reception stands for them, and they touch none.
use Rattle.std.proofs.Common.{◌≡◌, ℕ, List, [], ◌∷◌, ◌++◌, Option, None, Result, Ok, Err, refl, sym, subst, ◌∙◌, ap, arith}
use Rattle.std.specs.Prelude.{if◌then◌else◌}
use Rattle.isotp_pdu.specs.Layout.{Layout}
use Rattle.isotp_pdu.specs.Layout as layout
use Rattle.isotp_pdu.specs.Reading.{layout_of}
use Rattle.isotp_pdu.specs.declared.PduFault.{PduFault}
use Rattle.can_log.specs.Frame.{FrameValue}
use Rattle.isotp_pdu.specs.declared.Status.TheVariants.{Continue, Wait, Overflow}
use Rattle.direction.specs.declared.Dir.TheVariants as dir
use Rattle.isotp_receive.specs.declared.event.Reason.{Reason}
use Rattle.isotp_receive.specs.proving.Machine.{after}
use Rattle.isotp_receive.specs.Verdict.{EventValue, VerdictValue, told_to_all, on_layout, verdict}
use Rattle.isotp_receive.specs.Channels.{same_channel, channel_of, to_all, layout_on}
use Rattle.isotp_receive.specs.declared.channel.Channel.{Channel}
use Rattle.isotp_receive.specs.declared.channel.Channel.TheVariants.{Tester, Unit, Functional}
use Rattle.isotp_receive.specs.Trace.{Entry, no_part, role, own_role, other_role, layout_in}
use Rattle.isotp_receive.specs.StandingReception.{StandingReception, Receptions, since, stands, or_else, receptions_after}
use Rattle.direction.specs.declared.Dir.{Dir}
use Rattle.isotp_receive.specs.Capacities.{PairValue, CapacitiesGrow}
use Rattle.isotp_receive.specs.Laws.{FunctionalFramesStandAlone}
use Rattle.isotp_receive.proofs.OneMore.{one_more}

-- ---- none of them begins a reception

own-begins : (limit line micros : ℕ) (r : Result Layout PduFault) (rest : List Entry) → since limit Functional (own_role line micros (to_all r)) rest ≡ None
own-begins limit line micros (Ok (layout.single message)) rest = refl
own-begins limit line micros (Ok (layout.first len rx_dl bytes)) rest = refl
own-begins limit line micros (Ok (layout.consecutive sequence_number can_dl bytes)) rest = refl
own-begins limit line micros (Ok (layout.flow_control status)) rest = refl
own-begins limit line micros (Err fault) rest = refl

other-begins : (limit : ℕ) (r : Result Layout Reason) (rest : List Entry) → since limit Functional (other_role r) rest ≡ None
other-begins limit (Ok (layout.flow_control Continue)) rest = refl
other-begins limit (Ok (layout.flow_control Wait)) rest = refl
other-begins limit (Ok (layout.flow_control Overflow)) rest = refl
other-begins limit (Ok (layout.single message)) rest = refl
other-begins limit (Ok (layout.first len rx_dl bytes)) rest = refl
other-begins limit (Ok (layout.consecutive sequence_number can_dl bytes)) rest = refl
other-begins limit (Err why) rest = refl

begins : (limit : ℕ) (c : Channel) (line micros : ℕ) (r : Result Layout PduFault) (rest : List Entry)
    → since limit Functional (if same_channel Functional c then own_role line micros (layout_on c r) else other_role (layout_on c r)) rest ≡ None
begins limit Functional line micros r rest = own-begins limit line micros r rest
begins limit Tester line micros r rest = other-begins limit (layout_on Tester r) rest
begins limit Unit line micros r rest = other-begins limit (layout_on Unit r) rest

pub nothing-functional : (limit : ℕ) (T : List Entry) → stands limit Functional T ≡ None
unfolding role layout_in
nothing-functional limit [] = refl
nothing-functional limit (e ∷ rest) =
    ap (λ a. or_else a (stands limit Functional rest)) (begins limit e.channel e.line e.micros (layout_of e.frame) rest) ∙ nothing-functional limit rest

-- ---- none of them has a part in another

no-part : (r : Result Layout PduFault) → other_role (to_all r) ≡ no_part
no-part (Ok (layout.single message)) = refl
no-part (Ok (layout.first len rx_dl bytes)) = refl
no-part (Ok (layout.consecutive sequence_number can_dl bytes)) = refl
no-part (Ok (layout.flow_control status)) = refl
no-part (Err fault) = refl

-- a frame of these parts, and one that is sent to all
abbrev on : ℕ → ℕ → Channel → FrameValue → Entry
on line micros channel frame = record { line = line; micros = micros; channel = channel; frame = frame }

abbrev to_all_units : ℕ → ℕ → FrameValue → Entry
to_all_units line micros frame = record { line = line; micros = micros; channel = Functional; frame = frame }

untouched : (limit : ℕ) (T : List Entry) (line micros : ℕ) (frame : FrameValue)
    → receptions_after limit T ≡ receptions_after limit (T ++ to_all_units line micros frame ∷ [])
unfolding role layout_in
untouched limit T line micros frame =
    let e = to_all_units line micros frame in
    let tester : stands limit Tester (T ++ e ∷ []) ≡ stands limit Tester T =
    one_more limit Tester T e ∙ ap (after limit (stands limit Tester T) micros) (no-part (layout_of frame)) in
    let unit : stands limit Unit (T ++ e ∷ []) ≡ stands limit Unit T =
    one_more limit Unit T e ∙ ap (after limit (stands limit Unit T) micros) (no-part (layout_of frame)) in
    rw (tester, unit) refl

-- ---- and what each does is told by itself alone

alone : (limit micros : ℕ) (own others : Option StandingReception) (r : Result Layout PduFault) → own ≡ None
    → record { ended = None; verdict = told_to_all r } ≡ on_layout limit dir.Tester own others micros (to_all r)
alone limit micros own others (Ok (layout.single message)) h = rw h refl
alone limit micros own others (Ok (layout.first len rx_dl bytes)) h = refl
alone limit micros own others (Ok (layout.consecutive sequence_number can_dl bytes)) h = refl
alone limit micros own others (Ok (layout.flow_control status)) h = refl
alone limit micros own others (Err fault) h = refl

told-alone : (limit : ℕ) (T : List Entry) (line micros : ℕ) (frame : FrameValue)
    → record { ended = None; verdict = told_to_all (layout_of frame) } ≡ verdict limit T (to_all_units line micros frame)
unfolding verdict layout_in
told-alone limit T line micros frame =
    alone limit micros (stands limit Functional T) (stands limit Unit T) (layout_of frame) (nothing-functional limit T)

-- ---- so it is for any frame of the channel

part-of : (x : Dir) (line micros : ℕ) (frame : FrameValue) → role (channel_of x) (to_all_units line micros frame) ≡ no_part
unfolding role layout_in
part-of dir.Tester line micros frame = no-part (layout_of frame)
part-of dir.Unit line micros frame = no-part (layout_of frame)

-- it has no part in the receptions of a side
pub functional-has-no-part : (x : Dir) (e : Entry) → e.channel ≡ Functional → role (channel_of x) e ≡ no_part
functional-has-no-part x e is = subst (λ c. role (channel_of x) (on e.line e.micros c e.frame) ≡ no_part) (sym is) (part-of x e.line e.micros e.frame)

pub functional_frames_stand_alone : FunctionalFramesStandAlone
functional_frames_stand_alone limit T e is = record {
  untouched =
      subst (λ c. receptions_after limit (T ++ on e.line e.micros c e.frame ∷ []) ≡ receptions_after limit T) (sym is)
      (sym (untouched limit T e.line e.micros e.frame));
  none_stands = nothing-functional limit T;
  alone =
      subst (λ c. verdict limit T (on e.line e.micros c e.frame) ≡ record { ended = None; verdict = told_to_all (layout_of e.frame) }) (sym is)
      (sym (told-alone limit T e.line e.micros e.frame));
}

-- ---- what a pair is that took one: as it was

pub stands-as-was : (limit : ℕ) (T : List Entry) (e : Entry) (old : Receptions) → e.channel ≡ Functional
    → old ≡ receptions_after limit T → old ≡ receptions_after limit (T ++ e ∷ [])
stands-as-was limit T e old is stood = stood ∙ sym (functional_frames_stand_alone limit T e is).untouched

pub told-as-all : (limit : ℕ) (T : List Entry) (e : Entry) (event : EventValue) (told : VerdictValue) (x : Result Layout PduFault) → e.channel ≡ Functional
    → event ≡ record { ended = None; verdict = told } → told ≡ told_to_all x → x ≡ layout_of e.frame → event ≡ verdict limit T e
told-as-all limit T e event told x is made says read =
    made ∙ ap (λ t. record { ended = None; verdict = t }) (says ∙ ap told_to_all read) ∙ sym (functional_frames_stand_alone limit T e is).alone

pub grows-none : (limit : ℕ) (d : Dir) (said : Result Layout Reason) (pair : PairValue) → CapacitiesGrow limit d said pair pair
grows-none limit d said pair = record { own = record { stays = omega arith; within_announced = omega arith; within_twice_come = omega arith }; other = refl }
