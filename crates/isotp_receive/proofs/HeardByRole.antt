-- What a frame tells a direction, by the role that it has for it: the message that it completes, or nothing.
use Rattle.std.proofs.Common.{◌≡◌, ℕ, List, [], ◌∷◌, ◌++◌, take, nat_le, ◌==◌, Option, Some, None, Result, Ok, Err, refl, sym, ap, cond, inl, inr}
use Rattle.std.proofs.lemmas.Bool.{cases_Bool}
use Rattle.isotp_receive.specs.Channels.{other_channel}
use Rattle.isotp_receive.specs.declared.channel.Channel.{Channel}
use Rattle.isotp_pdu.specs.Layout.{Layout}
use Rattle.isotp_pdu.specs.Layout as layout
use Rattle.isotp_pdu.specs.declared.Status.TheVariants.{Continue, Wait, Overflow}
use Rattle.isotp_receive.specs.declared.event.Reason.TheVariants as as_reason
use Rattle.isotp_receive.specs.Trace.{Entry, FrameRole, single, first, consecutive, continue_or_wait, overflow, no_part, role, own_role, other_role}
use Rattle.isotp_receive.specs.Fit.{Fit, late, wrong_number, wrong_length, one_more, last}
use Rattle.isotp_receive.specs.StandingReception.{StandingReception, fit_of, stands}
use Rattle.isotp_receive.specs.Verdict.{began, dropped, verdict, on_fit, on_layout, on_continue_or_wait, on_overflow}
use Rattle.isotp_receive.proofs.Heard.{placed}
use Rattle.isotp_receive.proofs.Directions.{same}
use Rattle.isotp_receive.specs.Channels.{same_channel}
use Rattle.isotp_receive.specs.Channels.{dir_of}
use Rattle.isotp_receive.specs.Trace.{layout_in}
use Rattle.isotp_receive.specs.declared.event.Reason.{Reason}
use Rattle.direction.specs.declared.Dir.{Dir}
use Rattle.direction.specs.Dir.{other_direction}

-- the message that a frame of this role completes, where this stands
abbrev pub completed_by : Fit → StandingReception → List ℕ → List (List ℕ)
completed_by last s bytes = take s.len (s.bytes ++ bytes) ∷ []
completed_by one_more s bytes = []
completed_by late s bytes = []
completed_by wrong_number s bytes = []
completed_by wrong_length s bytes = []

abbrev pub completed : Option StandingReception → ℕ → FrameRole → List (List ℕ)
completed o micros (single m) = m ∷ []
completed None micros (consecutive sequence_number can_dl bytes) = []
completed (Some s) micros (consecutive sequence_number can_dl bytes) = completed_by (fit_of s micros sequence_number can_dl) s bytes
completed o micros (first s) = []
completed o micros continue_or_wait = []
completed o micros overflow = []
completed o micros no_part = []

abbrev pub at_place : ℕ → List (List ℕ) → List (ℕ × List ℕ)
at_place n [] = []
at_place n (m ∷ ms) = (n, m) ∷ []

placed-fit : (n : ℕ) (d : Dir) (s : StandingReception) (fit : Fit) (sequence_number : ℕ) (bytes : List ℕ)
    → placed n (on_fit d s fit sequence_number bytes).verdict ≡ at_place n (completed_by fit s bytes)
placed-fit n d s last sequence_number bytes = refl
placed-fit n d s one_more sequence_number bytes = refl
placed-fit n d s late sequence_number bytes = refl
placed-fit n d s wrong_number sequence_number bytes = refl
placed-fit n d s wrong_length sequence_number bytes = refl

placed-pace : (n : ℕ) (o : Option StandingReception) → placed n (on_continue_or_wait o).verdict ≡ []
placed-pace n None = refl
placed-pace n (Some s) = refl

placed-overflow : (n : ℕ) (d : Dir) (o : Option StandingReception) → placed n (on_overflow d o).verdict ≡ []
placed-overflow n d None = refl
placed-overflow n d (Some s) = elim (cases_Bool (s.taken == 0)) [ inl e ↦ rw e refl | inr e ↦ rw e refl ]

placed-first : (n limit len : ℕ) → placed n (cond (nat_le len limit) began (dropped (as_reason.TooLong len))) ≡ []
placed-first n limit len = elim (cases_Bool (nat_le len limit)) [ inl e ↦ rw e refl | inr e ↦ rw e refl ]

-- what the layout of a frame of the direction itself tells
placed-layout : (n limit : ℕ) (d : Dir) (own others : Option StandingReception) (line micros : ℕ) (x : Result Layout Reason)
    → placed n (on_layout limit d own others micros x).verdict ≡ at_place n (completed own micros (own_role line micros x))
placed-layout n limit d own others line micros (Err f) = refl
placed-layout n limit d own others line micros (Ok (layout.single m)) = refl
placed-layout n limit d own others line micros (Ok (layout.first len rx_dl bytes)) = placed-first n limit len
placed-layout n limit d None others line micros (Ok (layout.consecutive sequence_number can_dl bytes)) = refl
placed-layout n limit d (Some s) others line micros (Ok (layout.consecutive sequence_number can_dl bytes)) =
    placed-fit n d s (fit_of s micros sequence_number can_dl) sequence_number bytes
placed-layout n limit d own others line micros (Ok (layout.flow_control Continue)) = placed-pace n others
placed-layout n limit d own others line micros (Ok (layout.flow_control Wait)) = placed-pace n others
placed-layout n limit d own others line micros (Ok (layout.flow_control Overflow)) = placed-overflow n (other_direction d) others

nothing-else : (o : Option StandingReception) (micros : ℕ) (x : Result Layout Reason) → completed o micros (other_role x) ≡ []
nothing-else o micros (Err f) = refl
nothing-else o micros (Ok (layout.single m)) = refl
nothing-else o micros (Ok (layout.first len rx_dl bytes)) = refl
nothing-else o micros (Ok (layout.consecutive sequence_number can_dl bytes)) = refl
nothing-else o micros (Ok (layout.flow_control Continue)) = refl
nothing-else o micros (Ok (layout.flow_control Wait)) = refl
nothing-else o micros (Ok (layout.flow_control Overflow)) = refl

-- what a frame tells a direction, by its role
pub told-by-role : (limit : ℕ) (d : Channel) (n : ℕ) (past : List Entry) (e : Entry)
    → cond (same_channel d e.channel) (placed n (verdict limit past e).verdict) [] ≡ at_place n (completed (stands limit d past) e.micros (role d e))
unfolding verdict role
told-by-role limit d n past e =
    elim (cases_Bool (same_channel d e.channel)) [
      | inl q ↦ rw q (rw (same d e.channel q) (placed-layout n limit (dir_of e.channel) (stands limit e.channel past) (stands limit (other_channel e.channel) past) e.line e.micros (layout_in e)))
      | inr q ↦ rw q (ap (at_place n) (sym (nothing-else (stands limit d past) e.micros (layout_in e))))
    ]
