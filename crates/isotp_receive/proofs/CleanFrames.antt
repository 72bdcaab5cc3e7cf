-- What a frame with a clean verdict may be to a direction, by what stands there.
use Rattle.std.proofs.Common.{◌≡◌, ℕ, ◌≤◌, List, nat_le, ◌==◌, Option, Some, None, Result, Ok, Err, refl, cond, inl, inr}
use Rattle.std.proofs.lemmas.Bool.{cases_Bool, leb-true}
use Rattle.isotp_receive.specs.Channels.{other_channel}
use Rattle.isotp_receive.specs.declared.channel.Channel.{Channel}
use Rattle.isotp_pdu.specs.declared.Status.TheVariants.{Continue, Wait, Overflow}
use Rattle.isotp_pdu.specs.Layout.{Layout}
use Rattle.isotp_pdu.specs.Layout as layout
use Rattle.isotp_receive.specs.declared.event.Reason.TheVariants as as_reason
use Rattle.isotp_receive.specs.declared.event.Cause.{Cause}
use Rattle.isotp_receive.specs.Trace.{Entry, FirstFrame, FrameRole, single, first, consecutive, continue_or_wait, no_part, role, own_role, other_role}
use Rattle.isotp_receive.specs.Fit.{Fit, late, wrong_number, wrong_length, one_more, last}
use Rattle.isotp_receive.specs.StandingReception.{StandingReception, fit_of, stands}
use Rattle.isotp_receive.specs.Verdict.{began, dropped, verdict, on_fit, on_layout, on_overflow, ended_as}
use Rattle.isotp_receive.specs.CleanTrace.{IsKept}
use Rattle.isotp_receive.proofs.Directions.{same}
use Rattle.isotp_receive.specs.Channels.{same_channel}
use Rattle.isotp_receive.specs.Channels.{dir_of}
use Rattle.isotp_receive.specs.Trace.{layout_in}
use Rattle.isotp_receive.specs.declared.event.Reason.{Reason}
use Rattle.direction.specs.declared.Dir.{Dir}
use Rattle.direction.specs.Dir.{other_direction}

-- what a frame of this role may be where o stands
pub data Turn (limit : ℕ) (o : Option StandingReception) (micros : ℕ) : FrameRole → Type 0 where
  t_single : (m : List ℕ) → o ≡ None → Turn limit o micros (single m)
  t_first : (s : FirstFrame) → o ≡ None → s.len ≤ limit → Turn limit o micros (first s)
  t_more : (st : StandingReception) (sequence_number can_dl : ℕ) (bytes : List ℕ) → o ≡ Some st → fit_of st micros sequence_number can_dl ≡ one_more
      → Turn limit o micros (consecutive sequence_number can_dl bytes)
  t_last : (st : StandingReception) (sequence_number can_dl : ℕ) (bytes : List ℕ) → o ≡ Some st → fit_of st micros sequence_number can_dl ≡ last
      → Turn limit o micros (consecutive sequence_number can_dl bytes)
  t_continue_or_wait : Turn limit o micros continue_or_wait
  t_no_part : Turn limit o micros no_part

-- ---- to its own direction

not-ended : (c : Cause) (d : Dir) (o : Option StandingReception) → ended_as c d o ≡ None → o ≡ None
not-ended c d None h = refl
not-ended c d (Some s) h = absurd (cc)

kept-first : (limit len : ℕ) → IsKept (cond (nat_le len limit) began (dropped (as_reason.TooLong len))) → len ≤ limit
kept-first limit len h = elim (cases_Bool (nat_le len limit)) [
  | inl t ↦ leb-true len limit t
  | inr t ↦ absurd (rw t at h)
]

turn-fit : (limit : ℕ) (d : Dir) (st : StandingReception) (micros sequence_number can_dl : ℕ) (bytes : List ℕ) (fit : Fit)
    → fit_of st micros sequence_number can_dl ≡ fit → IsKept (on_fit d st fit sequence_number bytes).verdict
    → Turn limit (Some st) micros (consecutive sequence_number can_dl bytes)
turn-fit limit d st micros sequence_number can_dl bytes one_more e h = t_more st sequence_number can_dl bytes refl e
turn-fit limit d st micros sequence_number can_dl bytes last e h = t_last st sequence_number can_dl bytes refl e
turn-fit limit d st micros sequence_number can_dl bytes late e h = absurd h
turn-fit limit d st micros sequence_number can_dl bytes wrong_number e h = absurd h
turn-fit limit d st micros sequence_number can_dl bytes wrong_length e h = absurd h

turn-own : (limit : ℕ) (d : Dir) (own others : Option StandingReception) (line micros : ℕ) (r : Result Layout Reason)
    → (on_layout limit d own others micros r).ended ≡ None → IsKept (on_layout limit d own others micros r).verdict → Turn limit own micros (own_role line micros r)
turn-own limit d own others line micros (Err f) h k = absurd k
turn-own limit d own others line micros (Ok (layout.single m)) h k = t_single m (not-ended _ d own h)
turn-own limit d own others line micros (Ok (layout.first len rx_dl bytes)) h k = t_first _ (not-ended _ d own h) (kept-first limit len k)
turn-own limit d None others line micros (Ok (layout.consecutive sequence_number can_dl bytes)) h k = absurd k
turn-own limit d (Some st) others line micros (Ok (layout.consecutive sequence_number can_dl bytes)) h k =
    turn-fit limit d st micros sequence_number can_dl bytes (fit_of st micros sequence_number can_dl) refl
    k
turn-own limit d own others line micros (Ok (layout.flow_control s)) h k = t_no_part

-- ---- to the other one

no-overflow : (d : Dir) (o : Option StandingReception) → (on_overflow d o).ended ≡ None → IsKept (on_overflow d o).verdict → ⊥
no-overflow d None h k = k
no-overflow d (Some s) h k = elim (cases_Bool (s.taken == 0)) [
  | inl t ↦ (let e = rw t at h in cc)
  | inr t ↦ rw t at k
]

turn-other : (limit : ℕ) (d : Dir) (own others o : Option StandingReception) (micros : ℕ) (r : Result Layout Reason)
    → (on_layout limit d own others micros r).ended ≡ None → IsKept (on_layout limit d own others micros r).verdict → Turn limit o micros (other_role r)
turn-other limit d own others o micros (Err f) h k = t_no_part
turn-other limit d own others o micros (Ok (layout.single m)) h k = t_no_part
turn-other limit d own others o micros (Ok (layout.first len rx_dl bytes)) h k = t_no_part
turn-other limit d own others o micros (Ok (layout.consecutive sequence_number can_dl bytes)) h k = t_no_part
turn-other limit d own others o micros (Ok (layout.flow_control Continue)) h k = t_continue_or_wait
turn-other limit d own others o micros (Ok (layout.flow_control Wait)) h k = t_continue_or_wait
turn-other limit d own others o micros (Ok (layout.flow_control Overflow)) h k = absurd (no-overflow (other_direction d) others h k)

pub turn : (limit : ℕ) (d : Channel) (past : List Entry) (e : Entry) → (verdict limit past e).ended ≡ None → IsKept (verdict limit past e).verdict
    → Turn limit (stands limit d past) e.micros (role d e)
unfolding verdict role
turn limit d past e h k =
    let own = stands limit e.channel past in
    let others = stands limit (other_channel e.channel) past in
    elim (cases_Bool (same_channel d e.channel)) [
      | inl t ↦ rw t (rw (same d e.channel t) (turn-own limit (dir_of e.channel) own others e.line e.micros (layout_in e) h k))
      | inr t ↦ rw t (turn-other limit (dir_of e.channel) own others (stands limit d past) e.micros (layout_in e) h k)
    ]
