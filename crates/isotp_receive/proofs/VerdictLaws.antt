-- The verdict on a frame is the one that the table has.
use Rattle.std.proofs.Common.{zero, inl, inr, nat_le, Option, ◌≡◌, ℕ, suc, ◌+◌, List, [], ◌∷◌, ◌++◌, length, ◌==◌, Some, None, Result, Ok, Err, refl, sym, ◌∙◌, ap}
use Rattle.std.proofs.Common.{arith, cond, subst}
use Rattle.std.specs.Prelude.{◌↔◌, ◌≢◌}
use Rattle.std.proofs.lemmas.Bool.{ne_eqb, le-leb, lt-leb, leb-true, leb-false, cases_Bool}
use Rattle.std.proofs.lemmas.Option.{none-some}
use Rattle.isotp_receive.specs.Channels.{other_channel}
use Rattle.isotp_receive.specs.declared.channel.Channel.{Channel}
use Rattle.isotp_pdu.specs.Layout.{Layout}
use Rattle.isotp_pdu.specs.Layout as layout
use Rattle.isotp_pdu.specs.declared.Status.{Status}
use Rattle.isotp_pdu.specs.declared.Status.TheVariants.{Continue, Wait, Overflow}
use Rattle.isotp_receive.specs.declared.event.Cause.{Cause}
use Rattle.isotp_receive.specs.declared.event.Cause.TheVariants as cause
use Rattle.isotp_receive.specs.declared.event.Ended.{Ended}
use Rattle.isotp_receive.specs.declared.event.Reason.TheVariants as reason
use Rattle.isotp_receive.specs.Trace.{Entry, consecutive, role}
use Rattle.isotp_receive.specs.Places.{bytes_in_first}
use Rattle.isotp_receive.specs.OnTime.{IsOnTime}
use Rattle.isotp_receive.specs.Fit.{Fit, FitsSo}
use Rattle.isotp_receive.specs.StandingReception.{StandingReception, stands}
use Rattle.isotp_receive.specs.Verdict.{EventValue, VerdictValue, message, began, flowed, dropped, refused, ended_as, on_overflow, verdict, on_layout, on_consecutive}
use Rattle.isotp_receive.specs.VerdictTable.{IsOpenBefore, FitsNext, NothingOpen, ended_by, EndsByNewStart, HasVerdict, no_layout, single_frame, first_frame, too_long, next_unexpected, next_late}
use Rattle.isotp_receive.specs.VerdictTable.{wrong_number, wrong_length, stored_frame, last_frame, flow_unexpected, flow, overflow_in_time, overflow_too_late}
use Rattle.isotp_receive.specs.Delivers.{in_frames}
use Rattle.isotp_receive.proofs.ListPositions.{get-same, get-here}
use Rattle.isotp_receive.proofs.Directions.{same-self}
use Rattle.isotp_receive.proofs.FitTests.{last-ends-nothing}
use Rattle.isotp_receive.proofs.StandingLaws.{stands-open, open-stands}
use Rattle.isotp_receive.proofs.DeliversLaws.{message-delivers}
use Rattle.isotp_receive.proofs.FittedFrames as fitted
use Rattle.isotp_receive.proofs.FittedFrames.{on-own, ended-is}
use Rattle.isotp_receive.specs.Channels.{dir_of}
use Rattle.isotp_receive.specs.Trace.{layout_in}
use Rattle.isotp_receive.specs.declared.event.Reason.{Reason}
use Rattle.direction.specs.declared.Dir.{Dir}
use Rattle.direction.specs.Dir.{other_direction}

-- ---- the verdict, by the layout of the frame

verdict-by : (limit : ℕ) (T : List Entry) (e : Entry) (x : Result Layout Reason) → layout_in e ≡ x
    → verdict limit T e ≡ on_layout limit (dir_of e.channel) (stands limit e.channel T) (stands limit (other_channel e.channel) T) e.micros x
unfolding verdict
verdict-by limit T e x h = ap (on_layout limit (dir_of e.channel) (stands limit e.channel T) (stands limit (other_channel e.channel) T) e.micros) h

role-by : (e : Entry) (sequence_number can_dl : ℕ) (bytes : List ℕ) → layout_in e ≡ Ok (layout.consecutive sequence_number can_dl bytes)
    → role e.channel e ≡ consecutive sequence_number can_dl bytes
unfolding role
role-by e sequence_number can_dl bytes h = rw (same-self e.channel, h) refl

both : (a : EventValue) (x : Option Ended) (t : VerdictValue) → a.ended ≡ x → a.verdict ≡ t → a ≡ record { ended = x; verdict = t }
both a x t h g = ap (λ y. record { ended = y; verdict = a.verdict }) h ∙ ap (λ y. record { ended = x; verdict = y }) g

no-flow : (limit : ℕ) (d : Dir) (own others : Option StandingReception) (micros : ℕ) (s : Status) → others ≡ None
    → on_layout limit d own others micros (Ok (layout.flow_control s)) ≡ refused None reason.FlowUnexpected
no-flow limit d own others micros Continue h = rw h refl
no-flow limit d own others micros Wait h = rw h refl
no-flow limit d own others micros Overflow h = rw h refl

moves-on : (limit : ℕ) (d : Dir) (own others : Option StandingReception) (micros : ℕ) (s : Status) (st : StandingReception) → s ≢ Overflow → others ≡ Some st
    → on_layout limit d own others micros (Ok (layout.flow_control s)) ≡ record { ended = None; verdict = flowed }
moves-on limit d own others micros Continue st apart h = rw h refl
moves-on limit d own others micros Wait st apart h = rw h refl
moves-on limit d own others micros Overflow st apart h = absurd (apart refl)

-- ---- what is open, and what stands

module _ (limit : ℕ) (T : List Entry) (e : Entry) where
  none-open : (d : Channel) → NothingOpen limit T e d → stands limit d T ≡ None
  none-open d none = by_case (stands limit d T) refl where
    by_case : (o : Option StandingReception) → stands limit d T ≡ o → o ≡ None
    by_case None is = refl
    by_case (Some st) is = absurd (let s = stands-open limit T (e ∷ []) d st is in none s.begun s.number s.is_open)

  nothing-open : (d : Channel) → stands limit d T ≡ None → NothingOpen limit T e d
  nothing-open d none i k o = (let w = open-stands limit T (e ∷ []) d i k o in absurd (none-some w.0 (sym none ∙ w.1)))

  some-open : (d : Channel) (x : Dir) (i k : ℕ) (c : Cause) (o : IsOpenBefore limit T e d i k)
      → (st : StandingReception) × (stands limit d T ≡ Some st) × (ended_as c x (Some st) ≡ Some (ended_by x o.begins.start c)) × (st.taken ≡ k)
  some-open d x i k c o =
      let w = open-stands limit T (e ∷ []) d i k o in
      (w.0, w.1, ended-is x o.begins.start w.0 c w.2 w.3, w.4)

  ends-so : (x : Option Ended) → EndsByNewStart limit T e x → ended_as cause.NewStart (dir_of e.channel) (stands limit e.channel T) ≡ x
  ends-so None none = ap (ended_as cause.NewStart (dir_of e.channel)) (none-open e.channel none)
  ends-so (Some x) h =
      let w = some-open e.channel (dir_of e.channel) h.0 h.1 cause.NewStart h.2 in
      ap (ended_as cause.NewStart (dir_of e.channel)) w.1 ∙ w.2 ∙ ap Some (sym h.3)

  new-start : (o : Option StandingReception) → stands limit e.channel T ≡ o → (x : Option Ended) × EndsByNewStart limit T e x
  new-start None is = (None, nothing-open e.channel is)
  new-start (Some st) is =
      let s = stands-open limit T (e ∷ []) e.channel st is in
      (Some (ended_by (dir_of e.channel) s.is_open.begins.start cause.NewStart), (s.begun, s.number, s.is_open, refl))

-- ---- the frame at the end is e

record NextIs (limit : ℕ) (T : List Entry) (e : Entry) (f : Fit) (n : FitsNext limit T e f) : Type 0 where
  kind : role e.channel e ≡ consecutive n.next.sequence_number n.next.can_dl n.next.bytes
  fits : FitsSo (bytes_in_first n.is_open.begins.entry.frame.bytes) n.is_open.begins.start.rx_dl n.is_open.begins.start.len n.is_open.count
      (n.number + 1) n.next.sequence_number n.next.can_dl (IsOnTime (T ++ e ∷ []) e.channel n.begun (length T) e) f

next-is : (limit : ℕ) (T : List Entry) (e : Entry) {f : Fit} (n : FitsNext limit T e f) → NextIs limit T e f n
next-is limit T e {f = f} n =
    let is_e : n.next.entry ≡ e = get-same (T ++ e ∷ []) (length T) n.next.entry e n.next.stands (get-here T [] e) in
    record {
      kind = ap (role e.channel) (sym is_e) ∙ n.next.kind;
      fits = subst (λ x. FitsSo (bytes_in_first n.is_open.begins.entry.frame.bytes) n.is_open.begins.start.rx_dl n.is_open.begins.start.len
          n.is_open.count (n.number + 1) n.next.sequence_number n.next.can_dl (IsOnTime (T ++ e ∷ []) e.channel n.begun (length T) x) f) is_e n.fits;
    }

-- ---- what the table has is the verdict

tabled : (limit : ℕ) (T : List Entry) (e : Entry) (a : EventValue) → HasVerdict limit T e a → verdict limit T e ≡ a
tabled limit T e _ (no_layout f h) = verdict-by limit T e (Err f) h
tabled limit T e _ (single_frame m x h ends) = verdict-by limit T e _ h ∙ ap (λ y. record { ended = y; verdict = message m }) (ends-so limit T e x ends)
tabled limit T e _ (first_frame len rx_dl bytes x h fits ends) =
    verdict-by limit T e _ h
    ∙ both _ x began (ends-so limit T e x ends) (ap (λ b. cond b began (dropped (reason.TooLong len))) (le-leb len limit fits))
tabled limit T e _ (too_long len rx_dl bytes x h over ends) =
    verdict-by limit T e _ h
    ∙ both _ x (dropped (reason.TooLong len)) (ends-so limit T e x ends) (ap (λ b. cond b began (dropped (reason.TooLong len))) (lt-leb len limit over))
tabled limit T e _ (next_unexpected sequence_number can_dl bytes h none) =
    verdict-by limit T e _ h ∙ ap (λ o. on_consecutive (dir_of e.channel) o e.micros sequence_number can_dl bytes) (none-open limit T e e.channel none)
tabled limit T e _ (next_late n) =
    let w = next-is limit T e n in fitted.late limit T e n.begun n.number n.next.sequence_number n.next.can_dl n.next.bytes w.kind n.is_open w.fits
tabled limit T e _ (wrong_number n) =
    let w = next-is limit T e n in
    fitted.number limit T e n.begun n.number n.next.sequence_number n.next.can_dl n.next.bytes w.kind n.is_open w.fits.0 w.fits.1
tabled limit T e _ (wrong_length n) =
    let w = next-is limit T e n in
    fitted.size limit T e n.begun n.number n.next.sequence_number n.next.can_dl n.next.bytes w.kind n.is_open w.fits.0 w.fits.1 w.fits.2
tabled limit T e _ (stored_frame n) =
    let w = next-is limit T e n in
    fitted.kept limit T e n.begun n.number n.next.sequence_number n.next.can_dl n.next.bytes w.kind n.is_open w.fits.0 w.fits.1 w.fits.2
tabled limit T e _ (last_frame m c) =
    let next = c.fit.next in
    let goes = (next-is limit T e c.fit).kind in
    let told = (message-delivers limit T e m).1 (in_frames c) in
    let is = on-own limit T e next.sequence_number next.can_dl next.bytes goes in
    let ends = last-ends-nothing (dir_of e.channel) (stands limit e.channel T) e.micros next.sequence_number next.can_dl next.bytes m (ap (λ a. a.verdict) (sym is) ∙ told) in
    both (verdict limit T e) None (message m) (ap (λ a. a.ended) is ∙ ends) told
tabled limit T e _ (flow_unexpected s h none) =
    verdict-by limit T e _ h
    ∙ no-flow limit (dir_of e.channel) (stands limit e.channel T) (stands limit (other_channel e.channel) T) e.micros s (none-open limit T e (other_channel e.channel) none)
tabled limit T e _ (flow s i k h apart o) =
    let w = some-open limit T e (other_channel e.channel) (other_direction (dir_of e.channel)) i k cause.Overflow o in
    verdict-by limit T e _ h ∙ moves-on limit (dir_of e.channel) (stands limit e.channel T) (stands limit (other_channel e.channel) T) e.micros s w.0 apart w.1
tabled limit T e _ (overflow_in_time i h o) =
    let d = other_direction (dir_of e.channel) in
    let w = some-open limit T e (other_channel e.channel) d i 0 cause.Overflow o in
    verdict-by limit T e _ h ∙ ap (on_overflow d) w.1
    ∙ ap (λ n. cond (n == 0) (record { ended = ended_as cause.Overflow d (Some w.0); verdict = flowed }) (refused None reason.FlowUnexpected)) w.3
    ∙ ap (λ y. record { ended = y; verdict = flowed }) w.2
tabled limit T e _ (overflow_too_late i k h o some) =
    let d = other_direction (dir_of e.channel) in
    let w = some-open limit T e (other_channel e.channel) d i k cause.Overflow o in
    let taken = w.3 in
    verdict-by limit T e _ h ∙ ap (on_overflow d) w.1
    ∙ ap (λ b. cond b (record { ended = ended_as cause.Overflow d (Some w.0); verdict = flowed }) (refused None reason.FlowUnexpected))
    (ne_eqb w.0.taken 0 (λ z. omega (arith, z)))

-- ---- and each frame has a row

consecutive-row : (limit : ℕ) (T : List Entry) (e : Entry) (sequence_number can_dl : ℕ) (bytes : List ℕ) (o : Option StandingReception)
    → layout_in e ≡ Ok (layout.consecutive sequence_number can_dl bytes) → stands limit e.channel T ≡ o → (a : EventValue) × HasVerdict limit T e a
consecutive-row limit T e sequence_number can_dl bytes None h is =
    (refused None reason.NextUnexpected, next_unexpected sequence_number can_dl bytes h (nothing-open limit T e e.channel is))
consecutive-row limit T e sequence_number can_dl bytes (Some st) h is =
    let s = stands-open limit T (e ∷ []) e.channel st is in
    fitted.has-row limit T e s.begun s.number sequence_number can_dl bytes (role-by e sequence_number can_dl bytes h) s.is_open

overflow-row : (limit : ℕ) (T : List Entry) (e : Entry) (i k : ℕ) → layout_in e ≡ Ok (layout.flow_control Overflow)
    → IsOpenBefore limit T e (other_channel e.channel) i k → (a : EventValue) × HasVerdict limit T e a
overflow-row limit T e i zero h o = (_, overflow_in_time i h o)
overflow-row limit T e i (suc k) h o = (refused None reason.FlowUnexpected, overflow_too_late i (suc k) h o (omega arith))

flow-row : (limit : ℕ) (T : List Entry) (e : Entry) (s : Status) (o : Option StandingReception) → layout_in e ≡ Ok (layout.flow_control s)
    → stands limit (other_channel e.channel) T ≡ o → (a : EventValue) × HasVerdict limit T e a
flow-row limit T e s None h is = (refused None reason.FlowUnexpected, flow_unexpected s h (nothing-open limit T e (other_channel e.channel) is))
flow-row limit T e Continue (Some st) h is =
    let w = stands-open limit T (e ∷ []) (other_channel e.channel) st is in
    (record { ended = None; verdict = flowed }, flow Continue w.begun w.number h (λ same. cc) w.is_open)
flow-row limit T e Wait (Some st) h is =
    let w = stands-open limit T (e ∷ []) (other_channel e.channel) st is in
    (record { ended = None; verdict = flowed }, flow Wait w.begun w.number h (λ same. cc) w.is_open)
flow-row limit T e Overflow (Some st) h is =
    let w = stands-open limit T (e ∷ []) (other_channel e.channel) st is in
    overflow-row limit T e w.begun w.number h w.is_open

row : (limit : ℕ) (T : List Entry) (e : Entry) (x : Result Layout Reason) → layout_in e ≡ x → (a : EventValue) × HasVerdict limit T e a
row limit T e (Err f) h = (refused None f, no_layout f h)
row limit T e (Ok (layout.single m)) h =
    let w = new-start limit T e (stands limit e.channel T) refl in
    (record { ended = w.0; verdict = message m }, single_frame m w.0 h w.1)
row limit T e (Ok (layout.first len rx_dl bytes)) h =
    let w = new-start limit T e (stands limit e.channel T) refl in
    elim (cases_Bool (nat_le len limit)) [
      | inl t ↦ (record { ended = w.0; verdict = began }, first_frame len rx_dl bytes w.0 h (leb-true len limit t) w.1)
      | inr t ↦ (refused w.0 (reason.TooLong len), too_long len rx_dl bytes w.0 h (leb-false len limit t) w.1)
    ]
row limit T e (Ok (layout.consecutive sequence_number can_dl bytes)) h = consecutive-row limit T e sequence_number can_dl bytes (stands limit e.channel T) h refl
row limit T e (Ok (layout.flow_control s)) h = flow-row limit T e s (stands limit (other_channel e.channel) T) h refl

pub table-is-verdict : (limit : ℕ) (T : List Entry) (e : Entry) (a : EventValue) → HasVerdict limit T e a ↔ (verdict limit T e ≡ a)
table-is-verdict limit T e a =
    (tabled limit T e a, λ is. (let w = row limit T e (layout_in e) refl in subst (HasVerdict limit T e) (sym (tabled limit T e w.0 w.1) ∙ is) w.1))
