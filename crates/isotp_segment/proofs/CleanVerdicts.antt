-- The verdict on a frame that an open reception waits for, or that begins where none is open, by the public laws of
-- `isotp_receive`.
use Rattle.std.proofs.Common.{◌≡◌, ℕ, ◌+◌, ◌%◌, ◌≤◌, ◌==◌, true, List, ◌++◌, length, nat_le, Option, Some, None, Ok, refl, sym, ◌∙◌, ap, arith, subst}
use Rattle.std.proofs.lemmas.Bool.{le-leb, eq-eqb, cond_both}
use Rattle.isotp_receive.specs.Channels.{dir_of, other_channel}
use Rattle.isotp_receive.specs.declared.channel.Channel.{Channel}
use Rattle.isotp_pdu.specs.declared.Status.TheVariants.{Continue}
use Rattle.isotp_pdu.specs.Layout as layout
use Rattle.isotp_receive.specs.Trace.{Entry, At, layout_in}
use Rattle.isotp_receive.specs.Places.{bytes_in_first, bytes_before, FitsAs}
use Rattle.isotp_receive.specs.OnTime.{n_cr, IsReference, IsOnTime}
use Rattle.isotp_receive.specs.Fit.{one_more, last}
use Rattle.isotp_receive.specs.StandingReception.{StandingReception, fits_length, stays_incomplete, stands}
use Rattle.isotp_receive.specs.OpenReception.{IsOpenAt}
use Rattle.isotp_receive.specs.Verdict.{on_fit, verdict}
use Rattle.isotp_receive.specs.CleanTrace.{IsCleanEvent}
use Rattle.isotp_receive.proofs.Promises.{what_stands_is_open, what_is_open_stands, one_is_open, places_agree_on_fit, one_reference}
use Rattle.isotp_segment.proofs.OpenReceptions.{IsClosedAt, same-entry}

-- Where a reception is open after T, whatever follows.
module _ (limit : ℕ) (T rest : List Entry) (d : Channel) (begun number : ℕ)
    (reception : IsOpenAt limit (T ++ rest) d begun number (length T)) where
  abbrev in_first : ℕ
  in_first = bytes_in_first reception.begins.entry.frame.bytes

  -- what is known of it
  record IsKnown (standing : StandingReception) : Type 0 where
    standing_there : stands limit d T ≡ Some standing
    len : standing.len ≡ reception.begins.start.len
    rx_dl : standing.rx_dl ≡ reception.begins.start.rx_dl
    taken : standing.taken ≡ number
    size : length standing.bytes ≡ bytes_before in_first reception.begins.start.rx_dl number
    on_time : (e : Entry) → IsOnTime (T ++ rest) d begun (length T) e → e.micros ≤ standing.reference + n_cr

  known : (standing : StandingReception) × IsKnown standing
  known =
      let found = what_is_open_stands limit T rest d begun number reception in
      let all = what_stands_is_open limit T rest d found.0 found.1 in
      let same = one_is_open limit (T ++ rest) d all.begun all.number begun number (length T) all.is_open reception in
      let same_frame : all.is_open.begins.entry ≡ reception.begins.entry =
      same-entry (T ++ rest) begun _ _ (subst (λ p. At (T ++ rest) p all.is_open.begins.entry) same.0 all.is_open.begins.stands)
      reception.begins.stands in
      let same_start : all.is_open.begins.start ≡ reception.begins.start =
      (let left = all.is_open.begins.kind in let right = reception.begins.kind in cc) in (
        found.0,
        record {
          standing_there = found.1;
          len = found.3;
          rx_dl = all.rx_dl ∙ ap (λ s. s.rx_dl) same_start;
          taken = found.4;
          size = all.size
              ∙ ap (λ f. bytes_before (bytes_in_first f.frame.bytes) found.0.rx_dl all.number) same_frame
              ∙ ap (bytes_before in_first found.0.rx_dl) same.1
              ∙ ap (λ r. bytes_before in_first r number) (all.rx_dl ∙ ap (λ s. s.rx_dl) same_start);
          on_time = λ e (latest, entry, refers, at, in_time).
              let here : latest ≡ all.latest =
              one_reference (T ++ rest) d begun (length T) latest all.latest refers
              (subst (λ p. IsReference (T ++ rest) d p (length T) all.latest) same.0 all.refers) in
              let same_last : entry ≡ all.last =
              same-entry (T ++ rest) latest _ _ at (subst (λ p. At (T ++ rest) p all.last) (sym here) all.stands) in
              let time = all.reference in
              omega (arith, ap (λ x. x.micros) same_last);
        },
      )

  -- the next consecutive frame of it is stored, or completes its message
  pub consecutive-clean : (e : Entry) (sequence_number can_dl : ℕ) (bytes : List ℕ) → e.channel ≡ d
      → layout_in e ≡ Ok (layout.consecutive sequence_number can_dl bytes)
      → FitsAs in_first reception.begins.start.rx_dl reception.begins.start.len reception.count (number + 1) sequence_number can_dl
      → IsOnTime (T ++ rest) d begun (length T) e → IsCleanEvent (verdict limit T e)
  unfolding verdict
  consecutive-clean e sequence_number can_dl bytes own is fits in_time =
      let standing = known.0 in
      let k = known.1 in
      let agree = places_agree_on_fit in_first reception.begins.start.rx_dl reception.begins.start.len reception.count number sequence_number can_dl
      reception.least reception.more in
      let fit = agree.0 fits in
      let time : nat_le e.micros (standing.reference + n_cr) ≡ true = le-leb _ _ (k.on_time e in_time) in
      let next : (sequence_number == (standing.taken + 1) % 16) ≡ true = eq-eqb _ _ (fit.0 ∙ ap (λ n. (n + 1) % 16) (sym k.taken)) in
      let size : fits_length standing.len standing.rx_dl (length standing.bytes) can_dl ≡ true = rw (k.len, k.rx_dl, k.size) fit.1 in
      rw (is, own, k.standing_there, time, next, size)
      (cond_both (stays_incomplete standing) one_more last (λ fit. IsCleanEvent (on_fit (dir_of d) standing fit sequence_number bytes))
      (λ _. record { goes_on = refl; kept = tt })
      (λ _. record { goes_on = refl; kept = tt }))

  -- a continue frame of the other side is expected
  pub continue-clean : (e : Entry) → other_channel e.channel ≡ d → layout_in e ≡ Ok (layout.flow_control Continue)
      → IsCleanEvent (verdict limit T e)
  unfolding verdict
  continue-clean e other is =
      let k = known.1 in
      rw (is, other, k.standing_there) (record { goes_on = refl; kept = tt })

-- where none of the direction is open, none stands
pub closed-stands : (limit : ℕ) (T rest : List Entry) (d : Channel) → IsClosedAt limit (T ++ rest) d (length T) → stands limit d T ≡ None
closed-stands limit T rest d closed = by_case (stands limit d T) refl where
  by_case : (known : Option StandingReception) → stands limit d T ≡ known → stands limit d T ≡ None
  by_case None is = is
  by_case (Some standing) is =
      absurd (let there = what_stands_is_open limit T rest d standing is in closed there.begun there.number there.is_open)

-- Where none of the direction is open, a single frame is a message, and a first frame of at most the limit begins one.
module _ (limit : ℕ) (T rest : List Entry) (e : Entry) (closed : IsClosedAt limit (T ++ rest) e.channel (length T)) where
  pub single-clean : (message : List ℕ) → layout_in e ≡ Ok (layout.single message) → IsCleanEvent (verdict limit T e)
  unfolding verdict
  single-clean message is =
      let none = closed-stands limit T rest e.channel closed in
      rw (is, none) (record { goes_on = refl; kept = tt })

  pub first-clean : (len rx_dl : ℕ) (bytes : List ℕ) → layout_in e ≡ Ok (layout.first len rx_dl bytes) → len ≤ limit
      → IsCleanEvent (verdict limit T e)
  unfolding verdict
  first-clean len rx_dl bytes is fits =
      let none = closed-stands limit T rest e.channel closed in
      let within : nat_le len limit ≡ true = le-leb _ _ fits in
      rw (is, none, within) (record { goes_on = refl; kept = tt })
