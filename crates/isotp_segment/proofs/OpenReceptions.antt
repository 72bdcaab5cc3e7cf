-- Receptions that are open at a position: with which frame they begin, how long they stay open, and what they wait for.
use Rattle.std.proofs.Common.{◌≡◌, ℕ, ◌+◌, ◌-◌, ◌<◌, ◌≤◌, List, drop, Result, Ok, Err, refl, sym, ap, arith, inl, inr, subst}
use Rattle.std.specs.Prelude.{⊤}
use Rattle.std.proofs.lemmas.Bool.{cases_lt}
use Rattle.isotp_receive.specs.declared.channel.Channel.{Channel}
use Rattle.isotp_pdu.specs.declared.PduFault.{PduFault}
use Rattle.isotp_pdu.specs.Layout.{Layout}
use Rattle.isotp_pdu.specs.Layout as layout
use Rattle.isotp_pdu.specs.Reading.{layout_of}
use Rattle.isotp_receive.specs.Trace.{Entry, At, FirstFrame, first, consecutive, role}
use Rattle.isotp_receive.specs.Places.{bytes_in_first, FitsAs, IsConsecutiveCount, consecutive_by, consecutive_frames_in, between}
use Rattle.isotp_receive.specs.OnTime.{IsOnTime}
use Rattle.isotp_receive.specs.OpenReception.{LeavesOpen, IsOpenAt}
use Rattle.isotp_receive.specs.Delivers.{Completes}
use Rattle.isotp_receive.proofs.Promises.{first_frame_is_read, said_is_read}
use Rattle.isotp_segment.proofs.ConsecutiveCounts.{counted-more, counted-between, one-count}

-- there is one entry at a position
pub same-entry : (T : List Entry) (position : ℕ) (e other : Entry) → At T position e → At T position other → e ≡ other
same-entry T position e other at there = cc

-- no reception of d is open at the position
abbrev pub IsClosedAt : ℕ → List Entry → Channel → ℕ → Type 0
IsClosedAt limit T d position = (begun number : ℕ) → IsOpenAt limit T d begun number position → ⊥

-- a reception that is open was open at each position since it began
unfoldable pub open-since : (limit : ℕ) (T : List Entry) (d : Channel) (begun number position : ℕ)
    (reception : IsOpenAt limit T d begun number position) (place : ℕ)
    → begun < place → place ≤ position → IsOpenAt limit T d begun (consecutive_frames_in d (between T begun place)) place
open-since limit T d begun number position reception place later most = record {
  later = later;
  inside = omega (arith, reception.inside);
  begins = reception.begins;
  fits = reception.fits;
  count = reception.count;
  least = reception.least;
  each = λ earlier e after before at. reception.each earlier e after (omega arith) at;
  taken = refl;
  more = omega (
    arith,
    reception.taken,
    reception.more,
    counted-more d (place - (begun + 1)) (position - (begun + 1)) (drop (begun + 1) T) (omega arith),
  );
}

-- a first frame
abbrev pub IsFirst : Result Layout PduFault → Type 0
IsFirst (Ok (layout.first len rx_dl bytes)) = ⊤
IsFirst (Ok (layout.single message)) = ⊥
IsFirst (Ok (layout.consecutive sequence_number can_dl bytes)) = ⊥
IsFirst (Ok (layout.flow_control status)) = ⊥
IsFirst (Err fault) = ⊥

-- only a first frame of the direction begins a reception
pub begins-reception : (d : Channel) (e : Entry) (start : FirstFrame) → role d e ≡ first start → (d ≡ e.channel) × IsFirst (layout_of e.frame)
begins-reception d e start is =
    let read = first_frame_is_read d e start is in
    (read.0, subst IsFirst (sym (said_is_read e _ read.1)) tt)

-- Where the frame at `position` completes a message: what each consecutive frame since its first one was waited for as.
module _ (limit : ℕ) (T : List Entry) (d : Channel) (position : ℕ) (message : List ℕ) (completed : Completes limit T position d message) where
  abbrev start : FirstFrame
  start = completed.fit.is_open.begins.start

  abbrev in_first : ℕ
  in_first = bytes_in_first completed.fit.is_open.begins.entry.frame.bytes

  -- as the next of the reception, on time
  abbrev pub IsNext : ℕ → Entry → ℕ → ℕ → Type 0
  IsNext place e sequence_number can_dl =
      FitsAs in_first start.rx_dl start.len completed.fit.is_open.count
      (consecutive_frames_in d (between T completed.fit.begun place) + 1) sequence_number can_dl
      × IsOnTime T d completed.fit.begun place e

  next-at-end : (e : Entry) (sequence_number can_dl : ℕ) (bytes : List ℕ) → At T position e → role d e ≡ consecutive sequence_number can_dl bytes
      → IsNext position e sequence_number can_dl
  next-at-end e sequence_number can_dl bytes at is =
      let same = same-entry T position e completed.fit.next.entry at completed.fit.next.stands in
      let kind = completed.fit.next.kind in
      let same_number : completed.fit.next.sequence_number ≡ sequence_number = cc in
      let same_length : completed.fit.next.can_dl ≡ can_dl = cc in
      rw (same, ← same_number, ← same_length, ← completed.fit.is_open.taken) (completed.fit.fits.1, completed.fit.fits.0)

  pub next-since : (place : ℕ) (e : Entry) (sequence_number can_dl : ℕ) (bytes : List ℕ)
      → completed.fit.begun < place → place ≤ position → At T place e
      → role d e ≡ consecutive sequence_number can_dl bytes → IsNext place e sequence_number can_dl
  next-since place e sequence_number can_dl bytes later most at is = elim (cases_lt place position) [
    | inl before ↦
        subst (LeavesOpen start in_first completed.fit.is_open.count
        (consecutive_frames_in d (between T completed.fit.begun place)) (IsOnTime T d completed.fit.begun place e)) is
        (completed.fit.is_open.each place e later before at)
    | inr least ↦
        (let last : position ≡ place = omega arith in
        subst (λ p. IsNext p e sequence_number can_dl) last
        (next-at-end e sequence_number can_dl bytes (subst (λ p. At T p e) (sym last) at) is))
  ]

  -- after that frame the reception is no longer open
  pub closed-behind : (number later : ℕ) → position < later → IsOpenAt limit T d completed.fit.begun number later → ⊥
  closed-behind number later behind reception =
      let its = completed.fit.is_open in
      let other = reception.begins.start in
      let same_frame : reception.begins.entry ≡ its.begins.entry =
      same-entry T completed.fit.begun reception.begins.entry its.begins.entry reception.begins.stands its.begins.stands in
      let same_start : other ≡ start = (let one = reception.begins.kind in let two = its.begins.kind in cc) in
      let same_count = one-count in_first start.rx_dl start.len reception.count its.count
      (subst (λ s. IsConsecutiveCount in_first s.rx_dl s.len reception.count) same_start
      (subst (λ f. IsConsecutiveCount (bytes_in_first f.frame.bytes) other.rx_dl other.len reception.count) same_frame reception.least))
      its.least in
      let counts : consecutive_by (role d completed.fit.next.entry) ≡ 1 = ap consecutive_by completed.fit.next.kind in
      absurd (omega (
        arith,
        same_count,
        counts,
        reception.taken,
        reception.more,
        its.taken,
        completed.fit.fits.2,
        counted-between d T completed.fit.begun position later completed.fit.next.entry its.later behind completed.fit.next.stands,
      ))
