-- What stands is what is known of the reception that is open, and at most one is open.
use Rattle.std.proofs.Common.{◌≡◌, ℕ, suc, ◌+◌, ◌<◌, ◌≤◌, true, List, ◌∷◌, ◌++◌, length, Some, refl, sym, ◌∙◌, ap, arith, inl, inr, subst}
use Rattle.std.proofs.lemmas.Bool.{cases_lt}
use Rattle.isotp_receive.specs.declared.channel.Channel.{Channel}
use Rattle.isotp_receive.specs.Trace.{Entry, At, FirstFrame, FrameRole, first, role}
use Rattle.isotp_receive.specs.Places.{bytes_in_first, bytes_before, consecutive_frames_in, between, AtPlaces}
use Rattle.isotp_receive.specs.OnTime.{IsReference}
use Rattle.isotp_receive.specs.StandingReception.{is_open, StandingReception, standing_of, stands}
use Rattle.isotp_receive.specs.OpenReception.{LeavesOpen, IsOpenAt, IsStandingAt}
use Rattle.isotp_receive.proofs.ListPositions.{get-same, regrouped, split-length}
use Rattle.isotp_receive.proofs.Readings.{first_from}
use Rattle.isotp_receive.proofs.FullFrames.{open-after, come-so-far}
use Rattle.isotp_receive.proofs.OpenLaws.{found, open-stands-here}
use Rattle.isotp_receive.proofs.References.{same-reference, refers}
use Rattle.isotp_receive.proofs.OpenPositions.{open-there, stands-there}
use Rattle.isotp_receive.proofs.BytesAtPlaces.{come-by-places, come-at}
use Rattle.isotp_receive.proofs.SameMessage.{same-message}

-- ---- what stands is open

standing-here : (limit : ℕ) (d : Channel) (before : List Entry) (e0 : Entry) (s : FirstFrame) (since rest : List Entry) → role d e0 ≡ first s → is_open limit d s since ≡ true
    → IsStandingAt limit (before ++ e0 ∷ (since ++ rest)) d (suc (length before) + length since) (standing_of d s since)
unfolding open-there
standing-here limit d before e0 s since rest begins opens =
    let ref = refers d before e0 s since rest begins in
    record {
      begun = length before;
      number = consecutive_frames_in d since;
      is_open = open-there limit d before e0 s since rest begins opens;
      line = refl;
      len = refl;
      rx_dl = refl;
      taken = refl;
      size = come-by-places limit d e0 s since begins opens;
      places = come-at limit d before e0 s since begins opens rest;
      latest = ref.q;
      last = ref.e;
      refers = ref.reference;
      stands = ref.stands;
      reference = ref.time;
    }

pub stands-open : (limit : ℕ) (T rest : List Entry) (d : Channel) (st : StandingReception) → stands limit d T ≡ Some st → IsStandingAt limit (T ++ rest) d (length T) st
stands-open limit T rest d st h =
    let w = found limit d T st h in
    subst (IsStandingAt limit (T ++ rest) d (length T)) (sym w.is)
    (subst (λ p. IsStandingAt limit (T ++ rest) d p (standing_of d w.s w.since)) (split-length T w.before w.since w.e w.splits)
    (subst (λ l. IsStandingAt limit l d (suc (length w.before) + length w.since) (standing_of d w.s w.since)) (regrouped T rest w.before w.since w.e w.splits)
    (standing-here limit d w.before w.e w.s w.since rest w.begins w.opens)))

-- ---- what is open stands

pub open-stands : (limit : ℕ) (T rest : List Entry) (d : Channel) (i k : ℕ) (o : IsOpenAt limit (T ++ rest) d i k (length T))
    → (st : StandingReception) × (stands limit d T ≡ Some st) × (st.line ≡ o.begins.start.line) × (st.len ≡ o.begins.start.len) × (st.taken ≡ k)
open-stands limit T rest d i k o =
    let w = stands-there limit d T rest i k o in (
      standing_of d o.begins.start w.since,
      ap (stands limit d) w.splits ∙ open-stands-here limit d w.before w.since o.begins.entry o.begins.start o.begins.kind w.opens,
      refl,
      refl,
      sym w.taken,
    )

-- ---- at most one is open

-- a first frame leaves no reception open
pub no-first : (s x : FirstFrame) (f n j : ℕ) (on : Type 0) (r : FrameRole) → r ≡ first x → LeavesOpen s f n j on r → ⊥
no-first s x f n j on r is h = rw is at h

pub one-open : (limit : ℕ) (T : List Entry) (d : Channel) (i k j l p : ℕ) → IsOpenAt limit T d i k p → IsOpenAt limit T d j l p → (i ≡ j) × (k ≡ l)
one-open limit T d i k j l p a b = (same, a.taken ∙ ap (λ q. consecutive_frames_in d (between T q p)) same ∙ sym b.taken) where
  apart : (i k j l : ℕ) → IsOpenAt limit T d i k p → IsOpenAt limit T d j l p → i < j → ⊥
  apart i k j l a b less = no-first a.begins.start b.begins.start _ _ _ _ (role d b.begins.entry) b.begins.kind (a.each j b.begins.entry less b.later b.begins.stands)

  same : i ≡ j
  same = elim (cases_lt i j) [
    | inl less ↦ absurd (apart i k j l a b less)
    | inr most ↦ elim (cases_lt j i) [
      | inl less ↦ absurd (apart j l i k b a less)
      | inr least ↦ omega arith
    ]
  ]

-- ---- what is known of it is one thing: the frames fix it

first-same : {s x : FirstFrame} → first s ≡ first x → s ≡ x
first-same h = cc

same-record : (x y : StandingReception) → x.line ≡ y.line → x.len ≡ y.len → x.rx_dl ≡ y.rx_dl → x.taken ≡ y.taken → x.bytes ≡ y.bytes → x.reference ≡ y.reference → x ≡ y
same-record x y line len rx_dl taken bytes reference =
    ap (λ v. record { line = v; len = x.len; rx_dl = x.rx_dl; taken = x.taken; bytes = x.bytes; reference = x.reference }) line
    ∙ ap (λ v. record { line = y.line; len = v; rx_dl = x.rx_dl; taken = x.taken; bytes = x.bytes; reference = x.reference }) len
    ∙ ap (λ v. record { line = y.line; len = y.len; rx_dl = v; taken = x.taken; bytes = x.bytes; reference = x.reference }) rx_dl
    ∙ ap (λ v. record { line = y.line; len = y.len; rx_dl = y.rx_dl; taken = v; bytes = x.bytes; reference = x.reference }) taken
    ∙ ap (λ v. record { line = y.line; len = y.len; rx_dl = y.rx_dl; taken = y.taken; bytes = v; reference = x.reference }) bytes
    ∙ ap (λ v. record { line = y.line; len = y.len; rx_dl = y.rx_dl; taken = y.taken; bytes = y.bytes; reference = v }) reference

same-standing : (limit : ℕ) (T : List Entry) (d : Channel) (p : ℕ) (x y : StandingReception) → IsStandingAt limit T d p x → IsStandingAt limit T d p y → x ≡ y
same-standing limit T d p x y a b =
    let one = one-open limit T d a.begun a.number b.begun b.number p a.is_open b.is_open in
    let there : At T a.begun b.is_open.begins.entry = subst (λ j. At T j b.is_open.begins.entry) (sym one.0) b.is_open.begins.stands in
    let frame : a.is_open.begins.entry ≡ b.is_open.begins.entry = get-same T a.begun a.is_open.begins.entry b.is_open.begins.entry a.is_open.begins.stands there in
    let start : a.is_open.begins.start ≡ b.is_open.begins.start = first-same (sym a.is_open.begins.kind ∙ ap (role d) frame ∙ b.is_open.begins.kind) in
    let rx_dl : x.rx_dl ≡ y.rx_dl = a.rx_dl ∙ ap (λ s. s.rx_dl) start ∙ sym b.rx_dl in
    let size : length x.bytes ≡ length y.bytes =
    a.size ∙ ap (λ e. bytes_before (bytes_in_first e.frame.bytes) x.rx_dl a.number) frame
    ∙ ap (λ r. bytes_before (bytes_in_first b.is_open.begins.entry.frame.bytes) r a.number) rx_dl
    ∙ ap (λ k. bytes_before (bytes_in_first b.is_open.begins.entry.frame.bytes) y.rx_dl k) one.1 ∙ sym b.size in
    let places : AtPlaces T d a.begun a.is_open.begins.entry x.rx_dl y.bytes =
    subst (λ r. AtPlaces T d a.begun a.is_open.begins.entry r y.bytes) (sym rx_dl)
    (subst (λ e. AtPlaces T d a.begun e y.rx_dl y.bytes) (sym frame)
    (subst (λ i. AtPlaces T d i b.is_open.begins.entry y.rx_dl y.bytes) (sym one.0) b.places)) in
    let from = first_from d a.is_open.begins.entry a.is_open.begins.start a.is_open.begins.kind in
    let announced = a.rx_dl in
    let same_latest : a.latest ≡ b.latest =
    same-reference T d a.begun p a.latest b.latest a.refers (subst (λ i. IsReference T d i p b.latest) (sym one.0) b.refers) in
    let last : a.last ≡ b.last = get-same T a.latest a.last b.last a.stands (subst (λ q. At T q b.last) (sym same_latest) b.stands) in
    same-record x y (a.line ∙ ap (λ s. s.line) start ∙ sym b.line) (a.len ∙ ap (λ s. s.len) start ∙ sym b.len) rx_dl (a.taken ∙ one.1 ∙ sym b.taken)
    (same-message T d a.begun a.is_open.begins.entry x.rx_dl x.bytes y.bytes (omega arith) a.places places size)
    (a.reference ∙ ap (λ e. e.micros) last ∙ sym b.reference)

-- and so it is what stands
pub standing-is-fixed : (limit : ℕ) (T rest : List Entry) (d : Channel) (st : StandingReception) → IsStandingAt limit (T ++ rest) d (length T) st → stands limit d T ≡ Some st
standing-is-fixed limit T rest d st a =
    let w = open-stands limit T rest d a.begun a.number a.is_open in
    w.1 ∙ ap Some (same-standing limit (T ++ rest) d (length T) w.0 st (stands-open limit T rest d w.0 w.1) a)

-- ---- what a pair keeps for a direction

pub kept-bytes : (limit : ℕ) (T : List Entry) (d : Channel) (st : StandingReception) → stands limit d T ≡ Some st → (st.len ≤ limit) × (length st.bytes < st.len)
kept-bytes limit T d st h =
    let w = found limit d T st h in
    let after = open-after limit d w.s w.since w.opens in
    let size = come-so-far limit d w.s w.since w.opens in
    subst (λ x. (x.len ≤ limit) × (length x.bytes < x.len)) (sym w.is) (after.within, (let room = after.room in omega arith))
