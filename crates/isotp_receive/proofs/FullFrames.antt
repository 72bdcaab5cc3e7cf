-- The consecutive frames of a reception that is open are full: each carries RX_DL - 1 bytes.
use Rattle.std.proofs.Common.{◌≡◌, ℕ, ◌+◌, ◌-◌, ◌*◌, ◌<◌, ◌≤◌, true, List, [], ◌∷◌, ◌++◌, length, nat_lt, nat_le, ap, sym, ◌∙◌, arith}
use Rattle.std.proofs.Common.{length-append, append_assoc}
use Rattle.std.proofs.lemmas.List.{append-nil}
use Rattle.std.proofs.lemmas.Bool.{and_parts, ltb-true, leb-true, eqb-true, lt-ltb, false≢true}
use Rattle.isotp_receive.specs.declared.channel.Channel.{Channel}
use Rattle.isotp_receive.specs.Trace.{Entry, FirstFrame, FrameRole, single, first, consecutive, continue_or_wait, overflow, no_part, role}
use Rattle.isotp_receive.specs.Places.{consecutive_by, consecutive_frames_in}
use Rattle.isotp_receive.specs.StandingReception.{carried_by, carried, standing_of, carried_after, fits_length, keeps_by, keep, is_open}
use Rattle.isotp_receive.proofs.Products.{sum-grows}
use Rattle.isotp_receive.proofs.Readings.{IsRoleOf, role_from}
use Rattle.isotp_receive.proofs.CountedFrames.{taken-append, taken-snoc, carried-snoc, keep-front}
use Rattle.isotp_receive.proofs.FitTests.{was-next}

-- what the test says of a reception that is open after these frames
pub record IsOpenAfter (limit : ℕ) (d : Channel) (s : FirstFrame) (es : List Entry) : Type 0 where
  pub within : s.len ≤ limit
  pub room : carried_after s (consecutive_frames_in d es) < s.len
  pub kept : keep d s [] es ≡ true

pub open-after : (limit : ℕ) (d : Channel) (s : FirstFrame) (es : List Entry) → is_open limit d s es ≡ true → IsOpenAfter limit d s es
open-after limit d s es opens =
    let parts = and_parts (nat_le s.len limit) _ opens in
    let more = and_parts (nat_lt (carried_after s (consecutive_frames_in d es)) s.len) _ parts.1 in
    record { within = leb-true _ _ parts.0; room = ltb-true _ _ more.0; kept = more.1 }

-- a consecutive frame that fits and is not the last is as long as the first frame
pub fits_full : (len rx_dl have can_dl : ℕ) → fits_length len rx_dl have can_dl ≡ true → have + (rx_dl - 1) < len → can_dl ≡ rx_dl
fits_full len rx_dl have can_dl h below =
    let test : nat_lt (have + (rx_dl - 1)) len ≡ true = lt-ltb _ _ below in
    let parts = and_parts (nat_lt have len) _ h in
    eqb-true can_dl rx_dl (rw test at parts.1)

-- what one more frame carries
carried-one : (d : Channel) (s : FirstFrame) (past : List Entry) (micros : ℕ) (x : List ℕ) (r : FrameRole) → IsRoleOf micros x r → keeps_by d s past micros r ≡ true
    → carried_after s (consecutive_frames_in d past + consecutive_by r) < s.len
    → length (carried d past) ≡ consecutive_frames_in d past * (s.rx_dl - 1)
    → length (carried d past ++ carried_by r) ≡ (consecutive_frames_in d past + consecutive_by r) * (s.rx_dl - 1)
carried-one d s past micros x (consecutive sequence_number can_dl bytes) from h below full =
    let next = was-next (standing_of d s past) micros sequence_number can_dl h in
    let size = length-append s.bytes (carried d past) in
    let whole_frame : can_dl ≡ s.rx_dl = fits_full s.len s.rx_dl (length (s.bytes ++ carried d past)) can_dl next.fits (omega arith) in
    simp length-append (omega arith)
carried-one d s past micros x (single m) from h below full = absurd (false≢true h)
carried-one d s past micros x (first f) from h below full = absurd (false≢true h)
carried-one d s past micros x continue_or_wait from h below full = simp length-append (omega arith)
carried-one d s past micros x overflow from h below full = simp length-append (omega arith)
carried-one d s past micros x no_part from h below full = simp length-append (omega arith)

carried-behind : (d : Channel) (s : FirstFrame) (past es : List Entry) → keep d s past es ≡ true
    → carried_after s (consecutive_frames_in d (past ++ es)) < s.len
    → length (carried d past) ≡ consecutive_frames_in d past * (s.rx_dl - 1)
    → length (carried d (past ++ es)) ≡ consecutive_frames_in d (past ++ es) * (s.rx_dl - 1)
carried-behind d s past [] h below full = rw append-nil full
carried-behind d s past (e ∷ es) h below full =
    let parts = and_parts (keeps_by d s past e.micros (role d e)) (keep d s (past ++ e ∷ []) es) h in
    let regroup : (past ++ e ∷ []) ++ es ≡ past ++ e ∷ es = append_assoc past (e ∷ []) es in
    let below_all : carried_after s (consecutive_frames_in d ((past ++ e ∷ []) ++ es)) < s.len = rw regroup below in
    let below_one : carried_after s (consecutive_frames_in d past + consecutive_by (role d e)) < s.len = omega (
      arith,
      below_all,
      sum-grows (length s.bytes) (consecutive_frames_in d past + consecutive_by (role d e)) (consecutive_frames_in d es) (s.rx_dl - 1),
      taken-append d (past ++ e ∷ []) es,
      taken-snoc d past e,
      ap (λ k. k * (s.rx_dl - 1)) (taken-append d (past ++ e ∷ []) es),
      ap (λ k. (k + consecutive_frames_in d es) * (s.rx_dl - 1)) (taken-snoc d past e),
    ) in
    let one = carried-one d s past e.micros e.frame.bytes (role d e) (role_from d e) parts.0 below_one full in
    let full_one : length (carried d (past ++ e ∷ [])) ≡ consecutive_frames_in d (past ++ e ∷ []) * (s.rx_dl - 1) =
    rw (carried-snoc d past e, taken-snoc d past e) one in
    rw (← regroup) (carried-behind d s (past ++ e ∷ []) es parts.1 below_all full_one)

-- what the frames carry
pub carried-full : (d : Channel) (s : FirstFrame) (es : List Entry) → keep d s [] es ≡ true → carried_after s (consecutive_frames_in d es) < s.len
    → length (carried d es) ≡ consecutive_frames_in d es * (s.rx_dl - 1)
carried-full d s es kept room = carried-behind d s [] es kept room (omega arith)

-- and what has come of the message
pub come-after : (d : Channel) (s : FirstFrame) (es : List Entry) → keep d s [] es ≡ true → carried_after s (consecutive_frames_in d es) < s.len
    → length (s.bytes ++ carried d es) ≡ carried_after s (consecutive_frames_in d es)
come-after d s es kept room = omega (arith, length-append s.bytes (carried d es), carried-full d s es kept room)

pub come-so-far : (limit : ℕ) (d : Channel) (s : FirstFrame) (es : List Entry) → is_open limit d s es ≡ true
    → length (s.bytes ++ carried d es) ≡ carried_after s (consecutive_frames_in d es)
come-so-far limit d s es opens = let after = open-after limit d s es opens in come-after d s es after.kept after.room

-- before one of these frames too
pub come-before : (d : Channel) (s : FirstFrame) (es b after : List Entry) → keep d s [] es ≡ true → carried_after s (consecutive_frames_in d es) < s.len
    → es ≡ b ++ after → length (s.bytes ++ carried d b) ≡ carried_after s (consecutive_frames_in d b)
come-before d s es b after kept room splits =
    let count = ap (consecutive_frames_in d) splits ∙ taken-append d b after in
    let product = ap (λ k. k * (s.rx_dl - 1)) count in
    let grows = sum-grows (length s.bytes) (consecutive_frames_in d b) (consecutive_frames_in d after) (s.rx_dl - 1) in
    come-after d s b (keep-front d s [] b after (ap (keep d s []) (sym splits) ∙ kept)) (omega arith)
