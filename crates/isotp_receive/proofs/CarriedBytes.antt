-- The bytes that the consecutive frames of a list carry, each w of them: which frame carries which byte.
use Rattle.std.proofs.Common.{◌≡◌, ℕ, zero, suc, ◌+◌, ◌-◌, ◌*◌, ◌<◌, true, List, [], ◌∷◌, ◌++◌, length, get_or, refl, ◌∙◌, ap, arith}
use Rattle.std.proofs.lemmas.List.{get_or_append_left, get_or-append-add}
use Rattle.isotp_receive.specs.declared.channel.Channel.{Channel}
use Rattle.isotp_receive.specs.Trace.{Entry, FirstFrame, FrameRole, single, first, consecutive, continue_or_wait, overflow, no_part, role}
use Rattle.isotp_receive.specs.Places.{consecutive_by, consecutive_frames_in}
use Rattle.isotp_receive.specs.StandingReception.{carried_by, carried, standing_of, carried_after, keeps_by, keep}
use Rattle.isotp_receive.proofs.Readings.{next_from}
use Rattle.isotp_receive.proofs.CountedFrames.{taken-append}
use Rattle.isotp_receive.proofs.FullFrames.{fits_full, come-before}
use Rattle.isotp_receive.proofs.FitTests.{was-next}
use Rattle.isotp_receive.proofs.OpenLaws.{kept-at}

-- each consecutive frame carries w bytes
pub AllFull : Channel → ℕ → List Entry → Type 0
AllFull d w es =
    (b after : List Entry) (x : Entry) (sequence_number can_dl : ℕ) (bytes : List ℕ)
    → es ≡ b ++ x ∷ after → role d x ≡ consecutive sequence_number can_dl bytes → length bytes ≡ w

full-later : (d : Channel) (w : ℕ) (x : Entry) (es : List Entry) → AllFull d w (x ∷ es) → AllFull d w es
unfolding AllFull
full-later d w x es h b after y sequence_number can_dl bytes splits kind = h (x ∷ b) after y sequence_number can_dl bytes (ap (λ l. x ∷ l) splits) kind

full-here : (d : Channel) (w : ℕ) (x : Entry) (es : List Entry) (sequence_number can_dl : ℕ) (bytes : List ℕ)
    → AllFull d w (x ∷ es) → role d x ≡ consecutive sequence_number can_dl bytes → length bytes ≡ w
unfolding AllFull
full-here d w x es sequence_number can_dl bytes h kind = h [] es x sequence_number can_dl bytes refl kind

-- those of a reception that is open do
pub all-full : (d : Channel) (s : FirstFrame) (es : List Entry) → keep d s [] es ≡ true → carried_after s (consecutive_frames_in d es) < s.len → AllFull d (s.rx_dl - 1) es
unfolding AllFull
all-full d s es kept room b after x sequence_number can_dl bytes splits kind =
    let here : keeps_by d s b x.micros (consecutive sequence_number can_dl bytes) ≡ true = rw kind at (kept-at d s es kept b after x splits) in
    let next = was-next (standing_of d s b) x.micros sequence_number can_dl here in
    let come = come-before d s es b (x ∷ after) kept room splits in
    let count = ap (consecutive_frames_in d) splits ∙ taken-append d b (x ∷ after) in
    let one : consecutive_by (role d x) ≡ 1 = ap consecutive_by kind in
    let sum : consecutive_frames_in d es ≡ consecutive_frames_in d b + 1 + consecutive_frames_in d after = omega arith in
    let product = ap (λ k. k * (s.rx_dl - 1)) sum in
    let full : can_dl ≡ s.rx_dl = fits_full s.len s.rx_dl (length (s.bytes ++ carried d b)) can_dl next.fits (omega arith) in
    let own = next_from d x sequence_number can_dl bytes kind in
    omega arith

-- the consecutive frame number q of a list, from 0, and what it carries
pub record Carrier (d : Channel) (es : List Entry) (q : ℕ) : Type 0 where
  pub b : List Entry
  pub x : Entry
  pub after : List Entry
  pub sequence_number : ℕ
  pub can_dl : ℕ
  pub bytes : List ℕ
  pub splits : es ≡ b ++ x ∷ after
  pub kind : role d x ≡ consecutive sequence_number can_dl bytes
  pub number : consecutive_frames_in d b ≡ q

pub record CarriesByte (d : Channel) (es : List Entry) (w q b : ℕ) : Type 0 where
  pub carrier : Carrier d es q
  pub byte : get_or (carried d es) (q * w + b) 0 ≡ get_or carrier.bytes b 0

-- one frame more in front, with w bytes if it is a consecutive frame and else with none
carries-later : (d : Channel) (x : Entry) (es : List Entry) (w q q' b : ℕ) → q' ≡ consecutive_by (role d x) + q → length (carried_by (role d x)) ≡ consecutive_by (role d x) * w
    → CarriesByte d es w q b → CarriesByte d (x ∷ es) w q' b
carries-later d x es w q q' b sum size h = record {
  carrier = record {
    b = x ∷ h.carrier.b;
    x = h.carrier.x;
    after = h.carrier.after;
    sequence_number = h.carrier.sequence_number;
    can_dl = h.carrier.can_dl;
    bytes = h.carrier.bytes;
    splits = ap (λ l. x ∷ l) h.carrier.splits;
    kind = h.carrier.kind;
    number = (let n = h.carrier.number in omega arith);
  };
  byte =
      let product = ap (λ j. j * w) sum in
      let place : q' * w + b ≡ length (carried_by (role d x)) + (q * w + b) = omega arith in
      ap (λ j. get_or (carried_by (role d x) ++ carried d es) j 0) place
      ∙ get_or-append-add (carried_by (role d x)) (carried d es) (q * w + b) 0 ∙ h.byte;
}

carries-here : (d : Channel) (x : Entry) (es : List Entry) (w b sequence_number can_dl : ℕ) (bytes : List ℕ) → role d x ≡ consecutive sequence_number can_dl bytes → b < length bytes
    → CarriesByte d (x ∷ es) w 0 b
carries-here d x es w b sequence_number can_dl bytes kind inside = record {
  carrier = record { b = []; x = x; after = es; sequence_number = sequence_number; can_dl = can_dl; bytes = bytes; splits = refl; kind = kind; number = refl };
  byte = (let place : 0 * w + b ≡ b = omega arith in
      ap (λ r. get_or (carried_by r ++ carried d es) (0 * w + b) 0) kind
      ∙ ap (λ j. get_or (bytes ++ carried d es) j 0) place ∙ get_or_append_left bytes (carried d es) 0 b inside);
}

pub carries : (d : Channel) (w : ℕ) (es : List Entry) (q b : ℕ) → AllFull d w es → b < w → q < consecutive_frames_in d es → CarriesByte d es w q b
carries d w [] q b full inside below = absurd (omega arith)
carries d w (x ∷ es) q b full inside below = by_role (role d x) q refl below (λ j. carries d w es j b (full-later d w x es full) inside) where
  -- a frame that carries nothing
  aside : (q : ℕ) (r : FrameRole) → role d x ≡ r → consecutive_by r ≡ 0 → length (carried_by r) ≡ 0 → q < consecutive_by (role d x) + consecutive_frames_in d es
      → ((j : ℕ) → j < consecutive_frames_in d es → CarriesByte d es w j b) → CarriesByte d (x ∷ es) w q b
  aside q r kind counts size less rest =
      let none : consecutive_by (role d x) ≡ 0 = ap consecutive_by kind ∙ counts in
      let product = ap (λ j. j * w) none in
      let empty = ap (λ r. length (carried_by r)) kind in
      carries-later d x es w q q b (omega arith) (omega arith) (rest q (omega arith))

  by_role : (r : FrameRole) (q : ℕ) → role d x ≡ r → q < consecutive_by (role d x) + consecutive_frames_in d es
      → ((j : ℕ) → j < consecutive_frames_in d es → CarriesByte d es w j b) → CarriesByte d (x ∷ es) w q b
  by_role (consecutive sequence_number can_dl bytes) zero kind less rest =
      carries-here d x es w b sequence_number can_dl bytes kind (let size = full-here d w x es sequence_number can_dl bytes full kind in omega arith)
  by_role (consecutive sequence_number can_dl bytes) (suc q) kind less rest =
      let one : consecutive_by (role d x) ≡ 1 = ap consecutive_by kind in
      let product = ap (λ j. j * w) one in
      let size = ap (λ r. length (carried_by r)) kind in
      let all = full-here d w x es sequence_number can_dl bytes full kind in
      carries-later d x es w q (suc q) b (omega arith) (omega arith) (rest q (omega arith))
  by_role (single m) q kind less rest = aside q (single m) kind refl refl less rest
  by_role (first s) q kind less rest = aside q (first s) kind refl refl less rest
  by_role continue_or_wait q kind less rest = aside q continue_or_wait kind refl refl less rest
  by_role overflow q kind less rest = aside q overflow kind refl refl less rest
  by_role no_part q kind less rest = aside q no_part kind refl refl less rest
