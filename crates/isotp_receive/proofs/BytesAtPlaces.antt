-- The bytes that have come are at their places, and so are those of a message that is complete.
use Rattle.std.proofs.Common.{◌≡◌, ℕ, suc, ◌+◌, ◌-◌, ◌*◌, ◌<◌, ◌≤◌, true, List, ◌∷◌, ◌++◌, length, take, get_or, sym, ◌∙◌, ap, arith}
use Rattle.std.proofs.Common.{inl, inr, append_assoc, length-append, get_or-take, length-take}
use Rattle.std.proofs.lemmas.List.{get_or-drop, get_or_append_left, get_or-append-add}
use Rattle.std.proofs.lemmas.Grind.{get_or_after_one}
use Rattle.std.proofs.lemmas.Bool.{cases_lt}
use Rattle.isotp_receive.specs.declared.channel.Channel.{Channel}
use Rattle.isotp_receive.specs.Trace.{Entry, FirstFrame, first, consecutive, role}
use Rattle.isotp_receive.specs.Places.{bytes_in_first, bytes_before, consecutive_by, consecutive_frames_in, between, IsConsecutive, AtPlaces}
use Rattle.isotp_receive.specs.StandingReception.{carried, is_open}
use Rattle.isotp_receive.proofs.Products.{product-below}
use Rattle.isotp_receive.proofs.ListPositions.{get-behind, range-behind, regrouped}
use Rattle.isotp_receive.proofs.Readings.{first_from, next_from}
use Rattle.isotp_receive.proofs.Fits.{room-join}
use Rattle.isotp_receive.proofs.FullFrames.{open-after, carried-full, come-so-far}
use Rattle.isotp_receive.proofs.CarriedBytes.{Carrier, all-full, carries}

-- how many bytes have come, by the places of the first frame
pub come-by-places : (limit : ℕ) (d : Channel) (e0 : Entry) (s : FirstFrame) (since : List Entry) → role d e0 ≡ first s → is_open limit d s since ≡ true
    → length (s.bytes ++ carried d since) ≡ bytes_before (bytes_in_first e0.frame.bytes) s.rx_dl (consecutive_frames_in d since)
come-by-places limit d e0 s since begins opens = come-so-far limit d s since opens ∙ room-join d e0 s (consecutive_frames_in d since) begins

module _ (limit : ℕ) (d : Channel) (before : List Entry) (e0 : Entry) (s : FirstFrame) (since : List Entry) (begins : role d e0 ≡ first s) (opens : is_open limit d s since ≡ true) where
  -- ---- what has come, whatever follows

  module _ (rest : List Entry) where
    -- a consecutive frame by its carrier
    number-at : (q : ℕ) (h : Carrier d since q) → IsConsecutive (before ++ e0 ∷ (since ++ rest)) d (length before) (q + 1) (suc (length before) + length h.b) h.x
    number-at q h =
        let split : before ++ e0 ∷ (since ++ rest) ≡ before ++ e0 ∷ (h.b ++ h.x ∷ (h.after ++ rest)) =
        ap (λ l. before ++ e0 ∷ l) (sym (regrouped since rest h.b h.after h.x h.splits)) in
        let regroup : before ++ e0 ∷ (h.b ++ h.x ∷ (h.after ++ rest)) ≡ (before ++ e0 ∷ h.b) ++ h.x ∷ (h.after ++ rest) =
        sym (append_assoc before (e0 ∷ h.b) (h.x ∷ (h.after ++ rest))) in
        record {
          later = omega arith;
          stands = get-behind (before ++ e0 ∷ (since ++ rest)) (before ++ e0 ∷ h.b) (h.after ++ rest) (suc (length before) + length h.b) h.x (split ∙ regroup)
              (omega (arith, length-append before (e0 ∷ h.b)));
          kind = ap consecutive_by h.kind;
          counted = (let here : between (before ++ e0 ∷ (since ++ rest)) (length before) (suc (length before) + length h.b) ≡ h.b =
              ap (λ l. between l (length before) (suc (length before) + length h.b)) split ∙ range-behind before e0 h.b (h.x ∷ (h.after ++ rest)) in
              let count = ap (consecutive_frames_in d) here in let n = h.number in omega arith);
        }

    pub come-at : AtPlaces (before ++ e0 ∷ (since ++ rest)) d (length before) e0 s.rx_dl (s.bytes ++ carried d since)
    come-at =
        let from = first_from d e0 s begins in
        let after = open-after limit d s since opens in
        record {
          in_first = λ x inside below. get_or_append_left s.bytes (carried d since) 0 x (omega arith)
              ∙ ap (λ l. get_or l x 0) from.lies ∙ get_or-drop (s.rx_dl - bytes_in_first e0.frame.bytes) e0.frame.bytes x 0;
          in_consecutive = λ q b wide inside.
              let full = carried-full d s since after.kept after.room in
              let size = length-append s.bytes (carried d since) in
              let below = product-below q (consecutive_frames_in d since) b (s.rx_dl - 1) (omega arith) in
              let h = carries d (s.rx_dl - 1) since q b (all-full d s since after.kept after.room) wide below in
              let place : bytes_in_first e0.frame.bytes + (q * (s.rx_dl - 1) + b) ≡ length s.bytes + (q * (s.rx_dl - 1) + b) = omega arith in
              let held_by = next_from d h.carrier.x h.carrier.sequence_number h.carrier.can_dl h.carrier.bytes h.carrier.kind in (
                suc (length before) + length h.carrier.b,
                h.carrier.x,
                number-at q h.carrier,
                ap (λ j. get_or (s.bytes ++ carried d since) j 0) place
                    ∙ get_or-append-add s.bytes (carried d since) (q * (s.rx_dl - 1) + b) 0 ∙ h.byte
                    ∙ ap (λ l. get_or l b 0) held_by.lies ∙ get_or_after_one h.carrier.x.frame.bytes b 0,
              );
        }

  -- ---- the message that a last frame completes

  module _ (rest : List Entry) (last : Entry) (sequence_number can_dl : ℕ) (bytes : List ℕ) (goes : role d last ≡ consecutive sequence_number can_dl bytes)
      (enough : s.len ≤ length (s.bytes ++ carried d since) + length bytes) (short : s.len ≤ length (s.bytes ++ carried d since) + (s.rx_dl - 1)) where
    message : List ℕ
    message = take s.len ((s.bytes ++ carried d since) ++ bytes)

    -- its bytes that had come before
    of-come : (x : ℕ) → x < length (s.bytes ++ carried d since) → x < s.len → get_or message x 0 ≡ get_or (s.bytes ++ carried d since) x 0
    unfolding message
    of-come x early inside = get_or-take s.len ((s.bytes ++ carried d since) ++ bytes) x 0 inside ∙ get_or_append_left (s.bytes ++ carried d since) bytes 0 x early

    -- and those of the last frame
    of-last : (x b : ℕ) → x ≡ length (s.bytes ++ carried d since) + b → x < s.len → get_or message x 0 ≡ get_or last.frame.bytes (1 + b) 0
    unfolding message
    of-last x b place inside =
        let held_by = next_from d last sequence_number can_dl bytes goes in
        get_or-take s.len ((s.bytes ++ carried d since) ++ bytes) x 0 inside ∙ ap (λ j. get_or ((s.bytes ++ carried d since) ++ bytes) j 0) place
        ∙ get_or-append-add (s.bytes ++ carried d since) bytes b 0 ∙ ap (λ l. get_or l b 0) held_by.lies ∙ get_or_after_one last.frame.bytes b 0

    last-at : IsConsecutive (before ++ e0 ∷ (since ++ last ∷ rest)) d (length before) (consecutive_frames_in d since + 1) (suc (length before) + length since) last
    last-at =
        let regroup : before ++ e0 ∷ (since ++ last ∷ rest) ≡ (before ++ e0 ∷ since) ++ last ∷ rest = sym (append_assoc before (e0 ∷ since) (last ∷ rest)) in
        record {
          later = omega arith;
          stands = get-behind (before ++ e0 ∷ (since ++ last ∷ rest)) (before ++ e0 ∷ since) rest (suc (length before) + length since) last regroup
              (omega (arith, length-append before (e0 ∷ since)));
          kind = ap consecutive_by goes;
          counted = (let count = ap (consecutive_frames_in d) (range-behind before e0 since (last ∷ rest)) in omega arith);
        }

    pub whole-at : AtPlaces (before ++ e0 ∷ (since ++ last ∷ rest)) d (length before) e0 s.rx_dl (take s.len ((s.bytes ++ carried d since) ++ bytes))
    unfolding message
    whole-at =
        let come = come-at (last ∷ rest) in
        let w = s.rx_dl - 1 in
        let k = consecutive_frames_in d since in
        let size = come-by-places limit d e0 s since begins opens in
        let whole = length-take s.len ((s.bytes ++ carried d since) ++ bytes) in
        record {
          in_first = λ x inside below.
              let early : x < length (s.bytes ++ carried d since) = omega arith in
              of-come x early (omega arith) ∙ come.in_first x early below;
          in_consecutive = λ q b wide inside. elim (cases_lt q k) [
            | inl less ↦ (
                let sum : k ≡ q + 1 + (k - q - 1) = omega arith in
                let product = ap (λ j. j * w) sum in
                let early : bytes_in_first e0.frame.bytes + (q * w + b) < length (s.bytes ++ carried d since) = omega arith in
                let old = come.in_consecutive q b wide early in
                (old.0, old.1, old.2, of-come _ early (omega arith) ∙ old.3))
            | inr over ↦ (
                let next : k * w + w ≡ (k + 1) * w = omega arith in
                let below = product-below q (k + 1) b w (omega arith) in
                let same : q ≡ k = omega arith in
                let product = ap (λ j. j * w) same in
                (suc (length before) + length since, last, rw same last-at, of-last _ b (omega arith) (omega arith)))
          ];
        }
