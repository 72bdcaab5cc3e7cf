-- A consecutive frame fits as its number exactly where the reception takes its length.
use Rattle.std.proofs.Common.{◌≡◌, ℕ, ◌+◌, ◌-◌, ◌*◌, ◌%◌, ◌<◌, ◌≤◌, true, nat_lt, nat_le, ◌==◌, ◌&&◌, cond, ◌∙◌, ap, arith, inl, inr}
use Rattle.std.specs.Prelude.{IsTrue, ◌↔◌}
use Rattle.std.proofs.lemmas.Bool.{and_parts, leb-true, eqb-true, lt-ltb, le-ltb, and_from, le-leb, eq-eqb, cases_lt}
use Rattle.isotp_receive.specs.declared.channel.Channel.{Channel}
use Rattle.isotp_receive.specs.Trace.{Entry, FirstFrame, first, role}
use Rattle.isotp_receive.specs.Places.{bytes_in_first, IsConsecutiveCount, FitsAs}
use Rattle.isotp_receive.specs.StandingReception.{carried_after, fits_length}
use Rattle.isotp_receive.proofs.Readings.{first_from}

pub fits-more : (len r have dl : ℕ) → have < len → have + (r - 1) < len → dl ≡ r → fits_length len r have dl ≡ true
fits-more len r have dl a b e =
    and_from _ _ (lt-ltb _ _ a)
    (ap (λ t. cond t (dl == r) (nat_le (1 + (len - have)) dl && nat_le dl r)) (lt-ltb _ _ b) ∙ eq-eqb dl r e)

pub fits-last : (len r have dl : ℕ) → have < len → len ≤ have + (r - 1) → 1 + (len - have) ≤ dl → dl ≤ r → fits_length len r have dl ≡ true
fits-last len r have dl a b low high =
    and_from _ _ (lt-ltb _ _ a)
    (ap (λ t. cond t (dl == r) (nat_le (1 + (len - have)) dl && nat_le dl r)) (le-ltb _ _ b) ∙ and_from _ _ (le-leb _ _ low) (le-leb _ _ high))

-- the bytes that have come, by the places of the first frame
pub room-join : (d : Channel) (e : Entry) (s : FirstFrame) (k : ℕ) → role d e ≡ first s → carried_after s k ≡ bytes_in_first e.frame.bytes + k * (s.rx_dl - 1)
room-join d e s k h = (let from = first_from d e s h in omega arith)

module _ (f r len n k sequence_number dl : ℕ) (least : IsConsecutiveCount f r len n) (below : k < n) where
  to : FitsAs f r len n (k + 1) sequence_number dl → (sequence_number ≡ (k + 1) % 16) × (fits_length len r (f + k * (r - 1)) dl ≡ true)
  to h = (
    h.in_sequence,
    (let have = least.fewer k below in elim (cases_lt (k + 1) n) [
      | inl less ↦ (let full = h.full less in
          let more = least.fewer (k + 1) less in
          fits-more len r (f + k * (r - 1)) dl have (omega arith) full)
      | inr most ↦ (let last : k + 1 ≡ n = omega arith in
          let low = h.last_low last in
          let high = h.last_high last in
          let back : n - 1 ≡ k = omega arith in
          let product = ap (λ j. j * (r - 1)) back in
          let product_all = ap (λ j. j * (r - 1)) last in
          let enough = least.enough in
          fits-last len r (f + k * (r - 1)) dl have (omega arith) (omega arith) high)
    ]),
  )

  from : (sequence_number ≡ (k + 1) % 16) × (fits_length len r (f + k * (r - 1)) dl ≡ true) → FitsAs f r len n (k + 1) sequence_number dl
  from h =
      let fit = (and_parts (nat_lt (f + k * (r - 1)) len) _ h.1).1 in
      let ends : k + 1 ≡ n → (1 + (len - (f + k * (r - 1))) ≤ dl) × (dl ≤ r) = λ (last : k + 1 ≡ n).
      let product = ap (λ j. j * (r - 1)) last in
      let enough = least.enough in
      let over = le-ltb (f + k * (r - 1) + (r - 1)) len (omega arith) in
      let tests = and_parts (nat_le (1 + (len - (f + k * (r - 1)))) dl) _ (rw over at fit) in
      (leb-true _ _ tests.0, leb-true _ _ tests.1) in
      record {
        from_one = omega arith;
        to_last = omega arith;
        in_sequence = h.0;
        full = λ lt. (let more = least.fewer (k + 1) lt in
            let under = lt-ltb (f + k * (r - 1) + (r - 1)) len (omega arith) in
            eqb-true dl r (rw under at fit));
        last_low = λ last. (let low = (ends last).0 in
            let back : n - 1 ≡ k = omega arith in
            let product = ap (λ j. j * (r - 1)) back in
            omega arith);
        last_high = λ last. (ends last).1;
      }

pub fits-join : (f r len n k sequence_number dl : ℕ) → IsConsecutiveCount f r len n → k < n
    → FitsAs f r len n (k + 1) sequence_number dl ↔ (sequence_number ≡ (k + 1) % 16) × IsTrue (fits_length len r (f + k * (r - 1)) dl)
fits-join f r len n k sequence_number dl least below = (to f r len n k sequence_number dl least below, from f r len n k sequence_number dl least below)
