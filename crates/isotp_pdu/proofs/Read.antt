-- What the function answers of a frame holds of it: the bytes spell the layout, or the fault is the lowest that applies.
use Rattle.std.proofs.Common.{◌≡◌, ℕ, ◌+◌, ◌-◌, ◌*◌, ◌%◌, ◌/◌, ◌<◌, ◌≤◌, ◌^◌, true, false, ◌&&◌, List, [], ◌∷◌, length, nat_lt, nat_le, ◌==◌}
use Rattle.std.proofs.Common.{take, drop, Result, Ok, Err, refl, ap, arith, cond, inl, inr, length-take, length-append, slice_index}
use Rattle.std.specs.Prelude.{◌≢◌, slice_range, IsTrue}
use Rattle.std.proofs.lemmas.Bool.{and_parts, and_from, both_ways, ltb-true, ltb-false, eqb-true, eqb-false, leb-true, leb-false, cond_both, eq-eqb, le-leb, lt-ltb}
use Rattle.std.proofs.lemmas.List.{take-append-drop}
use Rattle.can_log.specs.Frame.{FrameValue}
use Rattle.can_log.specs.declared.frame.Id.{Id}
use Rattle.can_log.specs.declared.frame.Kind.{Kind}
use Rattle.can_log.specs.declared.frame.Kind.TheVariants as kind
use Rattle.isotp_pdu.specs.declared.PduFault.{PduFault}
use Rattle.isotp_pdu.specs.declared.PduFault.TheVariants as fault
use Rattle.isotp_pdu.specs.Layout.{Layout, single, first, consecutive, is_can_dl, least_first, first_byte, Spells, SpellsSingle, HasLayout}
use Rattle.isotp_pdu.specs.Reading.{layout_of, of_frame, of_bytes, of_kind, single_of, first_of, short_first_of, escaped_first_of, flow_status_of, are_bytes}
use Rattle.isotp_pdu.specs.Fault.{IsFault}
use Rattle.isotp_pdu.proofs.Precedence.{IsBegun, at_least_one, from_length, from_empty, from_kind, from_single, from_first, from_flow, from_status}
use Rattle.isotp_pdu.proofs.Digits.{digits}
use Rattle.isotp_pdu.proofs.Lengths.{rx_dl_from, rx_dl_long, least_above}

abbrev Judged : FrameValue → Result Layout PduFault → Type 0
Judged frame (Ok layout) = Spells frame.bytes layout
Judged frame (Err e) = IsFault e frame

bytes_4 : (a b c d : ℕ) → are_bytes (a ∷ b ∷ c ∷ d ∷ []) ≡ true → (a < 256) × (b < 256) × (c < 256) × (d < 256)
bytes_4 a b c d all =
    let one = and_parts (nat_lt a 256) _ all in
    let two = and_parts (nat_lt b 256) _ one.1 in
    let three = and_parts (nat_lt c 256) _ two.1 in
    let four = and_parts (nat_lt d 256) _ three.1 in
    (ltb-true a 256 one.0, ltb-true b 256 two.0, ltb-true c 256 three.0, ltb-true d 256 four.0)

from_bytes_4 : (a b c d : ℕ) → a < 256 → b < 256 → c < 256 → d < 256 → are_bytes (a ∷ b ∷ c ∷ d ∷ []) ≡ true
from_bytes_4 a b c d p q r t =
    and_from _ _ (lt-ltb a 256 p) (and_from _ _ (lt-ltb b 256 q) (and_from _ _ (lt-ltb c 256 r) (and_from _ _ (lt-ltb d 256 t) refl)))

-- data frames: what the function answers of their bytes, kind by kind
module _ (i : Id) (k : Kind) (data_frame : k ≢ kind.Remote) where
  abbrev frame_of : List ℕ → FrameValue
  frame_of bytes = record { id = i; kind = k; bytes = bytes }

  -- a frame of legal length with a first byte
  module _ (c : ℕ) (rest : List ℕ) (fits : IsTrue (is_can_dl (length (c ∷ rest)))) where
    abbrev these : List ℕ
    these = c ∷ rest

    abbrev this : FrameValue
    this = frame_of (c ∷ rest)

    parts : (n low : ℕ) → c / 16 ≡ n → c % 16 ≡ low → these ≡ first_byte n low ∷ rest
    parts n low is_kind is_low = (let whole : c ≡ 16 * n + low = omega arith in ap (λ b. b ∷ rest) whole)

    begun : (n : ℕ) → c / 16 ≡ n → IsBegun this n (c % 16)
    begun n is_kind = record {
      data_frame = data_frame;
      fits = fits;
      begun = record { rest = rest; four_bits = omega arith; parts = parts n (c % 16) is_kind refl };
    }

    consecutive_read : c / 16 ≡ 2 → Spells these (consecutive (c % 16) (length these) rest)
    consecutive_read is_kind = (omega arith, refl, parts 2 (c % 16) is_kind refl)

    unknown_read : 3 < c / 16 → IsFault fault.UnknownKind this
    unknown_read is_kind = record {
      applies = (c / 16, c % 16, is_kind, (begun (c / 16) refl).begun);
      lowest = from_kind this (c / 16) (c % 16) (begun (c / 16) refl);
    }

    short_read : c / 16 ≡ 3 → length these < 3 → IsFault fault.FlowShort this
    short_read is_kind short = record {
      applies = (c % 16, (begun 3 is_kind).begun, short);
      lowest = from_flow this 3 (c % 16) (omega arith) (omega arith) (begun 3 is_kind);
    }

    status_read : c / 16 ≡ 3 → 3 ≤ length these → 2 < c % 16 → IsFault fault.FlowStatus this
    status_read is_kind long above = record {
      applies = (c % 16, (begun 3 is_kind).begun, above);
      lowest = from_status this (c % 16) long (begun 3 is_kind);
    }

    single_fails : c / 16 ≡ 0 → ((message : List ℕ) → ¬ SpellsSingle these message) → IsFault fault.SingleLength this
    single_fails is_kind none = record {
      applies = (c % 16, (begun 0 is_kind).begun, none);
      lowest = from_single this 0 (c % 16) (omega arith) (begun 0 is_kind);
    }

    first_fails : c / 16 ≡ 1 → ((announced rx_dl : ℕ) (data_bytes : List ℕ) → ¬ Spells these (first announced rx_dl data_bytes)) → IsFault fault.FirstLength this
    first_fails is_kind none = record {
      applies = (c % 16, (begun 1 is_kind).begun, none);
      lowest = from_first this 1 (c % 16) (omega arith) (omega arith) (begun 1 is_kind);
    }

  -- flow control, by its second and third byte
  flow_read : (c : ℕ) (rest : List ℕ) (fits : IsTrue (is_can_dl (length (c ∷ rest))))
      → c / 16 ≡ 3 → 3 ≤ length (c ∷ rest) → Judged (frame_of (c ∷ rest)) (flow_status_of (c % 16))
  flow_read c [] fits is_kind long = absurd (omega arith)
  flow_read c (b ∷ []) fits is_kind long = absurd (omega arith)
  flow_read c (b ∷ d ∷ rest) fits is_kind long =
      let judged = Judged (frame_of (c ∷ b ∷ d ∷ rest)) in
      let found = λ (n : ℕ) (is_low : c % 16 ≡ n). parts c (b ∷ d ∷ rest) fits 3 n is_kind is_low in
      cond_both (c % 16 == 0) _ _ judged (λ e. (b, d, rest, found 0 (eqb-true (c % 16) 0 e))) (λ e0.
      cond_both (c % 16 == 1) _ _ judged (λ e. (b, d, rest, found 1 (eqb-true (c % 16) 1 e))) (λ e1.
      cond_both (c % 16 == 2) _ _ judged (λ e. (b, d, rest, found 2 (eqb-true (c % 16) 2 e))) (λ e2.
      let not_0 : c % 16 ≢ 0 = eqb-false (c % 16) 0 e0 in
      let not_1 : c % 16 ≢ 1 = eqb-false (c % 16) 1 e1 in
      let not_2 : c % 16 ≢ 2 = eqb-false (c % 16) 2 e2 in
      status_read c (b ∷ d ∷ rest) fits is_kind long (omega arith))))

  -- a single frame of at most 8 bytes
  short_single : (c : ℕ) (rest : List ℕ) (fits : IsTrue (is_can_dl (length (c ∷ rest))))
      → c / 16 ≡ 0 → length (c ∷ rest) ≤ 8
      → Judged (frame_of (c ∷ rest))
      (cond (nat_le 1 (c % 16) && nat_le (c % 16 + 1) (length (c ∷ rest))) (Ok (single (slice_range (c ∷ rest) 1 (c % 16 + 1)))) (Err fault.SingleLength))
  short_single c rest fits is_kind low =
      cond_both (nat_le 1 (c % 16) && nat_le (c % 16 + 1) (length (c ∷ rest))) _ _ (Judged (frame_of (c ∷ rest)))
      (λ e. let tests = and_parts (nat_le 1 (c % 16)) _ e in
      let some : 1 ≤ c % 16 = leb-true 1 _ tests.0 in
      let enough : c % 16 + 1 ≤ length (c ∷ rest) = leb-true _ (length (c ∷ rest)) tests.1 in
      let size : length (take (c % 16 + 1 - 1) rest) ≡ c % 16 = omega (arith, length-take (c % 16 + 1 - 1) rest) in (
        drop (c % 16 + 1 - 1) rest,
        omega (arith, size),
        inl (low, rw (size, take-append-drop) (parts c rest fits 0 (c % 16) is_kind refl)),
      ))
      (λ e. single_fails c rest fits is_kind (λ message spelled. unread message spelled e))
    where
      unread : (message : List ℕ) → SpellsSingle (c ∷ rest) message → nat_le 1 (c % 16) && nat_le (c % 16 + 1) (length (c ∷ rest)) ≡ false → ⊥
      unread message (padding, some, inl (short, spelled)) e =
          let head : c ≡ first_byte 0 (length message) = cc in
          let size : length (c ∷ rest) ≡ 1 + (length message + length padding) = omega (arith, ap length spelled, length-append message padding) in
          both_ways _ e (and_from _ _ (le-leb 1 (c % 16) (omega arith)) (le-leb (c % 16 + 1) (length (c ∷ rest)) (omega arith)))
      unread message (padding, some, inr (long, spelled)) e = absurd (omega arith)

  -- a single frame of more than 8 bytes
  long_single : (c b : ℕ) (rest : List ℕ) (fits : IsTrue (is_can_dl (length (c ∷ b ∷ rest))))
      → c / 16 ≡ 0 → 8 < length (c ∷ b ∷ rest)
      → Judged (frame_of (c ∷ b ∷ rest))
      (cond ((c == 0) && (nat_le 1 b && nat_le (b + 2) (length (c ∷ b ∷ rest)))) (Ok (single (slice_range (c ∷ b ∷ rest) 2 (b + 2)))) (Err fault.SingleLength))
  long_single c b rest fits is_kind long =
      cond_both ((c == 0) && (nat_le 1 b && nat_le (b + 2) (length (c ∷ b ∷ rest)))) _ _ (Judged (frame_of (c ∷ b ∷ rest)))
      (λ e. let tests = and_parts (c == 0) _ e in
      let sizes = and_parts (nat_le 1 b) _ tests.1 in
      let head : c ≡ 0 = eqb-true c 0 tests.0 in
      let some : 1 ≤ b = leb-true 1 b sizes.0 in
      let enough : b + 2 ≤ length (c ∷ b ∷ rest) = leb-true (b + 2) (length (c ∷ b ∷ rest)) sizes.1 in
      let size : length (take (b + 2 - 2) rest) ≡ b = omega (arith, length-take (b + 2 - 2) rest) in
      (drop (b + 2 - 2) rest, omega (arith, size), inr (long, rw (size, take-append-drop, head) refl)))
      (λ e. single_fails c (b ∷ rest) fits is_kind (λ message spelled. unread message spelled e))
    where
      unread : (message : List ℕ) → SpellsSingle (c ∷ b ∷ rest) message → (c == 0) && (nat_le 1 b && nat_le (b + 2) (length (c ∷ b ∷ rest))) ≡ false → ⊥
      unread message (padding, some, inr (low, spelled)) e =
          let head : c ≡ first_byte 0 0 = cc in
          let second : b ≡ length message = cc in
          let size : length (c ∷ b ∷ rest) ≡ 2 + (length message + length padding) = omega (arith, ap length spelled, length-append message padding) in
          both_ways _ e (and_from _ _ (eq-eqb c 0 (omega arith)) (and_from _ _ (le-leb 1 b (omega arith)) (le-leb (b + 2) (length (c ∷ b ∷ rest)) (omega arith))))
      unread message (padding, some, inl (short, spelled)) e = absurd (omega arith)

  single_read : (c : ℕ) (rest : List ℕ) (fits : IsTrue (is_can_dl (length (c ∷ rest))))
      → c / 16 ≡ 0 → Judged (frame_of (c ∷ rest)) (single_of (c ∷ rest))
  single_read c [] fits is_kind = short_single c [] fits is_kind (omega arith)
  single_read c (b ∷ rest) fits is_kind =
      cond_both (nat_le (length (c ∷ b ∷ rest)) 8) _ _ (Judged (frame_of (c ∷ b ∷ rest)))
      (λ low. short_single c (b ∷ rest) fits is_kind (leb-true (length (c ∷ b ∷ rest)) 8 low))
      (λ long. long_single c b rest fits is_kind (leb-false (length (c ∷ b ∷ rest)) 8 long))

  -- a first frame with its length in 12 bits
  short_first : (c b : ℕ) (rest : List ℕ) (fits : IsTrue (is_can_dl (length (c ∷ b ∷ rest))))
      → c / 16 ≡ 1 → 8 ≤ length (c ∷ b ∷ rest) → (c % 16 == 0) && (b == 0) ≡ false
      → Judged (frame_of (c ∷ b ∷ rest)) (short_first_of (c ∷ b ∷ rest))
  short_first c b rest fits is_kind long escapes =
      let announced = c % 16 * 256 + b in
      cond_both (nat_le (least_first (length (c ∷ b ∷ rest))) announced && are_bytes (b ∷ [])) _ _ (Judged (frame_of (c ∷ b ∷ rest)))
      (λ e. let tests = and_parts (nat_le (least_first (length (c ∷ b ∷ rest))) announced) _ e in
      let byte : b < 256 = ltb-true b 256 (and_parts (nat_lt b 256) _ tests.1).0 in
      let high : announced / 256 ≡ c % 16 = omega arith in
      let low : announced % 256 ≡ b = omega arith in (
        rx_dl_from _ fits long,
        refl,
        inl (
          leb-true (least_first (length (c ∷ b ∷ rest))) announced tests.0,
          omega arith,
          rw (high, low) (parts c (b ∷ rest) fits 1 (c % 16) is_kind refl),
        ),
      ))
      (λ e. first_fails c (b ∷ rest) fits is_kind (λ announced rx_dl data_bytes spelled. unread announced rx_dl data_bytes spelled e))
    where
      unread : (announced rx_dl : ℕ) (data_bytes : List ℕ) → Spells (c ∷ b ∷ rest) (first announced rx_dl data_bytes)
          → nat_le (least_first (length (c ∷ b ∷ rest))) (c % 16 * 256 + b) && are_bytes (b ∷ []) ≡ false → ⊥
      unread announced rx_dl data_bytes (_, _, inl (least, most, spelled)) e =
          let head : c ≡ first_byte 1 (announced / 256) = cc in
          let second : b ≡ announced % 256 = cc in
          let same : c % 16 * 256 + b ≡ announced = omega arith in
          both_ways _ e (and_from _ _ (rw same (le-leb (least_first (length (c ∷ b ∷ rest))) announced least)) (and_from _ _ (lt-ltb b 256 (omega arith)) refl))
      unread announced rx_dl data_bytes (_, _, inr (least, most, spelled)) e =
          let head : c ≡ first_byte 1 0 = cc in
          let second : b ≡ 0 = cc in
          both_ways _ escapes (and_from _ _ (eq-eqb (c % 16) 0 (omega arith)) (eq-eqb b 0 second))

  -- a first frame with its length in 32 bits
  escaped_first : (c b d2 d3 d4 d5 : ℕ) (rest : List ℕ)
      (fits : IsTrue (is_can_dl (length (c ∷ b ∷ d2 ∷ d3 ∷ d4 ∷ d5 ∷ rest))))
      → c / 16 ≡ 1 → 8 ≤ length (c ∷ b ∷ d2 ∷ d3 ∷ d4 ∷ d5 ∷ rest) → c % 16 ≡ 0 → b ≡ 0
      → Judged (frame_of (c ∷ b ∷ d2 ∷ d3 ∷ d4 ∷ d5 ∷ rest)) (escaped_first_of (c ∷ b ∷ d2 ∷ d3 ∷ d4 ∷ d5 ∷ rest))
  escaped_first c b d2 d3 d4 d5 rest fits is_kind long low second =
      let announced = ((d2 * 256 + d3) * 256 + d4) * 256 + d5 in
      let x = c ∷ b ∷ d2 ∷ d3 ∷ d4 ∷ d5 ∷ rest in
      cond_both (nat_lt 4095 announced && are_bytes (d2 ∷ d3 ∷ d4 ∷ d5 ∷ [])) _ _ (Judged (frame_of x))
      (λ e. let tests = and_parts (nat_lt 4095 announced) _ e in
      let each = bytes_4 d2 d3 d4 d5 tests.1 in
      let ds = digits d2 d3 d4 d5 each.0 each.1 each.2 each.3 in
      let head : c ≡ 16 = omega arith in (
        rx_dl_from _ fits long,
        refl,
        inr (ltb-true 4095 announced tests.0, omega (arith, each.0, each.1, each.2, each.3), rw (ds.0, ds.1, ds.2, ds.3, head, second) refl),
      ))
      (λ e. first_fails c (b ∷ d2 ∷ d3 ∷ d4 ∷ d5 ∷ rest) fits is_kind (λ announced rx_dl data_bytes spelled. unread announced rx_dl data_bytes spelled e))
    where
      unread : (announced rx_dl : ℕ) (data_bytes : List ℕ) → Spells (c ∷ b ∷ d2 ∷ d3 ∷ d4 ∷ d5 ∷ rest) (first announced rx_dl data_bytes)
          → nat_lt 4095 (((d2 * 256 + d3) * 256 + d4) * 256 + d5) && are_bytes (d2 ∷ d3 ∷ d4 ∷ d5 ∷ []) ≡ false → ⊥
      unread announced rx_dl data_bytes (_, _, inl (least, most, spelled)) e =
          let head : c ≡ first_byte 1 (announced / 256) = cc in
          let third : b ≡ announced % 256 = cc in
          let above = least_above (length (c ∷ b ∷ d2 ∷ d3 ∷ d4 ∷ d5 ∷ rest)) long in
          absurd (omega arith)
      unread announced rx_dl data_bytes (_, _, inr (least, most, spelled)) e =
          let one : d2 ≡ announced / 2 ^ 24 = cc in
          let two : d3 ≡ announced / 2 ^ 16 % 256 = cc in
          let three : d4 ≡ announced / 2 ^ 8 % 256 = cc in
          let four : d5 ≡ announced % 256 = cc in
          let same : ((d2 * 256 + d3) * 256 + d4) * 256 + d5 ≡ announced = omega arith in
          both_ways _ e (and_from _ _ (rw same (lt-ltb 4095 announced least)) (from_bytes_4 d2 d3 d4 d5 (omega arith) (omega arith) (omega arith) (omega arith)))

  long_first : (c : ℕ) (rest : List ℕ) (fits : IsTrue (is_can_dl (length (c ∷ rest))))
      → c / 16 ≡ 1 → 8 ≤ length (c ∷ rest)
      → Judged (frame_of (c ∷ rest))
      (cond ((slice_index (c ∷ rest) 0 % 16 == 0) && (slice_index (c ∷ rest) 1 == 0)) (escaped_first_of (c ∷ rest)) (short_first_of (c ∷ rest)))
  long_first c (b ∷ d2 ∷ d3 ∷ d4 ∷ d5 ∷ rest) fits is_kind long =
      cond_both ((c % 16 == 0) && (b == 0)) _ _ (Judged (frame_of (c ∷ b ∷ d2 ∷ d3 ∷ d4 ∷ d5 ∷ rest)))
      (λ e. let tests = and_parts (c % 16 == 0) (b == 0) e in
      escaped_first c b d2 d3 d4 d5 rest fits is_kind long (eqb-true (c % 16) 0 tests.0) (eqb-true b 0 tests.1))
      (λ e. short_first c b (d2 ∷ d3 ∷ d4 ∷ d5 ∷ rest) fits is_kind long e)
  long_first c [] fits is_kind long = absurd (omega arith)
  long_first c (b ∷ []) fits is_kind long = absurd (omega arith)
  long_first c (b ∷ d2 ∷ []) fits is_kind long = absurd (omega arith)
  long_first c (b ∷ d2 ∷ d3 ∷ []) fits is_kind long = absurd (omega arith)
  long_first c (b ∷ d2 ∷ d3 ∷ d4 ∷ []) fits is_kind long = absurd (omega arith)

  first_read : (c : ℕ) (rest : List ℕ) (fits : IsTrue (is_can_dl (length (c ∷ rest))))
      → c / 16 ≡ 1 → Judged (frame_of (c ∷ rest)) (first_of (c ∷ rest))
  first_read c rest fits is_kind =
      cond_both (nat_lt (length (c ∷ rest)) 8) _ _ (Judged (frame_of (c ∷ rest)))
      (λ short. first_fails c rest fits is_kind
      (λ announced rx_dl data_bytes spelled.
      let few : length (c ∷ rest) < 8 = ltb-true (length (c ∷ rest)) 8 short in
      absurd (omega (arith, rx_dl_long rx_dl spelled.0, spelled.1))))
      (λ long. long_first c rest fits is_kind (ltb-false (length (c ∷ rest)) 8 long))

  kind_read : (c : ℕ) (rest : List ℕ) (fits : IsTrue (is_can_dl (length (c ∷ rest))))
      → Judged (frame_of (c ∷ rest)) (of_kind (c / 16) (c ∷ rest))
  kind_read c rest fits =
      let judged = Judged (frame_of (c ∷ rest)) in
      cond_both (c / 16 == 0) _ _ judged (λ e. single_read c rest fits (eqb-true (c / 16) 0 e)) (λ e0.
      cond_both (c / 16 == 1) _ _ judged (λ e. first_read c rest fits (eqb-true (c / 16) 1 e)) (λ e1.
      cond_both (c / 16 == 2) _ _ judged (λ e. consecutive_read c rest fits (eqb-true (c / 16) 2 e)) (λ e2.
      cond_both (c / 16 == 3) _ _ judged
      (λ e. cond_both (nat_lt (length (c ∷ rest)) 3) _ _ judged
      (λ short. short_read c rest fits (eqb-true (c / 16) 3 e) (ltb-true (length (c ∷ rest)) 3 short))
      (λ long. flow_read c rest fits (eqb-true (c / 16) 3 e) (ltb-false (length (c ∷ rest)) 3 long)))
      (λ e3.
      let not_0 : c / 16 ≢ 0 = eqb-false (c / 16) 0 e0 in
      let not_1 : c / 16 ≢ 1 = eqb-false (c / 16) 1 e1 in
      let not_2 : c / 16 ≢ 2 = eqb-false (c / 16) 2 e2 in
      let not_3 : c / 16 ≢ 3 = eqb-false (c / 16) 3 e3 in
      unknown_read c rest fits (omega arith)))))

-- what the function answers of a frame
abbrev pub Reads : FrameValue → Result Layout PduFault → Type 0
Reads frame (Ok layout) = HasLayout frame layout
Reads frame (Err e) = IsFault e frame

has_layout : (frame : FrameValue) (r : Result Layout PduFault) → frame.kind ≢ kind.Remote → IsTrue (is_can_dl (length frame.bytes)) → Judged frame r → Reads frame r
has_layout frame (Ok layout) data_frame fits judged = record { data_frame = data_frame; frame_length = fits; spelled = judged }
has_layout frame (Err e) data_frame fits judged = judged

bytes_read : (i : Id) (k : Kind) (data_frame : k ≢ kind.Remote) (x : List ℕ) → Reads (record { id = i; kind = k; bytes = x }) (of_bytes x)
bytes_read i k data_frame [] =
    record { applies = refl; lowest = from_empty (record { id = i; kind = k; bytes = [] }) data_frame refl }
bytes_read i k data_frame (c ∷ rest) =
    let frame : FrameValue = record { id = i; kind = k; bytes = c ∷ rest } in
    cond_both (is_can_dl (length (c ∷ rest))) _ _ (Reads frame)
    (λ fits. cond_both (length (c ∷ rest) == 0) _ _ (Reads frame)
    (λ none. absurd (let zero_long : length (c ∷ rest) ≡ 0 = eqb-true (length (c ∷ rest)) 0 none in omega arith))
    (λ _. has_layout frame (of_kind (c / 16) (c ∷ rest)) data_frame fits (kind_read i k data_frame c rest fits)))
    (λ no_length. record { applies = no_length; lowest = from_length frame data_frame })

frame_read : (i : Id) (k : Kind) (x : List ℕ) → Reads (record { id = i; kind = k; bytes = x }) (of_frame k x)
frame_read i kind.Remote x = record { applies = refl; lowest = λ g _. at_least_one g }
frame_read i kind.Classic x = bytes_read i kind.Classic (λ same. cc) x
frame_read i kind.Fd x = bytes_read i kind.Fd (λ same. cc) x

pub read : (frame : FrameValue) → Reads frame (layout_of frame)
unfolding layout_of
read frame = frame_read frame.id frame.kind frame.bytes
