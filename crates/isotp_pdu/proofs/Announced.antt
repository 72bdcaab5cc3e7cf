-- What a first frame that is refused for its length has wrong.
use Rattle.std.proofs.Common.{◌≡◌, ℕ, ◌+◌, ◌*◌, ◌/◌, ◌%◌, ◌<◌, ◌≤◌, ◌^◌, true, false, List, [], ◌∷◌, length, nat_lt, refl, sym, subst, ⊎_elim, arith, inl, inr}
use Rattle.std.specs.Prelude.{◌⊎◌, IsTrue}
use Rattle.std.proofs.lemmas.Bool.{and_parts, ltb-true, cases_lt, cases_eq, cases_Bool}
use Rattle.can_log.specs.Frame.{FrameValue}
use Rattle.isotp_pdu.specs.declared.PduFault.TheVariants as fault
use Rattle.isotp_pdu.specs.Layout.{Spells, first, is_can_dl, first_byte, least_first}
use Rattle.isotp_pdu.specs.Reading.{are_bytes}
use Rattle.isotp_pdu.specs.Fault.{IsFault, AnnouncesWrongly}
use Rattle.isotp_pdu.specs.Laws.{FirstLengthMeans}
use Rattle.isotp_pdu.proofs.Digits.{digits}
use Rattle.isotp_pdu.proofs.Lengths.{rx_dl_from}

module _ (low b d2 d3 d4 d5 : ℕ) (rest : List ℕ) (four_bits : low < 16)
    (byte : b < 256) (byte2 : d2 < 256) (byte3 : d3 < 256) (byte4 : d4 < 256) (byte5 : d5 < 256)
    (fits : IsTrue (is_can_dl (length (first_byte 1 low ∷ b ∷ d2 ∷ d3 ∷ d4 ∷ d5 ∷ rest))))
    (long : 8 ≤ length (first_byte 1 low ∷ b ∷ d2 ∷ d3 ∷ d4 ∷ d5 ∷ rest))
    (none : (announced rx_dl : ℕ) (data_bytes : List ℕ) → ¬ Spells (first_byte 1 low ∷ b ∷ d2 ∷ d3 ∷ d4 ∷ d5 ∷ rest) (first announced rx_dl data_bytes)) where
  abbrev these : List ℕ
  these = first_byte 1 low ∷ b ∷ d2 ∷ d3 ∷ d4 ∷ d5 ∷ rest

  abbrev escaped : ℕ
  escaped = ((d2 * 256 + d3) * 256 + d4) * 256 + d5

  abbrev short : ℕ
  short = low * 256 + b

  escaped_parts : short ≡ 0 → these ≡ first_byte 1 0 ∷ 0 ∷ (escaped / 2 ^ 24) ∷ (escaped / 2 ^ 16 % 256) ∷ (escaped / 2 ^ 8 % 256) ∷ (escaped % 256) ∷ rest
  escaped_parts is_zero =
      let ds = digits d2 d3 d4 d5 byte2 byte3 byte4 byte5 in
      let no_bits : low ≡ 0 = omega arith in
      let no_byte : b ≡ 0 = omega arith in
      rw (ds.0, ds.1, ds.2, ds.3, no_bits, no_byte) refl

  short_parts : these ≡ first_byte 1 (short / 256) ∷ (short % 256) ∷ d2 ∷ d3 ∷ d4 ∷ d5 ∷ rest
  short_parts =
      let high : short / 256 ≡ low = omega arith in
      let second : short % 256 ≡ b = omega arith in
      rw (high, second) refl

  escaped_wrong : short ≡ 0 → (4095 < escaped) ⊎ (escaped ≤ 4095) → AnnouncesWrongly these
  escaped_wrong is_zero (inl above) =
      absurd (none escaped (length these) rest (rx_dl_from (length these) fits long, refl, inr (above, omega arith, escaped_parts is_zero)))
  escaped_wrong is_zero (inr below) = inr (inr (escaped, rest, below, escaped_parts is_zero))

  short_wrong : 0 < short → (short < least_first (length these)) ⊎ (least_first (length these) ≤ short) → AnnouncesWrongly these
  short_wrong some (inl below) = inr (inl (short, d2 ∷ d3 ∷ d4 ∷ d5 ∷ rest, some, below, short_parts))
  short_wrong some (inr enough) =
      absurd (none short (length these) (d2 ∷ d3 ∷ d4 ∷ d5 ∷ rest) (rx_dl_from (length these) fits long, refl, inl (enough, omega arith, short_parts)))

  wrong : (short ≡ 0) ⊎ (short ≡ 0 → ⊥) → AnnouncesWrongly these
  wrong (inl is_zero) = escaped_wrong is_zero (cases_lt 4095 escaped)
  wrong (inr some) = short_wrong (omega arith) (cases_lt short (least_first (length these)))

-- a list has no layout of a first frame
abbrev NoFirst : List ℕ → Type 0
NoFirst bytes = (announced rx_dl : ℕ) (data_bytes : List ℕ) → ¬ Spells bytes (first announced rx_dl data_bytes)

begun_wrong : (low : ℕ) (rest : List ℕ) → low < 16 → are_bytes (first_byte 1 low ∷ rest) ≡ true
    → IsTrue (is_can_dl (length (first_byte 1 low ∷ rest))) → NoFirst (first_byte 1 low ∷ rest) → AnnouncesWrongly (first_byte 1 low ∷ rest)
begun_wrong low [] few all fits none = inl (omega arith)
begun_wrong low (b ∷ []) few all fits none = inl (omega arith)
begun_wrong low (b ∷ d2 ∷ []) few all fits none = inl (omega arith)
begun_wrong low (b ∷ d2 ∷ d3 ∷ []) few all fits none = inl (omega arith)
begun_wrong low (b ∷ d2 ∷ d3 ∷ d4 ∷ []) few all fits none = inl (omega arith)
begun_wrong low (b ∷ d2 ∷ d3 ∷ d4 ∷ d5 ∷ rest) few all fits none =
    let at_1 = and_parts (nat_lt b 256) _ (and_parts (nat_lt (first_byte 1 low) 256) _ all).1 in
    let at_2 = and_parts (nat_lt d2 256) _ at_1.1 in
    let at_3 = and_parts (nat_lt d3 256) _ at_2.1 in
    let at_4 = and_parts (nat_lt d4 256) _ at_3.1 in
    let at_5 = and_parts (nat_lt d5 256) _ at_4.1 in
    ⊎_elim inl
    (λ long. wrong low b d2 d3 d4 d5 rest few (ltb-true b 256 at_1.0) (ltb-true d2 256 at_2.0) (ltb-true d3 256 at_3.0)
    (ltb-true d4 256 at_4.0) (ltb-true d5 256 at_5.0) fits long none (cases_eq (low * 256 + b) 0))
    (cases_lt (length (first_byte 1 low ∷ b ∷ d2 ∷ d3 ∷ d4 ∷ d5 ∷ rest)) 8)

has_length : (frame : FrameValue) → IsFault fault.FirstLength frame → (is_can_dl (length frame.bytes) ≡ true) ⊎ (is_can_dl (length frame.bytes) ≡ false)
    → IsTrue (is_can_dl (length frame.bytes))
has_length frame is_fault (inl fits) = fits
has_length frame is_fault (inr other) = absurd (let up = is_fault.lowest fault.FrameLength other in omega arith)

pub first_length_means : FirstLengthMeans
first_length_means frame all is_fault =
    let low = is_fault.applies.0 in
    let b = is_fault.applies.1 in
    let fits = has_length frame is_fault (cases_Bool (is_can_dl (length frame.bytes))) in
    subst AnnouncesWrongly (sym b.parts)
    (begun_wrong low b.rest b.four_bits (subst (λ x. are_bytes x ≡ true) b.parts all)
    (subst (λ x. IsTrue (is_can_dl (length x))) b.parts fits) (subst NoFirst b.parts is_fault.applies.2))
