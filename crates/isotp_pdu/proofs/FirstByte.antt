-- The kind that a layout has in its first byte.
use Rattle.std.proofs.Common.{◌≡◌, ℕ, ◌+◌, ◌*◌, ◌/◌, ◌%◌, ◌<◌, List, ◌∷◌, ◌++◌, length, ap, arith, inl, inr, length-append}
use Rattle.isotp_pdu.specs.declared.Status.{Status}
use Rattle.isotp_pdu.specs.declared.Status.TheVariants as status
use Rattle.isotp_pdu.specs.Layout.{Layout, single, first, consecutive, flow_control, Spells, SpellsSingle, SpellsFirst, status_number}
use Rattle.isotp_pdu.specs.Fault.{Begins}

abbrev pub kind_number : Layout → ℕ
kind_number (single message) = 0
kind_number (first announced rx_dl data_bytes) = 1
kind_number (consecutive number can_dl data_bytes) = 2
kind_number (flow_control status) = 3

pub status_few : (s : Status) → status_number s < 3
status_few status.Continue = omega arith
status_few status.Wait = omega arith
status_few status.Overflow = omega arith

begins_single : (bytes message : List ℕ) → SpellsSingle bytes message → (low : ℕ) × Begins 0 low bytes
begins_single bytes message (padding, some, inl (short, parts)) =
    (length message, record { rest = message ++ padding; four_bits = omega (arith, ap length parts, length-append message padding); parts = parts })
begins_single bytes message (padding, some, inr (long, parts)) =
    (0, record { rest = length message ∷ message ++ padding; four_bits = omega arith; parts = parts })

begins_first : (bytes : List ℕ) (announced : ℕ) (data_bytes : List ℕ) → SpellsFirst bytes announced data_bytes → (low : ℕ) × Begins 1 low bytes
begins_first bytes announced data_bytes (inl (least, most, parts)) =
    (announced / 256, record { rest = announced % 256 ∷ data_bytes; four_bits = omega arith; parts = parts })
begins_first bytes announced data_bytes (inr (least, most, parts)) =
    (0, record { rest = _; four_bits = omega arith; parts = parts })

pub begins : (bytes : List ℕ) (layout : Layout) → Spells bytes layout → (low : ℕ) × Begins (kind_number layout) low bytes
begins bytes (single message) spelled = begins_single bytes message spelled
begins bytes (first announced rx_dl data_bytes) spelled = begins_first bytes announced data_bytes spelled.2
begins bytes (consecutive number can_dl data_bytes) spelled = (number, record { rest = data_bytes; four_bits = spelled.0; parts = spelled.2 })
begins bytes (flow_control s) (block_size, separation_time, padding, parts) =
    (status_number s, record { rest = block_size ∷ separation_time ∷ padding; four_bits = omega (arith, status_few s); parts = parts })

heads : (a b : ℕ) (s t bytes : List ℕ) → bytes ≡ a ∷ s → bytes ≡ b ∷ t → a ≡ b
heads a b s t bytes p q = cc

-- the first byte has one kind, and one number below it
pub begins_once : {k l m n : ℕ} (bytes : List ℕ) → Begins k l bytes → Begins m n bytes → (k ≡ m) × (l ≡ n)
begins_once {k} {l} {m} {n} bytes a b =
    let same : 16 * k + l ≡ 16 * m + n = heads _ _ a.rest b.rest bytes a.parts b.parts in
    (omega (arith, a.four_bits, b.four_bits), omega (arith, a.four_bits, b.four_bits))
