-- Where the bytes that a layout carries are in its frame.
use Rattle.std.proofs.Common.{◌≡◌, ℕ, ◌%◌, ◌/◌, ◌^◌, ◌∙◌, List, [], ◌∷◌, ◌++◌, length, ap, sym, inl, inr, append-nil}
use Rattle.isotp_pdu.specs.Layout.{Layout, single, first, consecutive, flow_control, first_byte, SpellsSingle, SpellsFirst, Spells, bytes_carried}
use Rattle.isotp_pdu.specs.Laws.{CarriedBytesAreOfFrame}

-- the bytes have these among them
abbrev Holds : List ℕ → List ℕ → Type 0
Holds bytes part = (front : List ℕ) × (back : List ℕ) × (bytes ≡ front ++ (part ++ back))

-- they end with these
ends_with : (bytes front part : List ℕ) → bytes ≡ front ++ part → Holds bytes part
ends_with bytes front part parts = (front, [], parts ∙ ap (λ z. front ++ z) (sym (append-nil part)))

of_single : (bytes message : List ℕ) → SpellsSingle bytes message → Holds bytes message
of_single bytes message (padding, some, inl parts) = (first_byte 0 (length message) ∷ [], padding, parts.1)
of_single bytes message (padding, some, inr parts) = (first_byte 0 0 ∷ length message ∷ [], padding, parts.1)

of_first : (bytes : List ℕ) (announced : ℕ) (data_bytes : List ℕ) → SpellsFirst bytes announced data_bytes → Holds bytes data_bytes
of_first bytes announced data_bytes (inl parts) =
    ends_with bytes (first_byte 1 (announced / 256) ∷ (announced % 256) ∷ []) data_bytes parts.2
of_first bytes announced data_bytes (inr parts) =
    ends_with bytes (first_byte 1 0 ∷ 0
    ∷ (announced / 2 ^ 24) ∷ (announced / 2 ^ 16 % 256) ∷ (announced / 2 ^ 8 % 256) ∷ (announced % 256) ∷ []) data_bytes parts.2

of_layout : (bytes : List ℕ) (layout : Layout) → Spells bytes layout → Holds bytes (bytes_carried layout)
of_layout bytes (single message) spelled = of_single bytes message spelled
of_layout bytes (first announced rx_dl data_bytes) spelled = of_first bytes announced data_bytes spelled.2
of_layout bytes (consecutive number can_dl data_bytes) spelled = ends_with bytes (first_byte 2 number ∷ []) data_bytes spelled.2
of_layout bytes (flow_control status) spelled = ends_with bytes bytes [] (sym (append-nil bytes))

pub carried_bytes_are_of_frame : CarriedBytesAreOfFrame
carried_bytes_are_of_frame frame layout has = of_layout frame.bytes layout has.spelled
