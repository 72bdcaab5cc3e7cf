-- Bytes spell at most one layout.
use Rattle.std.proofs.Common.{◌≡◌, ℕ, ◌/◌, ◌%◌, ◌≤◌, ◌^◌, List, length, refl, ap, arith, inl, inr}
use Rattle.isotp_pdu.specs.declared.Status.{Status}
use Rattle.isotp_pdu.specs.declared.Status.TheVariants as status
use Rattle.isotp_pdu.specs.Layout.{Layout, single, first, consecutive, flow_control, Spells, SpellsSingle, SpellsFirst, first_byte, status_number}
use Rattle.isotp_pdu.proofs.Digits.{same_digits}
use Rattle.isotp_pdu.proofs.Fronts.{same_front}
use Rattle.isotp_pdu.proofs.Lengths.{rx_dl_long, least_above}
use Rattle.isotp_pdu.proofs.FirstByte.{kind_number, begins, begins_once}

one_message : (bytes a b : List ℕ) → SpellsSingle bytes a → SpellsSingle bytes b → a ≡ b
one_message bytes a b (p, _, inl (_, left)) (q, _, inl (_, right)) =
    let size : first_byte 0 (length a) ≡ first_byte 0 (length b) = cc in
    same_front a p b q (omega arith) cc
one_message bytes a b (p, _, inr (_, left)) (q, _, inr (_, right)) = (let size : length a ≡ length b = cc in same_front a p b q size cc)
one_message bytes a b (p, _, inl (short, _)) (q, _, inr (long, _)) = absurd (omega arith)
one_message bytes a b (p, _, inr (long, _)) (q, _, inl (short, _)) = absurd (omega arith)

one_announcement : (bytes : List ℕ) (a b : ℕ) (s t : List ℕ) → 8 ≤ length bytes → SpellsFirst bytes a s → SpellsFirst bytes b t → (a ≡ b) × (s ≡ t)
one_announcement bytes a b s t long (inl (_, _, left)) (inl (_, _, right)) =
    let high : first_byte 1 (a / 256) ≡ first_byte 1 (b / 256) = cc in
    let low : a % 256 ≡ b % 256 = cc in
    (omega arith, cc)
one_announcement bytes a b s t long (inr (_, _, left)) (inr (_, _, right)) =
    let one : a / 2 ^ 24 ≡ b / 2 ^ 24 = cc in
    let two : a / 2 ^ 16 % 256 ≡ b / 2 ^ 16 % 256 = cc in
    let three : a / 2 ^ 8 % 256 ≡ b / 2 ^ 8 % 256 = cc in
    let four : a % 256 ≡ b % 256 = cc in
    (same_digits a b one two three four, cc)
one_announcement bytes a b s t long (inl (least, _, left)) (inr (_, _, right)) =
    let high : first_byte 1 (a / 256) ≡ first_byte 1 0 = cc in
    let low : a % 256 ≡ 0 = cc in
    absurd (omega (arith, least_above (length bytes) long))
one_announcement bytes a b s t long (inr (_, _, left)) (inl (least, _, right)) =
    let high : first_byte 1 (b / 256) ≡ first_byte 1 0 = cc in
    let low : b % 256 ≡ 0 = cc in
    absurd (omega (arith, least_above (length bytes) long))

one_status : (a b : Status) → status_number a ≡ status_number b → a ≡ b
one_status status.Continue status.Continue same = refl
one_status status.Wait status.Wait same = refl
one_status status.Overflow status.Overflow same = refl
one_status status.Continue status.Wait same = absurd (omega arith)
one_status status.Continue status.Overflow same = absurd (omega arith)
one_status status.Wait status.Continue same = absurd (omega arith)
one_status status.Wait status.Overflow same = absurd (omega arith)
one_status status.Overflow status.Continue same = absurd (omega arith)
one_status status.Overflow status.Wait same = absurd (omega arith)

same_kind : (bytes : List ℕ) (a b : Layout) → Spells bytes a → Spells bytes b → kind_number a ≡ kind_number b
same_kind bytes a b left right = (begins_once bytes (begins bytes a left).1 (begins bytes b right).1).0

alike : (bytes : List ℕ) (a b : Layout) → kind_number a ≡ kind_number b → Spells bytes a → Spells bytes b → a ≡ b
alike bytes (single m) (single n) _ left right = ap single (one_message bytes m n left right)
alike bytes (first m r s) (first n q t) _ left right =
    let same = one_announcement bytes m n s t (omega (arith, rx_dl_long r left.0, left.1)) left.2 right.2 in
    let lengths : r ≡ q = omega (arith, left.1, right.1) in
    let lens = same.0 in
    let rests = same.1 in
    cc
alike bytes (consecutive m r s) (consecutive n q t) _ left right =
    let same : first_byte 2 m ≡ first_byte 2 n = (let l = left.2 in let r = right.2 in cc) in
    let numbers : m ≡ n = omega arith in
    let lengths : r ≡ q = omega (arith, left.1, right.1) in
    let rests : s ≡ t = (let l = left.2 in let r = right.2 in cc) in
    cc
alike bytes (flow_control s) (flow_control t) _ (_, _, _, left) (_, _, _, right) =
    let same : first_byte 3 (status_number s) ≡ first_byte 3 (status_number t) = cc in
    ap flow_control (one_status s t (omega arith))
alike bytes (single m) (first n q t) same left right = absurd (omega arith)
alike bytes (single m) (consecutive n q t) same left right = absurd (omega arith)
alike bytes (single m) (flow_control t) same left right = absurd (omega arith)
alike bytes (first m r s) (single n) same left right = absurd (omega arith)
alike bytes (first m r s) (consecutive n q t) same left right = absurd (omega arith)
alike bytes (first m r s) (flow_control t) same left right = absurd (omega arith)
alike bytes (consecutive m r s) (single n) same left right = absurd (omega arith)
alike bytes (consecutive m r s) (first n q t) same left right = absurd (omega arith)
alike bytes (consecutive m r s) (flow_control t) same left right = absurd (omega arith)
alike bytes (flow_control s) (single n) same left right = absurd (omega arith)
alike bytes (flow_control s) (first n q t) same left right = absurd (omega arith)
alike bytes (flow_control s) (consecutive n q t) same left right = absurd (omega arith)

pub at_most_one : (bytes : List ℕ) (a b : Layout) → Spells bytes a → Spells bytes b → a ≡ b
at_most_one bytes a b left right = alike bytes a b (same_kind bytes a b left right) left right
