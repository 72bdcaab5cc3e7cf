-- What is known of a frame by its role: where the bytes of its message lie in it, and the ranges of its numbers.
use Rattle.std.proofs.Common.{true, false, ◌≡◌, ℕ, ◌+◌, ◌-◌, ◌*◌, ◌%◌, ◌/◌, ◌<◌, ◌≤◌, List, ◌++◌, length, drop, get_or, slice_index, ◌==◌, Result, Ok}
use Rattle.std.proofs.Common.{Err, refl, sym, ◌∙◌, ap, arith, cond, length-append, inl, inr}
use Rattle.std.specs.Prelude.{⊤, IfOk}
use Rattle.std.proofs.lemmas.Bool.{cond_both, cases_Bool, ne_eqb}
use Rattle.can_log.specs.Frame.{FrameValue}
use Rattle.isotp_receive.specs.declared.channel.Channel.{Channel}
use Rattle.isotp_pdu.specs.declared.PduFault.{PduFault}
use Rattle.isotp_pdu.specs.declared.Status.TheVariants.{Continue, Wait, Overflow}
use Rattle.isotp_pdu.specs.Layout.{Layout, bytes_carried, least_first, SpellsFirst, Spells, IsSoundLayout}
use Rattle.isotp_pdu.specs.Layout as layout
use Rattle.isotp_pdu.specs.Reading.{layout_of}
use Rattle.isotp_pdu.proofs.Promises.{layout_is_read, layout_is_sound, carried_bytes_are_of_frame, can_dl_is_at_most_64}
use Rattle.isotp_receive.specs.Trace.{Entry, FirstFrame, FrameRole, single, first, consecutive, continue_or_wait, overflow, no_part, role, own_role, other_role}
use Rattle.isotp_receive.specs.declared.channel.Channel.TheVariants.{Tester, Unit, Functional}
use Rattle.isotp_receive.specs.Places.{bytes_in_first}
use Rattle.isotp_receive.specs.MessageLaws.{FirstFrameIsRead}
use Rattle.isotp_receive.proofs.Directions.{same}
use Rattle.isotp_receive.specs.Channels.{same_channel}
use Rattle.isotp_receive.specs.Trace.{layout_in}
use Rattle.isotp_receive.specs.Channels.{layout_on}
use Rattle.isotp_receive.specs.declared.event.Reason.{Reason}

-- ---- where the bytes of a layout lie in its frame

abbrev LiesIn : List ℕ → Layout → Type 0
LiesIn x (layout.first len rx_dl bytes) = (bytes ≡ drop (rx_dl - bytes_in_first x) x) × (length bytes ≡ bytes_in_first x)
LiesIn x (layout.consecutive sequence_number can_dl bytes) = bytes ≡ drop 1 x
LiesIn x (layout.single message) = ⊤
LiesIn x (layout.flow_control status) = ⊤

least_above_six : (n : ℕ) → 8 ≤ n → 7 ≤ least_first n
least_above_six n low = cond_both (n == 8) 8 (n - 1) (λ m. 7 ≤ m) (λ _. omega arith) (λ _. omega arith)

first_lies : (x : List ℕ) (len : ℕ) (bytes : List ℕ) → 8 ≤ length x → SpellsFirst x len bytes
    → (bytes ≡ drop (length x - bytes_in_first x) x) × (length bytes ≡ bytes_in_first x)
first_lies x len bytes low (inl (least, most, parts)) =
    let high_byte : slice_index x 0 ≡ 16 + len / 256 = ap (λ l. get_or l 0 0) parts in
    let low_byte : slice_index x 1 ≡ len % 256 = ap (λ l. get_or l 1 0) parts in
    let above = least_above_six (length x) low in
    let told : ((slice_index x 0 % 16) * 256 + slice_index x 1 == 0) ≡ false = ne_eqb _ 0 (omega arith) in
    let held : bytes_in_first x ≡ length x - 2 = ap (λ b. cond b (length x - 6) (length x - 2)) told in
    let size = ap length parts in
    let place : length x - bytes_in_first x ≡ 2 = omega arith in
    (sym (ap (λ k. drop k x) place ∙ ap (drop 2) parts), omega arith)
first_lies x len bytes low (inr (least, most, parts)) =
    let told : ((slice_index x 0 % 16) * 256 + slice_index x 1 == 0) ≡ true = rw parts refl in
    let held : bytes_in_first x ≡ length x - 6 = ap (λ b. cond b (length x - 6) (length x - 2)) told in
    let size = ap length parts in
    let place : length x - bytes_in_first x ≡ 6 = omega arith in
    (sym (ap (λ k. drop k x) place ∙ ap (drop 6) parts), omega arith)

spelled_lies : (x : List ℕ) (found : Layout) → Spells x found → IsSoundLayout found → LiesIn x found
spelled_lies x (layout.single message) spelled sound = tt
spelled_lies x (layout.first len rx_dl bytes) (is_rx_dl, size, parts) sound =
    let low = sound.at_least in
    let lies = first_lies x len bytes (omega arith) parts in
    (lies.0 ∙ ap (λ n. drop (n - bytes_in_first x) x) (sym size), lies.1)
spelled_lies x (layout.consecutive sequence_number can_dl bytes) (few, size, parts) sound = sym (ap (drop 1) parts)
spelled_lies x (layout.flow_control status) spelled sound = tt

-- ---- what is known of the layout of a frame

-- the bytes are in the frame, one after another
abbrev pub StandIn : List ℕ → List ℕ → Type 0
StandIn x bytes = (front : List ℕ) × (back : List ℕ) × (x ≡ front ++ (bytes ++ back))

record IsReadFrom (x : List ℕ) (found : Layout) : Type 0 where
  lies : LiesIn x found
  carried : StandIn x (bytes_carried found)
  few : length x ≤ 64
  numbers : IsSoundLayout found

read_from : (f : FrameValue) (r : Result Layout PduFault) → layout_of f ≡ r → IfOk r (IsReadFrom f.bytes)
read_from f (Ok found) is =
    let has = (layout_is_read f found).1 is in
    let numbers = layout_is_sound f found has in
    record {
      lies = spelled_lies f.bytes found has.spelled numbers;
      carried = carried_bytes_are_of_frame f found has;
      few = can_dl_is_at_most_64 (length f.bytes) has.frame_length;
      numbers = numbers;
    }
read_from f (Err fault) is = tt

-- what a frame says on a channel is its layout
on_channel : (c : Channel) (r : Result Layout PduFault) (found : Layout) → layout_on c r ≡ Ok found → r ≡ Ok found
on_channel Tester (Ok said) found is = cc
on_channel Tester (Err fault) found is = absurd (cc)
on_channel Unit (Ok said) found is = cc
on_channel Unit (Err fault) found is = absurd (cc)
on_channel Functional (Ok (layout.single message)) found is = cc
on_channel Functional (Ok (layout.first len rx_dl bytes)) found is = absurd (cc)
on_channel Functional (Ok (layout.consecutive sequence_number can_dl bytes)) found is = absurd (cc)
on_channel Functional (Ok (layout.flow_control status)) found is = absurd (cc)
on_channel Functional (Err fault) found is = absurd (cc)

-- what a frame says in a trace is its layout
pub said_is_read : (e : Entry) (found : Layout) → layout_in e ≡ Ok found → layout_of e.frame ≡ Ok found
unfolding layout_in
said_is_read e found is = on_channel e.channel (layout_of e.frame) found is

read_in : (e : Entry) (r : Result Layout Reason) → layout_in e ≡ r → IfOk r (IsReadFrom e.frame.bytes)
read_in e (Ok found) is = read_from e.frame (Ok found) (said_is_read e found is)
read_in e (Err why) is = tt

-- ---- what is known of a frame of each role, of these bytes

pub record IsWhole (x message : List ℕ) : Type 0 where
  pub lies : StandIn x message
  pub some : 1 ≤ length message
  pub few : length message ≤ 64

pub record IsFirst (micros : ℕ) (x : List ℕ) (start : FirstFrame) : Type 0 where
  pub lies : start.bytes ≡ drop (start.rx_dl - bytes_in_first x) x
  pub held : length start.bytes ≡ bytes_in_first x
  pub fewer : length start.bytes < start.len
  pub wide : 8 ≤ start.rx_dl
  pub time : start.micros ≡ micros

pub record IsNext (x : List ℕ) (can_dl : ℕ) (bytes : List ℕ) : Type 0 where
  pub lies : bytes ≡ drop 1 x
  pub size : length bytes + 1 ≡ can_dl

abbrev pub IsRoleOf : ℕ → List ℕ → FrameRole → Type 0
IsRoleOf micros x (first start) = IsFirst micros x start
IsRoleOf micros x (consecutive sequence_number can_dl bytes) = IsNext x can_dl bytes
IsRoleOf micros x (single message) = IsWhole x message
IsRoleOf micros x continue_or_wait = ⊤
IsRoleOf micros x overflow = ⊤
IsRoleOf micros x no_part = ⊤

own_from : (line micros : ℕ) (x : List ℕ) (r : Result Layout Reason) → IfOk r (IsReadFrom x) → IsRoleOf micros x (own_role line micros r)
own_from line micros x (Ok (layout.single message)) from =
    let size = ap length from.carried.2 in
    let sum = length-append from.carried.0 (message ++ from.carried.1) in
    record { lies = from.carried; some = from.numbers; few = omega (arith, length-append message from.carried.1, from.few) }
own_from line micros x (Ok (layout.first len rx_dl bytes)) from =
    record { lies = from.lies.0; held = from.lies.1; fewer = from.numbers.carries_less; wide = from.numbers.at_least; time = refl }
own_from line micros x (Ok (layout.consecutive sequence_number can_dl bytes)) from = record { lies = from.lies; size = from.numbers.in_frame }
own_from line micros x (Ok (layout.flow_control status)) from = tt
own_from line micros x (Err fault) from = tt

other_from : (micros : ℕ) (x : List ℕ) (r : Result Layout Reason) → IsRoleOf micros x (other_role r)
other_from micros x (Ok (layout.flow_control Continue)) = tt
other_from micros x (Ok (layout.flow_control Wait)) = tt
other_from micros x (Ok (layout.flow_control Overflow)) = tt
other_from micros x (Ok (layout.single message)) = tt
other_from micros x (Ok (layout.first len rx_dl bytes)) = tt
other_from micros x (Ok (layout.consecutive sequence_number can_dl bytes)) = tt
other_from micros x (Err fault) = tt

pub role_from : (d : Channel) (e : Entry) → IsRoleOf e.micros e.frame.bytes (role d e)
unfolding role
role_from d e =
    cond_both (same_channel d e.channel) _ _ (IsRoleOf e.micros e.frame.bytes)
    (λ _. own_from e.line e.micros e.frame.bytes _ (read_in e (layout_in e) refl))
    (λ _. other_from e.micros e.frame.bytes (layout_in e))

pub whole_from : (d : Channel) (e : Entry) (message : List ℕ) → role d e ≡ single message → IsWhole e.frame.bytes message
whole_from d e message h = rw h at (role_from d e)

pub first_from : (d : Channel) (e : Entry) (start : FirstFrame) → role d e ≡ first start → IsFirst e.micros e.frame.bytes start
first_from d e start h = rw h at (role_from d e)

pub next_from : (d : Channel) (e : Entry) (sequence_number can_dl : ℕ) (bytes : List ℕ) → role d e ≡ consecutive sequence_number can_dl bytes
    → IsNext e.frame.bytes can_dl bytes
next_from d e sequence_number can_dl bytes h = rw h at (role_from d e)

-- ---- what is a first frame to a direction

own_first : (line micros : ℕ) (r : Result Layout Reason) (start : FirstFrame) → own_role line micros r ≡ first start
    → r ≡ Ok (layout.first start.len start.rx_dl start.bytes)
own_first line micros (Ok (layout.first len rx_dl bytes)) start is =
    let same : record { line = line; micros = micros; len = len; rx_dl = rx_dl; bytes = bytes } ≡ start = cc in
    ap (λ (s : FirstFrame). Ok (layout.first s.len s.rx_dl s.bytes)) same
own_first line micros (Ok (layout.single message)) start is = absurd (cc)
own_first line micros (Ok (layout.consecutive sequence_number can_dl bytes)) start is = absurd (cc)
own_first line micros (Ok (layout.flow_control status)) start is = absurd (cc)
own_first line micros (Err fault) start is = absurd (cc)

other_first : (r : Result Layout Reason) (start : FirstFrame) → other_role r ≡ first start → ⊥
other_first (Ok (layout.first len rx_dl bytes)) start is = cc
other_first (Ok (layout.single message)) start is = cc
other_first (Ok (layout.consecutive sequence_number can_dl bytes)) start is = cc
other_first (Ok (layout.flow_control Continue)) start is = cc
other_first (Ok (layout.flow_control Wait)) start is = cc
other_first (Ok (layout.flow_control Overflow)) start is = cc
other_first (Err fault) start is = cc

pub first_frame_is_read : FirstFrameIsRead
unfolding role
first_frame_is_read d e start is = elim (cases_Bool (same_channel d e.channel)) [
  | inl own ↦ (same d e.channel own, own_first e.line e.micros (layout_in e) start (rw own at is))
  | inr other ↦ absurd (other_first (layout_in e) start (rw other at is))
]
