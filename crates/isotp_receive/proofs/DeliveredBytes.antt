-- What holds of each message that a trace delivers: how long it is, and that it holds what the frames hold.
use Prim.Native.Nat.{zero, suc}
use Rattle.std.proofs.Common.{◌≡◌, ℕ, ◌+◌, ◌-◌, ◌*◌, ◌/◌, ◌%◌, ◌<◌, ◌≤◌, List, [], ◌∷◌, ◌++◌, length, get_or, refl, sym, subst, ap, ◌∙◌, arith, inl, inr, append_assoc, length-append}
use Rattle.std.specs.List.{AllByRecursion}
use Rattle.std.proofs.Math.Nat.{mod-lt}
use Rattle.std.proofs.lemmas.Nat.{div-add-mod'}
use Rattle.std.proofs.lemmas.Bool.{cases_lt}
use Rattle.std.proofs.lemmas.List.Elements.{All-from_get_or, recursion_from_All}
use Rattle.can_log.specs.Frame.{AreBytes}
use Rattle.direction.specs.Dir.{Message}
use Rattle.isotp_receive.specs.declared.channel.Channel.{Channel}
use Rattle.can_log.proofs.Promises.{AllByRecursion-append, AllByRecursion-front, AllByRecursion-back}
use Rattle.isotp_receive.specs.Trace.{Entry, At}
use Rattle.isotp_receive.specs.Places.{bytes_in_first}
use Rattle.isotp_receive.specs.Delivers.{Completes, Delivers, in_one_frame, in_frames}
use Rattle.isotp_receive.specs.Verdict.{VerdictValue, message, began, stored, flowed, dropped, verdict, told_message, messages_after}
use Rattle.isotp_receive.specs.MessageLaws.{MessagesAreFew, MessagesFit, HoldBytes, MessagesHoldBytes}
use Rattle.isotp_receive.proofs.Readings.{whole_from, first_from}
use Rattle.isotp_receive.proofs.DeliversLaws.{message-delivers}
use Rattle.isotp_receive.specs.Channels.{dir_of}
use Rattle.direction.specs.declared.Dir.{Dir}

-- ---- each message is delivered with a frame

module _ (limit : ℕ) (P : List ℕ → Type 0) (all : List Entry)
    (each : (past : List Entry) (e : Entry) (later : List Entry) (m : List ℕ) → all ≡ past ++ e ∷ later → Delivers limit (past ++ e ∷ []) (length past) e.channel m → P m) where
  Each : List Message → Type 0
  Each messages = AllByRecursion (λ (x : Message). P x.1) messages

  told_each : (past : List Entry) (e : Entry) (later : List Entry) (told : VerdictValue) → all ≡ past ++ e ∷ later → (verdict limit past e).verdict ≡ told
      → Each (told_message (dir_of e.channel) told)
  unfolding Each
  told_each past e later (message m) parts is = (each past e later m parts ((message-delivers limit past e m).0 is), tt)
  told_each past e later began parts is = tt
  told_each past e later stored parts is = tt
  told_each past e later flowed parts is = tt
  told_each past e later (dropped reason) parts is = tt

  pub each_message : (past T : List Entry) → all ≡ past ++ T → AllByRecursion (λ (x : Message). P x.1) (messages_after limit past T)
  unfolding Each
  each_message past [] parts = tt
  each_message past (e ∷ rest) parts =
      AllByRecursion-append (λ (x : Message). P x.1) (told_message (dir_of e.channel) (verdict limit past e).verdict) (messages_after limit (past ++ e ∷ []) rest)
      (told_each past e rest (verdict limit past e).verdict parts refl)
      (each_message (past ++ e ∷ []) rest (parts ∙ sym (append_assoc past (e ∷ []) rest)))

-- ---- how many, and how long

told_few : (d : Dir) (told : VerdictValue) → length (told_message d told) ≤ 1
told_few d (message bytes) = omega arith
told_few d began = omega arith
told_few d stored = omega arith
told_few d flowed = omega arith
told_few d (dropped reason) = omega arith

few_after : (limit : ℕ) (past T : List Entry) → length (messages_after limit past T) ≤ length T
few_after limit past [] = omega arith
few_after limit past (e ∷ rest) =
    let told = (verdict limit past e).verdict in
    omega (arith, told_few (dir_of e.channel) told, few_after limit (past ++ e ∷ []) rest, length-append (told_message (dir_of e.channel) told) (messages_after limit (past ++ e ∷ []) rest))

pub messages_are_few : MessagesAreFew
messages_are_few limit T = few_after limit [] T

abbrev Fits : ℕ → List ℕ → Type 0
Fits limit m = (1 ≤ length m) × (length m ≤ limit)

delivered_fits : (limit : ℕ) (T : List Entry) (position : ℕ) (d : Channel) (m : List ℕ) → 64 ≤ limit → Delivers limit T position d m → Fits limit m
delivered_fits limit T position d m least (in_one_frame one) =
    let whole = whole_from d one.entry m one.kind in
    (whole.some, omega (arith, whole.few))
delivered_fits limit T position d m least (in_frames c) =
    let first = first_from d c.fit.is_open.begins.entry c.fit.is_open.begins.start c.fit.is_open.begins.kind in
    (omega (arith, c.size, first.fewer), omega (arith, c.size, c.fit.is_open.fits))

pub messages_fit : MessagesFit
messages_fit limit T least =
    each_message limit (Fits limit) T (λ past e later m parts delivers. delivered_fits limit (past ++ e ∷ []) (length past) e.channel m least delivers) [] T refl

-- ---- what they hold

byte_at : (bytes : List ℕ) (place : ℕ) → AreBytes bytes → get_or bytes place 0 < 256
byte_at [] place small = omega arith
byte_at (b ∷ bytes) zero small = small.0
byte_at (b ∷ bytes) (suc place) small = byte_at bytes place small.1

frame_at : (T : List Entry) (position : ℕ) (e : Entry) → At T position e → HoldBytes T → AreBytes e.frame.bytes
frame_at [] position e stands hold = absurd (cc)
frame_at (x ∷ T) zero e stands hold = (let same : x ≡ e = cc in subst (λ (y : Entry). AreBytes y.frame.bytes) same hold.0)
frame_at (x ∷ T) (suc position) e stands hold = frame_at T position e stands hold.1

from_places : (m : List ℕ) → ((place : ℕ) → place < length m → get_or m place 0 < 256) → AreBytes m
from_places m each = recursion_from_All (λ b. b < 256) m (All-from_get_or (λ b. b < 256) m 0 each)

module _ (limit : ℕ) (T : List Entry) (position : ℕ) (d : Channel) (m : List ℕ) (hold : HoldBytes T) (c : Completes limit T position d m) where
  -- a byte after those of the first frame is in a consecutive one
  behind_first : (place before offset : ℕ) → place < length m → offset < c.fit.is_open.begins.start.rx_dl - 1
      → place ≡ bytes_in_first c.fit.is_open.begins.entry.frame.bytes + (before * (c.fit.is_open.begins.start.rx_dl - 1) + offset) → get_or m place 0 < 256
  behind_first place before offset inside less is =
      let there = c.places.in_consecutive before offset less (omega arith) in
      subst (λ n. n < 256) (sym (ap (λ j. get_or m j 0) is ∙ there.3))
      (byte_at there.1.frame.bytes (1 + offset) (frame_at T there.0 there.1 there.2.stands hold))

  byte_of_message : (place : ℕ) → place < length m → get_or m place 0 < 256
  byte_of_message place inside = elim (cases_lt place (bytes_in_first c.fit.is_open.begins.entry.frame.bytes)) [
    | inl below ↦
        (let bytes = c.fit.is_open.begins.entry.frame.bytes in
        subst (λ n. n < 256) (sym (c.places.in_first place inside below))
        (byte_at bytes (c.fit.is_open.begins.start.rx_dl - bytes_in_first bytes + place) (frame_at T c.fit.begun c.fit.is_open.begins.entry c.fit.is_open.begins.stands hold)))
    | inr behind ↦
        (let wide = (first_from d c.fit.is_open.begins.entry c.fit.is_open.begins.start c.fit.is_open.begins.kind).wide in
        let rest = place - bytes_in_first c.fit.is_open.begins.entry.frame.bytes in
        let parts = div-add-mod' rest (c.fit.is_open.begins.start.rx_dl - 1) in
        behind_first place (rest / (c.fit.is_open.begins.start.rx_dl - 1)) (rest % (c.fit.is_open.begins.start.rx_dl - 1)) inside (mod-lt rest (omega arith)) (omega arith))
  ]

delivered_bytes : (limit : ℕ) (T : List Entry) (position : ℕ) (d : Channel) (m : List ℕ) → HoldBytes T → Delivers limit T position d m → AreBytes m
delivered_bytes limit T position d m hold (in_one_frame one) =
    let lies = (whole_from d one.entry m one.kind).lies in
    let frame = subst AreBytes lies.2 (frame_at T position one.entry one.stands hold) in
    AllByRecursion-front (λ b. b < 256) m lies.1 (AllByRecursion-back (λ b. b < 256) lies.0 (m ++ lies.1) frame)
delivered_bytes limit T position d m hold (in_frames c) = from_places m (byte_of_message limit T position d m hold c)

pub messages_hold_bytes : MessagesHoldBytes
messages_hold_bytes limit T hold = each_message limit AreBytes T
    (λ past e later m parts delivers.
    let front = subst HoldBytes (parts ∙ sym (append_assoc past (e ∷ []) later)) hold in
    delivered_bytes limit (past ++ e ∷ []) (length past) e.channel m
    (AllByRecursion-front (λ (x : Entry). AreBytes x.frame.bytes) (past ++ e ∷ []) later front) delivers) [] T refl
