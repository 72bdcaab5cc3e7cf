-- The first frame of a message is the one with which its reception began.
use Prim.Native.Nat.{zero, suc}
use Rattle.std.proofs.Common.{◌≡◌, ℕ, ◌<◌, true, false, List, [], ◌∷◌, ◌++◌, length, arith, refl, sym, ◌∙◌, ap}
use Rattle.std.specs.Prelude.{if◌then◌else◌}
use Rattle.isotp_receive.specs.declared.channel.Channel.{Channel}
use Rattle.isotp_receive.specs.Trace.{Entry, At, FirstFrame, FrameRole, single, first, consecutive, continue_or_wait, overflow, no_part, role}
use Rattle.isotp_receive.specs.Places.{bytes_in_first, between, consecutive_frames_in}
use Rattle.isotp_receive.specs.OnTime.{IsOnTime}
use Rattle.isotp_receive.specs.OpenReception.{LeavesOpen}
use Rattle.isotp_receive.proofs.Promises.{get-here, get-left}
use Rattle.trace_canon.specs.FirstFrames.{starts_message, last_start}
use Rattle.trace_canon.specs.Laws.{BeginsWithItsReception, BeginsWithItsFrame}
use Rattle.trace_canon.proofs.NextStarts.{last_start_more}

-- where no frame starts a message, the last start is the one before
none_starts : (d : Channel) (x : Entry) (T : List Entry)
    → ((position : ℕ) (g : Entry) → At T position g → starts_message (role d g) ≡ false) → last_start d x T ≡ x
none_starts d x [] none = refl
none_starts d x (g ∷ rest) none =
    ap (λ b. last_start d (if b then g else x) rest) (none zero g refl) ∙ none_starts d x rest (λ position h there. none (suc position) h there)

-- the last start is the one that no other follows
last_at : (d : Channel) (x : Entry) (T : List Entry) (begun : ℕ) (f : Entry) → At T begun f → starts_message (role d f) ≡ true
    → ((position : ℕ) (g : Entry) → begun < position → At T position g → starts_message (role d g) ≡ false) → last_start d x T ≡ f
last_at d x [] begun f there is none = absurd (cc)
last_at d x (g ∷ rest) zero f there is none =
    let same : g ≡ f = cc in
    ap (λ b. last_start d (if b then g else x) rest) (ap (λ (y : Entry). starts_message (role d y)) same ∙ is)
    ∙ none_starts d g rest (λ position h at. none (suc position) h (omega arith) at) ∙ same
last_at d x (g ∷ rest) (suc begun) f there is none =
    last_at d (if starts_message (role d g) then g else x) rest begun f there is (λ position h later at. none (suc position) h (omega arith) at)

-- what leaves a reception open starts no message
open_by : (start : FirstFrame) (in_first count before : ℕ) (OnTime : Type 0) (r : FrameRole)
    → LeavesOpen start in_first count before OnTime r → starts_message r ≡ false
open_by start in_first count before OnTime (single whole) leaves = absurd leaves
open_by start in_first count before OnTime (first other) leaves = absurd leaves
open_by start in_first count before OnTime (consecutive sequence_number can_dl bytes) leaves = refl
open_by start in_first count before OnTime continue_or_wait leaves = refl
open_by start in_first count before OnTime overflow leaves = refl
open_by start in_first count before OnTime no_part leaves = refl

-- the entry behind all others
here : (T : List Entry) (e g : Entry) → At (T ++ e ∷ []) (length T) g → g ≡ e
here T e g stands = (let there = get-here T [] e in cc)

-- a position that has a frame is within the trace
within : (T : List Entry) (position : ℕ) (g : Entry) → At T position g → position < length T
within [] position g there = absurd (cc)
within (x ∷ T) zero g there = omega arith
within (x ∷ T) (suc position) g there = (let below = within T position g there in omega arith)

pub begins_with_its_reception : BeginsWithItsReception
begins_with_its_reception limit T e bytes message =
    let o = message.fit.is_open in
    let next = message.fit.next in
    let goes_on : starts_message (role e.channel e) ≡ false =
    ap (λ (y : Entry). starts_message (role e.channel y)) (sym (here T e next.entry next.stands)) ∙ ap starts_message next.kind in
    last_start_more e.channel e T e ∙ ap (λ b. if b then e else last_start e.channel e T) goes_on
    ∙ last_at e.channel e T message.fit.begun o.begins.entry
    (sym (get-left T (e ∷ []) message.fit.begun o.later) ∙ o.begins.stands) (ap starts_message o.begins.kind)
    (λ position g later at. open_by o.begins.start (bytes_in_first o.begins.entry.frame.bytes) o.count
    (consecutive_frames_in e.channel (between (T ++ e ∷ []) message.fit.begun position))
    (IsOnTime (T ++ e ∷ []) e.channel message.fit.begun position g) (role e.channel g)
    (o.each position g later (within T position g at) (get-left T (e ∷ []) position (within T position g at) ∙ at)))

pub begins_with_its_frame : BeginsWithItsFrame
begins_with_its_frame T e bytes one =
    let starting : starts_message (role e.channel e) ≡ true =
    ap (λ (y : Entry). starts_message (role e.channel y)) (sym (here T e one.entry one.stands)) ∙ ap starts_message one.kind in
    last_start_more e.channel e T e ∙ ap (λ b. if b then e else last_start e.channel e T) starting
