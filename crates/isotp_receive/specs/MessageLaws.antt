-- What the public laws of the messages of a trace, and of what its frames do, say.
use Rattle.std.specs.Prelude.{◌≡◌, ◌≤◌, ◌↔◌, ℕ, List, ◌++◌, length, None, Ok}
use Rattle.std.specs.List.{AllByRecursion}
use Rattle.direction.specs.Dir.{Message}
use Rattle.can_log.specs.Frame.{AreBytes}
use Rattle.isotp_receive.specs.declared.channel.Channel.{Channel}
use Rattle.isotp_pdu.specs.Layout as layout
use Rattle.isotp_receive.specs.Trace.{Entry, FirstFrame, first, role, layout_in}
use Rattle.isotp_receive.specs.Verdict.{messages, messages_after, verdict}
use Rattle.isotp_receive.specs.CleanTrace.{IsClean, IsKept}
use Rattle.isotp_receive.specs.Events.{events_after, events, dropped_in, ended_in, unfinished_in, oversize_in, too_long_in}

-- a trace that goes on delivers the messages of its first frames, and then those of the others
abbrev pub MessagesGoOn : Type 0
MessagesGoOn = (limit : ℕ) (T more : List Entry) → messages limit (T ++ more) ≡ messages limit T ++ messages_after limit T more

-- a trace delivers no more messages than it has frames
abbrev pub MessagesAreFew : Type 0
MessagesAreFew = (limit : ℕ) (T : List Entry) → length (messages limit T) ≤ length T

-- each message of a trace has at least one byte and at most the limit, which no single frame exceeds
abbrev pub MessagesFit : Type 0
MessagesFit = (limit : ℕ) (T : List Entry) → 64 ≤ limit
    → AllByRecursion (λ (message : Message). (1 ≤ length message.1) × (length message.1 ≤ limit)) (messages limit T)

-- the frames of a trace hold bytes
abbrev pub HoldBytes : List Entry → Type 0
HoldBytes T = AllByRecursion (λ (e : Entry). AreBytes e.frame.bytes) T

-- where they do, so do its messages
abbrev pub MessagesHoldBytes : Type 0
MessagesHoldBytes = (limit : ℕ) (T : List Entry) → HoldBytes T → AllByRecursion (λ (message : Message). AreBytes message.1) (messages limit T)

-- the frames of a trace that goes on do what the first frames do, and then what the others do
abbrev pub EventsGoOn : Type 0
EventsGoOn = (limit : ℕ) (T more : List Entry) → events limit (T ++ more) ≡ events limit T ++ events_after limit T more

-- each frame does one thing
abbrev pub EventsAreAsMany : Type 0
EventsAreAsMany = (limit : ℕ) (T : List Entry) → length (events limit T) ≡ length T

-- what is a first frame to the reception of a channel was sent on that channel, and has this layout
abbrev pub FirstFrameIsRead : Type 0
FirstFrameIsRead = (d : Channel) (e : Entry) (start : FirstFrame) → role d e ≡ first start
    → (d ≡ e.channel) × (layout_in e ≡ Ok (layout.first start.len start.rx_dl start.bytes))

-- a frame is dropped as too long exactly where it announces a length above the limit, and with that length
abbrev pub TooLongIsAnnounced : Type 0
TooLongIsAnnounced = (limit : ℕ) (T : List Entry) (e : Entry) → too_long_in (verdict limit T e).verdict ≡ oversize_in limit (layout_in e)

-- so a frame that is not dropped announces none
abbrev pub KeptIsWithin : Type 0
KeptIsWithin = (limit : ℕ) (T : List Entry) (e : Entry) → IsKept (verdict limit T e).verdict → oversize_in limit (layout_in e) ≡ None

-- a trace is clean exactly where nothing of it is counted as dropped, ended or unfinished
abbrev pub CleanIsCounted : Type 0
CleanIsCounted = (limit : ℕ) (T : List Entry)
    → IsClean limit T ↔ ((dropped_in limit T ≡ 0) × (ended_in limit T ≡ 0) × (unfinished_in limit T ≡ 0))
