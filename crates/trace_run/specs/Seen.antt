-- What a machine is handed of a frame: what it did after the frames before it, and what becomes of its message under
-- rules.
use Rattle.std.specs.Prelude.{◌≡◌, ℕ, ◌^◌, ◌<◌, List, [], ◌∷◌, length, Option, Some, None}
use Rattle.direction.specs.Dir.{Message}
use Rattle.isotp_receive.specs.declared.TheConstants.{MESSAGE_LIMIT}
use Rattle.isotp_receive.specs.Channels.{dir_of}
use Rattle.isotp_receive.specs.declared.channel.Channel.{Channel}
use Rattle.isotp_receive.specs.declared.event.Event.{Event}
use Rattle.isotp_receive.specs.EventSeen.{seen_event}
use Rattle.isotp_receive.specs.Trace.{Entry}
use Rattle.isotp_receive.specs.Verdict.{told_message, verdict}
use Rattle.trace_log.specs.Messages.{messages_under}
use Rattle.uds_exchange.specs.Judging.{IsJudgedAfter, number_after, sent}
use Rattle.uds_exchange.specs.declared.judge.Judged.{Judged}
use Rattle.uds_rules.specs.Rule.{RuleValue}
use Rattle.uds_rules.specs.Under.{under}
use Rattle.trace_run.specs.declared.machine.Seen.{Seen}

-- This is what the frame e, of this line, time and channel, did after the frames T, of which there are fewer than
-- 2 ^ 62.
pub record IsEventOf (T : List Entry) (e : Entry) (at_line at_micros : ℕ) (on : Channel) (event : Event) : Type 0 where
  pub few : length T < 2 ^ 62
  pub line : e.line ≡ at_line
  pub micros : e.micros ≡ at_micros
  pub channel : e.channel ≡ on
  pub did : seen_event event ≡ verdict MESSAGE_LIMIT T e

-- Behind the messages M one message came, and is judged so; or none came, and none is judged.
abbrev pub IsJudgmentOf : List Message → List Message → Option Judged → Type 0
IsJudgmentOf M came None = came ≡ []
IsJudgmentOf M came (Some judged) =
    (came ≡ sent judged ∷ []) × IsJudgedAfter M judged × (judged.item_number ≡ number_after M (sent judged))

-- This is seen of the frame e after the frames T: what it did, which rules don't change, and what rules leave of the
-- message that it completed, if it completed one, as that is judged behind those before.
pub record IsSeen (rules : List RuleValue) (T : List Entry) (e : Entry) (seen : Seen) : Type 0 where
  pub event : IsEventOf T e seen.line seen.micros seen.channel seen.event
  pub message :
      IsJudgmentOf (messages_under rules MESSAGE_LIMIT T)
      (under rules (told_message (dir_of seen.channel) (seen_event seen.event).verdict))
      seen.message
