-- Devices of proof: what rules make of what a frame did, and what was judged and counted of a trace under rules.
use Rattle.std.specs.Prelude.{◌≡◌, ℕ, true, List, ⊤}
use Rattle.isotp_receive.specs.Trace.{Entry}
use Rattle.isotp_receive.specs.Verdict.{VerdictValue, message, began, stored, flowed, dropped, messages}
use Rattle.isotp_receive.specs.declared.TheConstants.{MESSAGE_LIMIT}
use Rattle.trace_log.specs.Messages.{messages_under}
use Rattle.uds_exchange.specs.Judging.{IsJudgeOf}
use Rattle.uds_exchange.specs.declared.judge.Judge.{Judge}
use Rattle.uds_rules.specs.Answers.{IsRuled}
use Rattle.uds_rules.specs.Rule.{RuleValue, is_masked, made_of}
use Rattle.uds_rules.specs.Under.{left_out}
use Rattle.uds_rules.specs.declared.rules.Ruled.{Ruled}

-- rules made this of the message that a frame completed, if it completed one; a masked copy lies in the room
abbrev pub IsRuledVerdict : List RuleValue → VerdictValue → Ruled → List ℕ → Type 0
IsRuledVerdict rules (message bytes) ruled room = IsRuled (made_of rules bytes) bytes ruled room
IsRuledVerdict rules began ruled room = ⊤
IsRuledVerdict rules stored ruled room = ⊤
IsRuledVerdict rules flowed ruled room = ⊤
IsRuledVerdict rules (dropped reason) ruled room = ⊤

-- the frame completed a message of which rules mask a copy
abbrev pub IsMaskedVerdict : List RuleValue → VerdictValue → Type 0
IsMaskedVerdict rules did = (bytes : List ℕ) × (did ≡ message bytes) × (is_masked rules bytes ≡ true)

-- The messages of the frames T are judged as rules leave them, and those that rules leave out are counted.
pub record HasJudged (rules : List RuleValue) (T : List Entry) (judge : Judge) (out : ℕ) : Type 0 where
  pub judged : IsJudgeOf (messages_under rules MESSAGE_LIMIT T) judge
  pub counted : out ≡ left_out rules (messages MESSAGE_LIMIT T)
