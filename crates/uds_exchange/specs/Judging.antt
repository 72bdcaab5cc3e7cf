-- What is judged of one more message by those before it alone: what becomes of it, and the number of its item; and what
-- a judge keeps.
use Rattle.std.specs.Prelude.{◌≡◌, ℕ, ◌+◌, ◌-◌, ◌^◌, List, length, Option, option_map, min}
use Rattle.direction.specs.Dir.{Message}
use Rattle.uds_message.specs.Message.{sid}
use Rattle.uds_exchange.specs.Meaning.{meaning, removed_messages}
use Rattle.uds_exchange.specs.Order.{open_request, held}
use Rattle.uds_exchange.specs.Exchanged.{sides_of}
use Rattle.uds_exchange.specs.OneMessage.{step_of}
use Rattle.uds_exchange.specs.declared.judge.Judge.{Judge}
use Rattle.uds_exchange.specs.declared.judge.Judged.{Judged}
use Rattle.uds_exchange.specs.declared.step.Step.{Step}
use Rattle.uds_exchange.specs.declared.step.Step.TheVariants as step

-- what becomes of a message after these messages
abbrev pub step_after : List Message → Message → Step
step_after M message = step_of (option_map sid (open_request M)) message

-- the number of the next item after these messages: items are counted from 1
abbrev pub next_number : List Message → ℕ
next_number M = length (meaning M) + 1

-- the number of the exchange whose request is open: only the strays that are held come after it
abbrev pub open_number : List Message → ℕ
open_number M = length (meaning M) - length (held M)

-- the number of the item of a message of which this becomes: a request or a stray is the next item, and an answer or a
-- pending reply belongs to the open exchange
abbrev pub number_by : Step → List Message → ℕ
number_by (step.Request service) M = next_number M
number_by step.Answer M = open_number M
number_by step.Removed M = open_number M
number_by step.Hold M = next_number M
number_by step.Pass M = next_number M

-- the number of the item of one more message
abbrev pub number_after : List Message → Message → ℕ
number_after M message = number_by (step_after M message) M

-- This is the first byte of the request that is open after the messages M, if one is.
abbrev pub IsOpenSid : List Message → Option ℕ → Type 0
IsOpenSid M open_sid = open_sid ≡ option_map sid (open_request M)

-- A judge has counted these messages: it keeps which request is open, how many items there are, how many strays are
-- held, and how many messages are removed.
pub record HasCounted (M : List Message) (judge : Judge) : Type 0 where
  pub is_open : IsOpenSid M judge.open_sid
  pub items : judge.items ≡ length (meaning M)
  pub held_count : judge.held_count ≡ length (held M)
  pub removed : judge.removed ≡ length (removed_messages M)

-- A judge is that of these messages: it has counted them, and has what tells whether tester and unit look swapped.
pub record IsJudgeOf (M : List Message) (judge : Judge) : Type 0 where
  pub counted : HasCounted M judge
  pub sides : judge.sides ≡ sides_of M

-- a message that was judged, without where it lies in memory
abbrev pub sent : Judged → Message
sent judged = (judged.dir, judged.bytes.now)

-- A message was judged after the messages M: its step is what becomes of it there.
abbrev pub IsJudgedAfter : List Message → Judged → Type 0
IsJudgedAfter M judged = judged.step ≡ step_after M (sent judged)

-- one more of a count, which stays at the largest number of 64 bits
abbrev pub one_more : ℕ → ℕ
one_more n = min (n + 1) (2 ^ 64 - 1)
