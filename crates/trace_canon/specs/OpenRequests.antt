-- What is kept of the request that is open after the frames of a log, with its time, and what is told of a reply to it.
use Rattle.std.specs.Prelude.{ℕ, Bool, false, List, [], ◌∷◌, ◌++◌, Option, Some, None, option_and_then, option_map, if◌then◌else◌}
use Rattle.std.specs.List.{list_any}
use Rattle.isotp_receive.specs.Channels.{dir_of}
use Rattle.isotp_receive.specs.Trace.{Entry}
use Rattle.isotp_receive.specs.Verdict.{told_message, verdict}
use Rattle.asked_request.specs.Asked.{asked_of}
use Rattle.uds_echo.specs.Echo.{answers_other}
use Rattle.uds_exchange.specs.Meaning.{is_tester_request}
use Rattle.uds_exchange.specs.Order.{open_request}
use Rattle.uds_exchange.specs.declared.step.Step.{Step}
use Rattle.uds_exchange.specs.declared.step.Step.TheVariants as becomes
use Rattle.uds_rules.specs.Rule.{RuleValue}
use Rattle.uds_rules.specs.Under.{under}
use Rattle.trace_log.specs.Messages.{messages_under}

-- whether the frame e completes a request behind the frames T: rules leave one of its message
abbrev pub completes_request : ℕ → List RuleValue → List Entry → Entry → Bool
completes_request limit rules T e = list_any is_tester_request (under rules (told_message (dir_of e.channel) (verdict limit T e).verdict))

-- the time of the last of these frames that completes a request, where the frames `past` came before them; the time
-- `earlier` where none of them does
abbrev pub last_request_time : ℕ → List RuleValue → ℕ → List Entry → List Entry → ℕ
last_request_time limit rules earlier past [] = earlier
last_request_time limit rules earlier past (e ∷ rest) =
    last_request_time limit rules (if completes_request limit rules past e then e.micros else earlier) (past ++ e ∷ []) rest

-- What is kept of a request that is open, as rules left it, and the time of its last frame in microseconds.
pub record KeptRequest : Type 0 where
  pub bytes : List ℕ
  pub micros : ℕ

-- these bytes with this time
abbrev pub kept_at : List ℕ → ℕ → KeptRequest
kept_at bytes micros = record { bytes = bytes; micros = micros }

-- what is kept of this request, with this time
abbrev pub asked_at : List ℕ → ℕ → KeptRequest
asked_at request micros = kept_at (asked_of request) micros

-- What is kept of the request that is open after the frames T, if one is: of the last request, whose last frame is the last
-- one that completes a request.
abbrev pub asked_after : ℕ → List RuleValue → List Entry → Option KeptRequest
asked_after limit rules T =
    option_map (λ request. asked_at request (last_request_time limit rules 0 [] T)) (open_request (messages_under rules limit T))

-- What is told of a reply: the time of the last frame of its request, in microseconds, and whether it is an answer that
-- is other than was asked, by what is kept of the request.
pub record ReplyValue : Type 0 where
  pub asked : ℕ
  pub is_other : Bool

-- what is told of a message of this step as a reply to a request: the time of the request's last frame, and whether an
-- answer is other than was asked, by what is kept of it
abbrev pub reply_to : List RuleValue → Step → List ℕ → KeptRequest → Option ReplyValue
reply_to rules becomes.Answer bytes request = Some (record { asked = request.micros; is_other = answers_other rules request.bytes bytes })
reply_to rules becomes.Removed bytes request = Some (record { asked = request.micros; is_other = false })
reply_to rules (becomes.Request service) bytes request = None
reply_to rules becomes.Hold bytes request = None
reply_to rules becomes.Pass bytes request = None

-- what is told of it where this request is open, if one is
abbrev pub reply_behind : List RuleValue → Option KeptRequest → Step → List ℕ → Option ReplyValue
reply_behind rules asked step bytes = option_and_then (reply_to rules step bytes) asked
