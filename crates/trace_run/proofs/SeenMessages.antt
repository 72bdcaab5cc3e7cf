-- The message of a frame that a machine is handed, by what the frame did and what rules leave of it.
use Rattle.std.proofs.Common.{◌≡◌, ◌<◌, ◌^◌, ℕ, List, [], ◌∷◌, ◌++◌, length, arith, Option, Some, None, refl, ap, sym, subst, ◌∙◌, append-nil}
use Rattle.direction.specs.Dir.{Message}
use Rattle.direction.specs.declared.Dir.{Dir}
use Rattle.isotp_receive.specs.declared.TheConstants.{MESSAGE_LIMIT}
use Rattle.isotp_receive.specs.Channels.{dir_of}
use Rattle.isotp_receive.specs.declared.channel.Channel.{Channel}
use Rattle.isotp_receive.specs.EventSeen.{seen_event}
use Rattle.isotp_receive.specs.Trace.{Entry}
use Rattle.isotp_receive.specs.Verdict.{EventValue, VerdictValue, message, began, stored, flowed, dropped, messages, told_message, verdict}
use Rattle.isotp_receive.proofs.Promises.{messages_are_few}
use Rattle.uds_exchange.specs.Judging.{number_after, sent, step_after}
use Rattle.uds_exchange.specs.declared.judge.Judged.{Judged}
use Rattle.uds_rules.specs.Rule.{RuleValue, made_of}
use Rattle.uds_rules.specs.Under.{left_out, sent_as, under}
use Rattle.uds_rules.proofs.Promises.{left_out_are_the_rest}
use Rattle.trace_log.specs.Messages.{messages_under}
use Rattle.trace_log.proofs.Promises.{messages_under_more}
use Rattle.trace_run.specs.Seen.{IsEventOf, IsJudgmentOf, IsSeen}
use Rattle.trace_run.specs.declared.machine.Seen.{Seen}

-- rules leave no more messages than there are frames
pub few_under : (rules : List RuleValue) (T : List Entry) → length T < 2 ^ 62
    → length (messages_under rules MESSAGE_LIMIT T) < 2 ^ 62
few_under rules T few =
    let of_trace = messages_are_few MESSAGE_LIMIT T in
    let all = left_out_are_the_rest rules (messages MESSAGE_LIMIT T) in
    omega arith

-- nor do they leave out more
pub few_left_out : (rules : List RuleValue) (T : List Entry) (out : ℕ) → length T < 2 ^ 62
    → out ≡ left_out rules (messages MESSAGE_LIMIT T) → out < 2 ^ 62
few_left_out rules T out few is =
    let of_trace = messages_are_few MESSAGE_LIMIT T in
    let all = left_out_are_the_rest rules (messages MESSAGE_LIMIT T) in
    omega arith

-- What a frame that did this told is this message: it is what rules made of the one that the frame completed.
record IsMadeOf (rules : List RuleValue) (d : Dir) (did : VerdictValue) (m : Message) : Type 0 where
  whole : List ℕ
  dir : d ≡ m.0
  completed : did ≡ message whole
  made : made_of rules whole ≡ Some m.1

made_as : (rules : List RuleValue) (d : Dir) (whole : List ℕ) (m : Message) (made : Option (List ℕ)) → made_of rules whole ≡ made
    → sent_as d made ++ [] ≡ m ∷ [] → IsMadeOf rules d (message whole) m
made_as rules d whole m None is one = absurd (cc one)
made_as rules d whole m (Some shown) is one =
    let same : (d, shown) ≡ m = cc one in
    record {
      whole = whole;
      dir = ap (λ (x : Message). x.0) same;
      completed = refl;
      made = is ∙ ap (λ (x : Message). Some x.1) same;
    }

-- a frame told no other message than rules made of the one that it completed
completed : (rules : List RuleValue) (d : Dir) (did : VerdictValue) (m : Message) → under rules (told_message d did) ≡ m ∷ []
    → IsMadeOf rules d did m
completed rules d (message whole) m is = made_as rules d whole m (made_of rules whole) refl is
completed rules d began m is = absurd (cc is)
completed rules d stored m is = absurd (cc is)
completed rules d flowed m is = absurd (cc is)
completed rules d (dropped reason) m is = absurd (cc is)

-- the message that a frame told, by its channel and what it did
pub told_by : (T : List Entry) (e : Entry) (channel : Channel) (event : EventValue) → e.channel ≡ channel → event ≡ verdict MESSAGE_LIMIT T e
    → told_message (dir_of e.channel) (verdict MESSAGE_LIMIT T e).verdict ≡ told_message (dir_of channel) event.verdict
told_by T e channel event on is =
    ap (λ c. told_message (dir_of c) (verdict MESSAGE_LIMIT T e).verdict) on
    ∙ ap (λ (x : EventValue). told_message (dir_of channel) x.verdict) (sym is)

module _ (rules : List RuleValue) (T : List Entry) (e : Entry) where
  -- the messages under rules of a trace with one more frame
  pub messages_next : (channel : Channel) (event : EventValue) → e.channel ≡ channel → event ≡ verdict MESSAGE_LIMIT T e
      → messages_under rules MESSAGE_LIMIT (T ++ e ∷ [])
      ≡ messages_under rules MESSAGE_LIMIT T ++ under rules (told_message (dir_of channel) event.verdict)
  messages_next channel event on is =
      messages_under_more rules MESSAGE_LIMIT T e
      ∙ ap (λ told. messages_under rules MESSAGE_LIMIT T ++ under rules told) (told_by T e channel event on is)

  -- The frame e completed a message, of which rules made this one, behind those of the frames T; and this becomes of
  -- it.
  pub record CompletesJudged (judged : Judged) : Type 0 where
    pub next : messages_under rules MESSAGE_LIMIT (T ++ e ∷ []) ≡ messages_under rules MESSAGE_LIMIT T ++ sent judged ∷ []
    pub dir : dir_of e.channel ≡ judged.dir
    pub whole : List ℕ
    pub did : (verdict MESSAGE_LIMIT T e).verdict ≡ message whole
    pub made : made_of rules whole ≡ Some judged.bytes.now
    pub step : judged.step ≡ step_after (messages_under rules MESSAGE_LIMIT T) (sent judged)
    pub item : judged.item_number ≡ number_after (messages_under rules MESSAGE_LIMIT T) (sent judged)

  module _ (seen : Seen) where
    -- those of a frame that is seen
    next : (told : List Message) → IsEventOf T e seen.line seen.micros seen.channel seen.event
        → under rules (told_message (dir_of seen.channel) (seen_event seen.event).verdict) ≡ told
        → messages_under rules MESSAGE_LIMIT (T ++ e ∷ []) ≡ messages_under rules MESSAGE_LIMIT T ++ told
    next told event is =
        messages_next seen.channel (seen_event seen.event) event.channel event.did
        ∙ ap (λ more. messages_under rules MESSAGE_LIMIT T ++ more) is

    -- a frame of whose message rules leave this
    pub completes_judged : (judged : Judged) → IsSeen rules T e seen → seen.message ≡ Some judged → CompletesJudged judged
    completes_judged judged is some =
        let M = messages_under rules MESSAGE_LIMIT T in
        let event = is.event in
        let by = subst (IsJudgmentOf M (under rules (told_message (dir_of seen.channel) (seen_event seen.event).verdict))) some is.message in
        let told = completed rules (dir_of seen.channel) (seen_event seen.event).verdict (sent judged) by.0 in
        record {
          next = next (sent judged ∷ []) event by.0;
          dir = ap dir_of event.channel ∙ told.dir;
          whole = told.whole;
          did = ap (λ (x : EventValue). x.verdict) (sym event.did) ∙ told.completed;
          made = told.made;
          step = by.1;
          item = by.2;
        }

    -- of a frame of which rules leave no message none is told under rules
    pub tells_no_message : IsSeen rules T e seen → seen.message ≡ None
        → under rules (told_message (dir_of e.channel) (verdict MESSAGE_LIMIT T e).verdict) ≡ []
    tells_no_message is none =
        ap (under rules) (told_by T e seen.channel (seen_event seen.event) is.event.channel is.event.did)
        ∙ subst (IsJudgmentOf (messages_under rules MESSAGE_LIMIT T)
        (under rules (told_message (dir_of seen.channel) (seen_event seen.event).verdict))) none is.message

    -- such a frame leaves the messages as they were
    pub completes_none : IsSeen rules T e seen → seen.message ≡ None
        → messages_under rules MESSAGE_LIMIT (T ++ e ∷ []) ≡ messages_under rules MESSAGE_LIMIT T
    completes_none is none =
        let M = messages_under rules MESSAGE_LIMIT T in
        next [] is.event
        (subst (IsJudgmentOf M (under rules (told_message (dir_of seen.channel) (seen_event seen.event).verdict))) none is.message)
        ∙ append-nil M

    -- what is judged of a frame under rules is seen under them
    pub seen_under : (shown : List Message) → IsEventOf T e seen.line seen.micros seen.channel seen.event
        → shown ≡ under rules (told_message (dir_of seen.channel) (seen_event seen.event).verdict)
        → IsJudgmentOf (messages_under rules MESSAGE_LIMIT T) shown seen.message → IsSeen rules T e seen
    seen_under shown event is judgment = record {
      event = event;
      message = subst (λ told. IsJudgmentOf (messages_under rules MESSAGE_LIMIT T) told seen.message) is judgment;
    }
