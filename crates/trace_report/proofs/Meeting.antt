-- What is known of the messages so far, with one message more.
use Rattle.std.proofs.Common.{◌≡◌, ℕ, Bool, true, false, List, [], ◌∷◌, ◌++◌, Option, Some, None, IfSome}
use Rattle.std.proofs.Common.{refl, ap, sym, subst, ◌∙◌, inl, inr, option_map, append-nil, append_assoc}
use Rattle.std.specs.Prelude.{if◌then◌else◌, ◌&&◌, not}
use Rattle.std.proofs.lemmas.Bool.{cases_Bool}
use Rattle.direction.specs.Dir.{Message}
use Rattle.direction.specs.declared.Dir.{Dir}
use Rattle.direction.specs.declared.Dir.TheVariants as dir
use Rattle.isotp_receive.specs.Channels.{dir_of, is_functional}
use Rattle.isotp_receive.specs.declared.channel.Channel.{Channel}
use Rattle.isotp_receive.specs.declared.channel.Channel.TheVariants as on
use Rattle.isotp_receive.specs.declared.TheConstants.{MESSAGE_LIMIT}
use Rattle.isotp_receive.specs.StandingReception.{stands}
use Rattle.isotp_receive.specs.Trace.{Entry, role}
use Rattle.isotp_receive.specs.Verdict.{EventValue, VerdictValue, message, began, stored, flowed, dropped, told_message, verdict}
use Rattle.isotp_receive.specs.EventSeen.{seen_event}
use Rattle.uds_rules.specs.Rule.{RuleValue, made_of}
use Rattle.uds_rules.specs.Under.{sent_as, under}
use Rattle.trace_log.specs.Messages.{messages_under}
use Rattle.trace_run.specs.Seen.{IsSeen}
use Rattle.trace_run.specs.declared.machine.Seen.{Seen}
use Rattle.trace_report.specs.Rows as row
use Rattle.uds_exchange.specs.Laws.{open_with}
use Rattle.uds_exchange.specs.Meaning.{is_answer_to, is_pending_reply_to, is_tester_request}
use Rattle.uds_exchange.specs.Judging.{number_after, sent, step_after}
use Rattle.uds_exchange.specs.declared.judge.Judged.{Judged}
use Rattle.uds_exchange.specs.declared.step.Step.{Step}
use Rattle.uds_exchange.specs.declared.step.Step.TheVariants as becomes
use Rattle.uds_exchange.specs.OneMessage.{step_if_open, step_of}
use Rattle.uds_exchange.specs.Order.{open_request}
use Rattle.uds_exchange.proofs.Promises.{open_request_goes_on}
use Rattle.uds_message.specs.Message.{sid, is_final_for, is_pending_for, is_request, is_suppressing}
use Rattle.uds_exchange.specs.Meaning.{is_from_tester}
use Rattle.trace_canon.specs.FirstFrames.{first_frame, place_of}
use Rattle.trace_canon.specs.declared.reception_starts.FramePlace.{FramePlace}
use Rattle.trace_run.proofs.Promises.{CompletesJudged, completes_none, tells_no_message}
use Rattle.trace_report.specs.Events.{asked_all_in, asked_in, closing_before, completes_such, completes_such_by}
use Rattle.trace_report.specs.Events.{ended_rows, event_rows, frame_rows, frames_by, is_exchange_step, is_such_left, is_request_step}
use Rattle.trace_report.specs.Events.{ends_nothing, left_rows, verdict_rows}
use Rattle.trace_report.specs.Roles.{role_of_step}
use Rattle.trace_report.specs.Rows.{RowValue}
use Rattle.trace_report.specs.Rows.{message as tells_message}
use Rattle.trace_report.specs.declared.follower.Follower.{Follower}
use Rattle.trace_report.specs.declared.extents.MessageExtent.{MessageExtent}
use Rattle.trace_report.specs.Silences.{silence_behind_pending, silence_of, silence_of_asked}
use Rattle.trace_report.specs.declared.row.Silence.{Silence}
use Rattle.trace_report.specs.proving.Following.{IsSilence, KnowsMessages, OnlyTesterAsksAll, dropped_by, dropped_rows}
use Rattle.trace_report.proofs.Steps.{asked_all_next, asked_next}

-- a message that is no request begins no exchange
none_asks : (waiting : Option ℕ) (sent : Message) → is_request_step (step_if_open waiting sent) ≡ false
none_asks None sent = refl
none_asks (Some service) sent =
    elim (cases_Bool (not (is_from_tester sent.0) && is_final_for service sent.1)) [
      | inl e ↦ rw e refl
      | inr e ↦ elim (cases_Bool (not (is_from_tester sent.0) && is_pending_for service sent.1)) [ inl q ↦ rw (e, q) refl | inr q ↦ rw (e, q) refl ]
    ]

-- an exchange begins with each request of the tester, and with nothing else
asks : (waiting : Option ℕ) (sent : Message) → is_request_step (step_of waiting sent) ≡ is_tester_request sent
asks waiting sent = elim (cases_Bool (is_tester_request sent)) [ inl e ↦ rw e refl | inr e ↦ rw e (none_asks waiting sent) ]

-- what is kept of the last request is right with one more that asks
pub silence_asked : (M : List Message) (sent : Message) (to_all : Bool) (silence : Silence) → is_request_step (step_after M sent) ≡ true
    → silence ≡ silence_of to_all sent.1 → IsSilence (M ++ sent ∷ []) to_all silence
silence_asked M sent to_all silence is same =
    subst (λ (o : Option (List ℕ)). IfSome o (λ (request : List ℕ). silence ≡ silence_of to_all request)) (sym (open_request_goes_on M sent))
    (by (open_request M))
  where
    asked : is_tester_request sent ≡ true
    asked = sym (asks (option_map sid (open_request M)) sent) ∙ is

    by : (o : Option (List ℕ)) → IfSome (open_with o sent) (λ (request : List ℕ). silence ≡ silence_of to_all request)
    by None = rw asked same
    by (Some request) = rw asked same

-- and with one that does not
pub silence_still : (M : List Message) (sent : Message) (to_all : Bool) (silence : Silence) → is_request_step (step_after M sent) ≡ false
    → IsSilence M to_all silence → IsSilence (M ++ sent ∷ []) to_all silence
silence_still M sent to_all silence is same =
    subst (λ (o : Option (List ℕ)). IfSome o (λ (request : List ℕ). silence ≡ silence_of to_all request)) (sym (open_request_goes_on M sent))
    (by (open_request M) same)
  where
    apart : is_tester_request sent ≡ false
    apart = sym (asks (option_map sid (open_request M)) sent) ∙ is

    by : (o : Option (List ℕ)) → IfSome o (λ (request : List ℕ). silence ≡ silence_of to_all request)
        → IfSome (open_with o sent) (λ (request : List ℕ). silence ≡ silence_of to_all request)
    by None same = rw apart tt
    by (Some request) same =
        elim (cases_Bool (is_answer_to request sent)) [ inl e ↦ rw (apart, e) tt | inr e ↦ rw (apart, e) same ]

-- behind an answer none waits
pub silence_answered : (M : List Message) (sent : Message) (to_all : Bool) (silence : Silence) → step_after M sent ≡ becomes.Answer
    → IsSilence (M ++ sent ∷ []) to_all silence
silence_answered M sent to_all silence is =
    subst (λ (o : Option (List ℕ)). IfSome o (λ (request : List ℕ). silence ≡ silence_of to_all request)) (sym (open_request_goes_on M sent))
    (by (open_request M) is)
  where
    by : (o : Option (List ℕ)) → step_of (option_map sid o) sent ≡ becomes.Answer
        → IfSome (open_with o sent) (λ (request : List ℕ). silence ≡ silence_of to_all request)
    by None is = absurd (elim (cases_Bool (is_tester_request sent)) [ inl asks ↦ cc | inr asks ↦ cc ])
    by (Some request) is =
        elim (cases_Bool (is_tester_request sent)) [
          | inl asks ↦ absurd cc
          | inr apart ↦ elim (cases_Bool (is_answer_to request sent)) [
            | inl e ↦ rw (apart, e) tt
            | inr e ↦ absurd (elim (cases_Bool (is_pending_reply_to request sent)) [ inl q ↦ cc | inr q ↦ cc ])
          ]
        ]

-- behind a pending reply a final answer is due, unless the request asked for none
pending_is_due : (to_all : Bool) (request : List ℕ) → silence_behind_pending (silence_of to_all request) ≡ silence_of false request
pending_is_due to_all request =
    elim (cases_Bool (is_suppressing request)) [ inl e ↦ rw e refl | inr e ↦ rw e (by to_all) ]
  where
    by : (to_all : Bool) → silence_behind_pending (silence_of_asked to_all) ≡ silence_of_asked false
    by true = refl
    by false = refl

pub silence_pending : (M : List Message) (sent : Message) (to_all : Bool) (silence : Silence) → is_request_step (step_after M sent) ≡ false
    → IsSilence M to_all silence → IsSilence (M ++ sent ∷ []) false (silence_behind_pending silence)
silence_pending M sent to_all silence is same =
    silence_still M sent false (silence_behind_pending silence) is (by (open_request M) same)
  where
    by : (o : Option (List ℕ)) → IfSome o (λ (request : List ℕ). silence ≡ silence_of to_all request)
        → IfSome o (λ (request : List ℕ). silence_behind_pending silence ≡ silence_of false request)
    by None same = tt
    by (Some request) same = ap silence_behind_pending same ∙ pending_is_due to_all request

-- the unit sent it
sent_by_unit : (waiting : Option ℕ) (d : Dir) (bytes : List ℕ) → step_of waiting (d, bytes) ≡ becomes.Removed → d ≡ dir.Unit
sent_by_unit waiting dir.Unit bytes is = refl
sent_by_unit None dir.Tester bytes is = absurd (elim (cases_Bool (is_request bytes)) [ inl asks ↦ cc | inr asks ↦ cc ])
sent_by_unit (Some service) dir.Tester bytes is = absurd (elim (cases_Bool (is_request bytes)) [ inl asks ↦ cc | inr asks ↦ cc ])

pub pending_by_unit : (M : List Message) (sent : Message) → step_after M sent ≡ becomes.Removed → sent.0 ≡ dir.Unit
pending_by_unit M sent is = sent_by_unit (option_map sid (open_request M)) sent.0 sent.1 is

-- to the tester alone
pub unit_asks_none : (channel : Channel) → OnlyTesterAsksAll (dir_of channel) (is_functional channel)
unit_asks_none on.Tester = λ is. refl
unit_asks_none on.Unit = λ is. refl
unit_asks_none on.Functional = λ is. absurd (cc is)

module _ (rules : List RuleValue) (T : List Entry) (e : Entry) where
  -- a frame completes such a message as rules left of its own
  completes_it : (such : Step → Bool) (judged : Judged) → CompletesJudged rules T e judged
      → completes_such such MESSAGE_LIMIT rules T e ≡ such (step_after (messages_under rules MESSAGE_LIMIT T) (sent judged))
  completes_it such judged completes =
      ap (completes_such_by such MESSAGE_LIMIT rules T e) completes.did
      ∙ ap (is_such_left such MESSAGE_LIMIT rules T e) completes.made
      ∙ ap (λ (side : Dir). such (step_after (messages_under rules MESSAGE_LIMIT T) (side, judged.bytes.now))) completes.dir

  -- a frame of whose message rules left one: what is known with that is known of the trace
  pub met_next : (judged : Judged) (here was : ℕ) (to_all : Bool) (follower : Follower) → CompletesJudged rules T e judged
      → here ≡ e.micros → to_all ≡ is_functional e.channel → was ≡ asked_in MESSAGE_LIMIT rules T
      → KnowsMessages (messages_under rules MESSAGE_LIMIT T ++ sent judged ∷ [])
      (if is_request_step (step_after (messages_under rules MESSAGE_LIMIT T) (sent judged)) then here else was)
      (if is_exchange_step (step_after (messages_under rules MESSAGE_LIMIT T) (sent judged)) then to_all else asked_all_in MESSAGE_LIMIT rules T) follower
      → KnowsMessages (messages_under rules MESSAGE_LIMIT (T ++ e ∷ [])) (asked_in MESSAGE_LIMIT rules (T ++ e ∷ []))
      (asked_all_in MESSAGE_LIMIT rules (T ++ e ∷ [])) follower
  met_next judged here was to_all follower completes here_is to_all_is was_is known =
      let M = messages_under rules MESSAGE_LIMIT T in
      let asked_then : asked_in MESSAGE_LIMIT rules (T ++ e ∷ []) ≡ (if is_request_step (step_after M (sent judged)) then here else was) =
      asked_next MESSAGE_LIMIT rules T e ∙ (λ i. if completes_it is_request_step judged completes i then sym here_is i else sym was_is i) in
      let all_then : asked_all_in MESSAGE_LIMIT rules (T ++ e ∷ [])
      ≡ (if is_exchange_step (step_after M (sent judged)) then to_all else asked_all_in MESSAGE_LIMIT rules T) =
      asked_all_next MESSAGE_LIMIT rules T e
      ∙ (λ i. if completes_it is_exchange_step judged completes i then sym to_all_is i else asked_all_in MESSAGE_LIMIT rules T) in
      subst (λ (l : List Message). KnowsMessages l (asked_in MESSAGE_LIMIT rules (T ++ e ∷ [])) (asked_all_in MESSAGE_LIMIT rules (T ++ e ∷ [])) follower)
      (sym completes.next)
      (subst (λ n. KnowsMessages (M ++ sent judged ∷ []) n (asked_all_in MESSAGE_LIMIT rules (T ++ e ∷ [])) follower) (sym asked_then)
      (subst (λ b. KnowsMessages (M ++ sent judged ∷ []) (if is_request_step (step_after M (sent judged)) then here else was) b follower) (sym all_then) known))

  -- a frame of which rules leave no message completes none
  none_such : (such : Step → Bool) (d : Dir) (made : Option (List ℕ)) → sent_as d made ++ [] ≡ [] → is_such_left such MESSAGE_LIMIT rules T e made ≡ false
  none_such such d None none = refl
  none_such such d (Some bytes) none = cc none

  completes_no_such : (such : Step → Bool) (d : Dir) (did : VerdictValue) → under rules (told_message d did) ≡ []
      → completes_such_by such MESSAGE_LIMIT rules T e did ≡ false
  completes_no_such such d (message bytes) none = none_such such d (made_of rules bytes) none
  completes_no_such such d began none = refl
  completes_no_such such d stored none = refl
  completes_no_such such d flowed none = refl
  completes_no_such such d (dropped reason) none = refl

  module _ (seen : Seen) (is : IsSeen rules T e seen) (none : seen.message ≡ None) where
    -- so what is known stays so
    pub met_none : (follower : Follower)
        → KnowsMessages (messages_under rules MESSAGE_LIMIT T) (asked_in MESSAGE_LIMIT rules T) (asked_all_in MESSAGE_LIMIT rules T) follower
        → KnowsMessages (messages_under rules MESSAGE_LIMIT (T ++ e ∷ [])) (asked_in MESSAGE_LIMIT rules (T ++ e ∷ []))
        (asked_all_in MESSAGE_LIMIT rules (T ++ e ∷ [])) follower
    met_none follower known =
        let M = messages_under rules MESSAGE_LIMIT T in
        let none_then : (such : Step → Bool) → completes_such such MESSAGE_LIMIT rules T e ≡ false =
        λ such. completes_no_such such (dir_of e.channel) (verdict MESSAGE_LIMIT T e).verdict (tells_no_message rules T e seen is none) in
        let asked_then : asked_in MESSAGE_LIMIT rules (T ++ e ∷ []) ≡ asked_in MESSAGE_LIMIT rules T =
        asked_next MESSAGE_LIMIT rules T e ∙ ap (λ (b : Bool). if b then e.micros else asked_in MESSAGE_LIMIT rules T) (none_then is_request_step) in
        let all_then : asked_all_in MESSAGE_LIMIT rules (T ++ e ∷ []) ≡ asked_all_in MESSAGE_LIMIT rules T =
        asked_all_next MESSAGE_LIMIT rules T e ∙ ap (λ (b : Bool). if b then is_functional e.channel else asked_all_in MESSAGE_LIMIT rules T) (none_then is_exchange_step) in
        subst (λ (l : List Message). KnowsMessages l (asked_in MESSAGE_LIMIT rules (T ++ e ∷ [])) (asked_all_in MESSAGE_LIMIT rules (T ++ e ∷ [])) follower)
        (sym (completes_none rules T e seen is none))
        (subst (λ n. KnowsMessages M n (asked_all_in MESSAGE_LIMIT rules (T ++ e ∷ [])) follower) (sym asked_then)
        (subst (λ b. KnowsMessages M (asked_in MESSAGE_LIMIT rules T) b follower) (sym all_then) known))

  -- and has no row but that of its drop
  none_left : (d : Dir) (made : Option (List ℕ)) → sent_as d made ++ [] ≡ [] → [] ≡ left_rows MESSAGE_LIMIT rules T e made
  none_left d None none = refl
  none_left d (Some bytes) none = cc none

  rows_by : (d : Dir) (here : FramePlace) (linked : Bool) (did : VerdictValue) → under rules (told_message (dir_of e.channel) did) ≡ []
      → here ≡ place_of e → dir_of e.channel ≡ d → dropped_by here d linked did ≡ verdict_rows MESSAGE_LIMIT rules T e linked did
  rows_by d here linked (message bytes) none here_is dir_is = none_left (dir_of e.channel) (made_of rules bytes) none
  rows_by d here linked began none here_is dir_is = refl
  rows_by d here linked stored none here_is dir_is = refl
  rows_by d here linked flowed none here_is dir_is = refl
  rows_by d here linked (dropped reason) none here_is dir_is = (λ i. row.dropped (here_is i) (sym dir_is i) linked reason ∷ [])

  pub rows_none : (seen : Seen) (here : FramePlace) (ended drop : List RowValue) → IsSeen rules T e seen → seen.message ≡ None
      → here ≡ place_of e → ended ≡ ended_rows e seen.event.ended → drop ≡ dropped_rows here (dir_of seen.channel) (seen_event seen.event)
      → (ended ++ []) ++ drop ≡ frame_rows MESSAGE_LIMIT rules T e
  rows_none seen here ended drop is none here_is ended_is drop_is =
      let did = is.event.did in
      let told : under rules (told_message (dir_of e.channel) (seen_event seen.event).verdict) ≡ [] =
      ap (λ (x : EventValue). under rules (told_message (dir_of e.channel) x.verdict)) did ∙ tells_no_message rules T e seen is none in
      ap (λ l. l ++ drop) (append-nil ended)
      ∙ (λ i. ended_is i
      ++ (drop_is ∙ rows_by (dir_of seen.channel) here (ends_nothing seen.event.ended) (seen_event seen.event).verdict told here_is (ap dir_of is.event.channel)) i)
      ∙ ap (λ x. event_rows MESSAGE_LIMIT rules T e x) did

-- the rows of what a frame ended, then of the item that its message closes, and then of the message
pub rows_of_message : (ended closing : List RowValue) (row : RowValue) → (ended ++ closing) ++ row ∷ [] ≡ ended ++ (closing ++ row ∷ [])
rows_of_message ended closing row = append_assoc ended closing (row ∷ [])

-- so they are the rows of the frame
pub message_event : (rules : List RuleValue) (T : List Entry) (e : Entry) (event : EventValue) (judged : Judged) (asked : ℕ)
    (here : FramePlace) (extent : MessageExtent) → event ≡ verdict MESSAGE_LIMIT T e → CompletesJudged rules T e judged
    → asked ≡ asked_in MESSAGE_LIMIT rules T → here ≡ place_of e
    → extent.first ≡ place_of (first_frame T e) → extent.frames ≡ frames_by (stands MESSAGE_LIMIT e.channel T) (role e.channel e)
    → extent.is_functional ≡ is_functional e.channel
    → ended_rows e event.ended
    ++ (closing_before (messages_under rules MESSAGE_LIMIT T) (asked_all_in MESSAGE_LIMIT rules T) (step_after (messages_under rules MESSAGE_LIMIT T) (sent judged))
    ++ tells_message (role_of_step asked (step_after (messages_under rules MESSAGE_LIMIT T) (sent judged)) judged.dir judged.bytes.now)
    judged.dir (record {
      item = number_after (messages_under rules MESSAGE_LIMIT T) (sent judged);
      first = extent.first;
      last = here;
      frames = extent.frames;
      is_functional = extent.is_functional;
    }) judged.bytes.now ∷ [])
    ≡ frame_rows MESSAGE_LIMIT rules T e
message_event rules T e event judged asked here extent event_is completes asked_is here_is first_is frames_is to_all_is =
    let M = messages_under rules MESSAGE_LIMIT T in
    let bytes = judged.bytes.now in
    let dir_is = completes.dir in
    let ended = (verdict MESSAGE_LIMIT T e).ended in
    (λ i. ended_rows e (event_is i).ended
    ++ (closing_before M (asked_all_in MESSAGE_LIMIT rules T) (step_after M (sym dir_is i, bytes))
    ++ tells_message (role_of_step (asked_is i) (step_after M (sym dir_is i, bytes)) (sym dir_is i) bytes) (sym dir_is i)
    (record { item = number_after M (sym dir_is i, bytes); first = first_is i; last = here_is i; frames = frames_is i; is_functional = to_all_is i }) bytes ∷ []))
    ∙ ap (λ made. ended_rows e ended ++ left_rows MESSAGE_LIMIT rules T e made) (sym completes.made)
    ∙ ap (λ v. ended_rows e ended ++ verdict_rows MESSAGE_LIMIT rules T e (ends_nothing ended) v) (sym completes.did)
