-- The number that a row gives an item is the place of that item in the meaning.
use Rattle.std.proofs.Common.{◌≡◌, ℕ, not, ◌&&◌, true, false, List, [], ◌∷◌, ◌++◌, length, option_map, Option}
use Rattle.std.proofs.Common.{Some, None, refl, ap, sym, subst, ◌∙◌, inl, inr, append-nil, append_assoc}
use Rattle.std.specs.Prelude.{⊤, Bool, slice_get}
use Rattle.std.specs.List.{AllByRecursion}
use Rattle.std.proofs.lemmas.Bool.{cases_Bool, false≢true}
use Rattle.can_log.proofs.Promises.{AllByRecursion-append, AllByRecursion-weaker}
use Rattle.direction.specs.Dir.{Message}
use Rattle.direction.specs.declared.Dir.{Dir}
use Rattle.direction.specs.declared.Dir.TheVariants as dir
use Rattle.isotp_receive.specs.Channels.{dir_of}
use Rattle.isotp_receive.specs.declared.TheConstants.{MESSAGE_LIMIT}
use Rattle.isotp_receive.specs.declared.event.Ended.{Ended}
use Rattle.isotp_receive.specs.StandingReception.{StandingReception, receptions_after}
use Rattle.isotp_receive.specs.Trace.{Entry}
use Rattle.isotp_receive.specs.Verdict.{VerdictValue, message, began, stored, flowed, dropped, told_message, verdict}
use Rattle.uds_exchange.proofs.Promises.{at_front, begun_stays, decided_grows, decided_then_undecided, item_stays, items_become}
use Rattle.uds_exchange.proofs.Promises.{meaning_goes_on, number_is_its_place, open_exchange_stands, open_number_is_its_place}
use Rattle.uds_exchange.specs.Decided.{decided, decided_in, undecided}
use Rattle.uds_exchange.specs.Judging.{step_after}
use Rattle.uds_exchange.specs.Meaning.{ItemValue, exchange, stray, is_from_tester, is_tester_request, meaning}
use Rattle.uds_exchange.specs.Numbers.{HasItem, HasRoleInItem}
use Rattle.uds_exchange.specs.OneMessage.{step_if_open}
use Rattle.uds_exchange.specs.Order.{has_exchange, open_request}
use Rattle.uds_exchange.specs.proving.Becoming.{Becomes}
use Rattle.uds_exchange.specs.declared.step.Step.{Step}
use Rattle.uds_exchange.specs.declared.step.Step.TheVariants as becomes
use Rattle.uds_message.specs.Message.{is_final_for, is_keep_alive, is_negative_response, is_pending_for, is_suppressing, sid}
use Rattle.trace_log.specs.Messages.{messages_under}
use Rattle.trace_run.proofs.Promises.{messages_next}
use Rattle.uds_rules.specs.Rule.{RuleValue, made_of}
use Rattle.uds_rules.specs.Under.{sent_as, under}
use Rattle.trace_report.specs.Events.{asked_all_in, asked_in, closing_before, closing_rows, end_rows}
use Rattle.trace_report.specs.Events.{ended_rows, ends_nothing, is_request_step, left_rows, message_rows}
use Rattle.trace_report.specs.Events.{rows_of, standing_row, verdict_rows, waiting_row}
use Rattle.trace_report.specs.Roles.{role_of_step}
use Rattle.trace_report.specs.Numbers.{HasPart, IsUnanswered, RowNumbersArePlaces, TellsItsItem}
use Rattle.trace_report.specs.Rows.{RowValue}
use Rattle.trace_report.specs.Rows as row
use Rattle.trace_report.specs.Silences.{is_suppressed, silence_of}
use Rattle.trace_report.specs.declared.roles.MessageRole.{MessageRole}
use Rattle.trace_report.specs.declared.roles.MessageRole.TheVariants as role
use Rattle.trace_report.proofs.Steps.{rows_next}

-- What a row tells behind these messages: that an item has no answer is so for good, since it is decided.
abbrev Tells : List Message → RowValue → Type 0
Tells M (row.message is d place bytes) = HasItem (meaning M) place.item (HasPart is (d, bytes))
Tells M (row.no_answer number silence) = HasItem (decided M) number (IsUnanswered silence)
Tells M (row.dropped place d linked why) = ⊤
Tells M (row.ended place end) = ⊤
Tells M (row.unfinished d line len) = ⊤

-- an item among these is one among these and more
item-behind : (Holds : ItemValue → Type 0) (items more all : List ItemValue) → items ++ more ≡ all → (number : ℕ) → HasItem items number Holds → HasItem all number Holds
item-behind Holds items more all is number has =
    (has.0, has.1, has.2, ap (λ l. slice_get l has.0) (sym is) ∙ at_front items more has.0 has.1 has.3, has.4)

-- One more message.

part-still : (is : MessageRole) (sent : Message) (item now : ItemValue) → Becomes item now → HasPart is sent item → HasPart is sent now
part-still role.Request sent item now become has = begun_stays sent.1 item now become has
part-still (role.Positive asked) sent item now become has = (has.0, subst (λ (it : ItemValue). Becomes it now) has.1 become)
part-still (role.Negative asked) sent item now become has = (has.0, subst (λ (it : ItemValue). Becomes it now) has.1 become)
part-still (role.Pending asked) sent item now become has = (has.0, begun_stays has.0 item now become has.1, has.2)
part-still role.KeepAlive sent item now become has = subst (λ (it : ItemValue). Becomes it now) has become
part-still role.Stray sent item now become has = subst (λ (it : ItemValue). Becomes it now) has become

row-still : (M : List Message) (x : Message) (one : RowValue) → Tells M one → Tells (M ++ x ∷ []) one
row-still M x (row.message is d place bytes) tells =
    item_stays (HasPart is (d, bytes)) (part-still is (d, bytes)) (meaning M) (meaning (M ++ x ∷ [])) (items_become M x) place.item tells
row-still M x (row.no_answer number silence) tells =
    let grown = decided_grows M (x ∷ []) in
    item-behind (IsUnanswered silence) (decided M) grown.0 (decided (M ++ x ∷ [])) (sym grown.1) number tells
row-still M x (row.dropped place d linked why) tells = tt
row-still M x (row.ended place end) tells = tt
row-still M x (row.unfinished d line len) tells = tt

-- The rows of a message.

-- a message has in its row the part that it has by what becomes of it
part-by : (asked : ℕ) (step : Step) (d : Dir) (bytes : List ℕ) (item : ItemValue) → HasRoleInItem step (d, bytes) item → HasPart (role_of_step asked step d bytes) (d, bytes) item
part-by asked (becomes.Request service) d bytes item has = has
part-by asked becomes.Answer d bytes item has = elim (cases_Bool (is_negative_response bytes)) [ inl e ↦ rw e has | inr e ↦ rw e has ]
part-by asked becomes.Removed d bytes item has = has
part-by asked becomes.Hold dir.Tester bytes item has = elim (cases_Bool (is_keep_alive bytes)) [ inl e ↦ rw e has | inr e ↦ rw e has ]
part-by asked becomes.Hold dir.Unit bytes item has = has
part-by asked becomes.Pass dir.Tester bytes item has = elim (cases_Bool (is_keep_alive bytes)) [ inl e ↦ rw e has | inr e ↦ rw e has ]
part-by asked becomes.Pass dir.Unit bytes item has = has

-- why a request has no answer tells whether it asked for a positive one
silence-is : (to_all : Bool) (request : List ℕ) → is_suppressed (silence_of to_all request) ≡ is_suppressing request
silence-is true request = elim (cases_Bool (is_suppressing request)) [ inl e ↦ rw e refl | inr e ↦ rw e refl ]
silence-is false request = elim (cases_Bool (is_suppressing request)) [ inl e ↦ rw e refl | inr e ↦ rw e refl ]

-- one more request decides all items before it
has-last : (items : List ItemValue) (request : List ℕ) → has_exchange (items ++ exchange request None ∷ []) ≡ true
has-last [] request = refl
has-last (exchange asked reply ∷ items) request = refl
has-last (stray d bytes ∷ items) request = has-last items request

all-decided : (items : List ItemValue) (request : List ℕ) → decided_in (items ++ exchange request None ∷ []) ≡ items
all-decided [] request = refl
all-decided (stray d bytes ∷ items) request = ap (λ l. stray d bytes ∷ l) (all-decided items request)
all-decided (exchange asked (Some reply) ∷ items) request = ap (λ l. exchange asked (Some reply) ∷ l) (all-decided items request)
all-decided (exchange asked None ∷ items) request = rw (has-last items request) (ap (λ l. exchange asked None ∷ l) (all-decided items request))

never-asks : (open_sid : Option ℕ) (x : Message) → is_request_step (step_if_open open_sid x) ≡ false
never-asks None x = refl
never-asks (Some service) x =
    elim (cases_Bool (not (is_from_tester x.0) && is_final_for service x.1)) [
      | inl e ↦ rw e refl
      | inr e ↦ elim (cases_Bool (not (is_from_tester x.0) && is_pending_for service x.1)) [ inl p ↦ rw (e, p) refl | inr p ↦ rw (e, p) refl ]
    ]

module _ (M : List Message) (x : Message) where
  asks : is_request_step (step_after M x) ≡ true → is_tester_request x ≡ true
  asks is =
      elim (cases_Bool (is_tester_request x)) [
        | inl e ↦ e
        | inr e ↦ absurd (false≢true (sym (never-asks (option_map sid (open_request M)) x) ∙ rw e at is))
      ]

  decided-before : is_tester_request x ≡ true → decided (M ++ x ∷ []) ≡ meaning M
  decided-before is = ap decided_in (meaning_goes_on M x) ∙ rw is (all-decided (meaning M) x.1)

  waiting-tells : (to_all : Bool) (waits : Option (List ℕ)) → open_request M ≡ waits → is_tester_request x ≡ true
      → AllByRecursion (Tells (M ++ x ∷ [])) (waiting_row M to_all waits)
  waiting-tells to_all None waits_is is = tt
  waiting-tells to_all (Some request) waits_is is = (
    (
      length (decided M),
      exchange request None,
      open_number_is_its_place M request waits_is,
      ap (λ items. slice_get items (length (decided M))) (decided-before is) ∙ open_exchange_stands M request waits_is,
      (request, refl, silence-is to_all request),
    ),
    tt,
  )

  before-tells : (to_all : Bool) (step : Step) → is_request_step step ≡ is_request_step (step_after M x)
      → AllByRecursion (Tells (M ++ x ∷ [])) (closing_before M to_all step)
  before-tells to_all (becomes.Request service) is = waiting-tells to_all (open_request M) refl (asks (sym is))
  before-tells to_all becomes.Answer is = tt
  before-tells to_all becomes.Removed is = tt
  before-tells to_all becomes.Hold is = tt
  before-tells to_all becomes.Pass is = tt

-- One more frame.

module _ (rules : List RuleValue) (T : List Entry) (e : Entry) where
  abbrev M : List Message
  M = messages_under rules MESSAGE_LIMIT T

  sent-tells : (bytes : List ℕ) → AllByRecursion (Tells (M ++ (dir_of e.channel, bytes) ∷ [])) (message_rows MESSAGE_LIMIT rules T e bytes (step_after M (dir_of e.channel, bytes)))
  sent-tells bytes =
      let x : Message = (dir_of e.channel, bytes) in
      let step = step_after M x in
      let has = number_is_its_place M x in
      let to_all = asked_all_in MESSAGE_LIMIT rules T in
      AllByRecursion-append (Tells (M ++ x ∷ [])) (closing_before M to_all step) _ (before-tells M x to_all step refl)
      ((has.0, has.1, has.2, has.3, part-by (asked_in MESSAGE_LIMIT rules T) step (dir_of e.channel) bytes has.1 has.4), tt)

  left-tells : (made : Option (List ℕ))
      → AllByRecursion (Tells (M ++ (sent_as (dir_of e.channel) made ++ []))) (left_rows MESSAGE_LIMIT rules T e made)
  left-tells None = tt
  left-tells (Some bytes) = sent-tells bytes

  verdict-tells : (linked : Bool) (did : VerdictValue) → AllByRecursion (Tells (M ++ under rules (told_message (dir_of e.channel) did))) (verdict_rows MESSAGE_LIMIT rules T e linked did)
  verdict-tells linked (message bytes) = left-tells (made_of rules bytes)
  verdict-tells linked began = tt
  verdict-tells linked stored = tt
  verdict-tells linked flowed = tt
  verdict-tells linked (dropped reason) = (tt, tt)

  ended-tells : (M : List Message) (ended : Option Ended) → AllByRecursion (Tells M) (ended_rows e ended)
  ended-tells M None = tt
  ended-tells M (Some end) = (tt, tt)

  rows-left : (rows : List RowValue) (made : Option (List ℕ)) → AllByRecursion (Tells M) rows
      → AllByRecursion (Tells (M ++ (sent_as (dir_of e.channel) made ++ []))) rows
  rows-left rows None tell = subst (λ l. AllByRecursion (Tells l) rows) (sym (append-nil M)) tell
  rows-left rows (Some bytes) tell =
      AllByRecursion-weaker (Tells M) (Tells (M ++ (dir_of e.channel, bytes) ∷ [])) (row-still M (dir_of e.channel, bytes)) rows tell

  rows-still : (rows : List RowValue) (did : VerdictValue) → AllByRecursion (Tells M) rows → AllByRecursion (Tells (M ++ under rules (told_message (dir_of e.channel) did))) rows
  rows-still rows (message bytes) tell = rows-left rows (made_of rules bytes) tell
  rows-still rows began tell = subst (λ l. AllByRecursion (Tells l) rows) (sym (append-nil M)) tell
  rows-still rows stored tell = subst (λ l. AllByRecursion (Tells l) rows) (sym (append-nil M)) tell
  rows-still rows flowed tell = subst (λ l. AllByRecursion (Tells l) rows) (sym (append-nil M)) tell
  rows-still rows (dropped reason) tell = subst (λ l. AllByRecursion (Tells l) rows) (sym (append-nil M)) tell

  frame-tells : AllByRecursion (Tells M) (rows_of MESSAGE_LIMIT rules T) → AllByRecursion (Tells (messages_under rules MESSAGE_LIMIT (T ++ e ∷ []))) (rows_of MESSAGE_LIMIT rules (T ++ e ∷ []))
  frame-tells tell =
      let event = verdict MESSAGE_LIMIT T e in
      let then = M ++ under rules (told_message (dir_of e.channel) event.verdict) in
      let ended = ended_rows e event.ended in
      let did = verdict_rows MESSAGE_LIMIT rules T e (ends_nothing event.ended) event.verdict in
      let new = AllByRecursion-append (Tells then) ended did (ended-tells then event.ended) (verdict-tells (ends_nothing event.ended) event.verdict) in
      let all = AllByRecursion-append (Tells then) (rows_of MESSAGE_LIMIT rules T) (ended ++ did) (rows-still (rows_of MESSAGE_LIMIT rules T) event.verdict tell) new in
      subst (λ l. AllByRecursion (Tells l) (rows_of MESSAGE_LIMIT rules (T ++ e ∷ []))) (sym (messages_next rules T e e.channel event refl refl))
      (subst (AllByRecursion (Tells then)) (sym (rows_next MESSAGE_LIMIT rules T e)) all)

-- All frames, and the end.

abbrev EachTells : List RuleValue → List Entry → Type 0
EachTells rules T = AllByRecursion (Tells (messages_under rules MESSAGE_LIMIT T)) (rows_of MESSAGE_LIMIT rules T)

each-tells : (rules : List RuleValue) (past T : List Entry) → EachTells rules past → EachTells rules (past ++ T)
each-tells rules past [] tell = subst (EachTells rules) (sym (append-nil past)) tell
each-tells rules past (e ∷ rest) tell =
    subst (EachTells rules) (append_assoc past (e ∷ []) rest)
    (each-tells rules (past ++ e ∷ []) rest (frame-tells rules past e tell))

row-tells : (M : List Message) (one : RowValue) → Tells M one → TellsItsItem (meaning M) one
row-tells M (row.message is d place bytes) tells = tells
row-tells M (row.no_answer number silence) tells =
    item-behind (IsUnanswered silence) (decided M) (undecided M) (meaning M) (decided_then_undecided M) number tells
row-tells M (row.dropped place d linked why) tells = tt
row-tells M (row.ended place end) tells = tt
row-tells M (row.unfinished d line len) tells = tt

standing-tells : (items : List ItemValue) (d : Dir) (standing : Option StandingReception) → AllByRecursion (TellsItsItem items) (standing_row d standing)
standing-tells items d None = tt
standing-tells items d (Some begun) = (tt, tt)

closing-tells : (M : List Message) (to_all : Bool) (waits : Option (List ℕ)) → open_request M ≡ waits
    → AllByRecursion (TellsItsItem (meaning M)) (waiting_row M to_all waits)
closing-tells M to_all None waits_is = tt
closing-tells M to_all (Some request) waits_is =
    ((length (decided M), exchange request None, open_number_is_its_place M request waits_is, open_exchange_stands M request waits_is, (request, refl, silence-is to_all request)), tt)

end-tells : (rules : List RuleValue) (T : List Entry) → AllByRecursion (TellsItsItem (meaning (messages_under rules MESSAGE_LIMIT T))) (end_rows MESSAGE_LIMIT rules T)
end-tells rules T =
    let M = messages_under rules MESSAGE_LIMIT T in
    let Tells-it = TellsItsItem (meaning M) in
    let stand = receptions_after MESSAGE_LIMIT T in
    let one = standing_row dir.Tester stand.tester in
    let other = standing_row dir.Unit stand.unit in
    let to_all = asked_all_in MESSAGE_LIMIT rules T in
    AllByRecursion-append Tells-it (one ++ other) (closing_rows M to_all)
    (AllByRecursion-append Tells-it one other (standing-tells (meaning M) dir.Tester stand.tester) (standing-tells (meaning M) dir.Unit stand.unit))
    (closing-tells M to_all (open_request M) refl)

pub row_numbers_are_places : RowNumbersArePlaces
row_numbers_are_places rules T =
    let M = messages_under rules MESSAGE_LIMIT T in
    AllByRecursion-append (TellsItsItem (meaning M)) (rows_of MESSAGE_LIMIT rules T) (end_rows MESSAGE_LIMIT rules T)
    (AllByRecursion-weaker (Tells M) (TellsItsItem (meaning M)) (row-tells M) (rows_of MESSAGE_LIMIT rules T) (each-tells rules [] T tt))
    (end-tells rules T)
