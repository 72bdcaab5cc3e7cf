-- What a report has of a trace, with one more frame.
use Rattle.std.proofs.Common.{◌≡◌, ◌≤◌, ◌*◌, ℕ, Bool, false, List, [], ◌∷◌, ◌++◌, length, Option}
use Rattle.std.proofs.Common.{Some, None, arith, refl, ap, sym, ◌∙◌, append_assoc, append-nil}
use Rattle.std.proofs.lemmas.List.{length-append}
use Rattle.std.specs.Prelude.{if◌then◌else◌}
use Rattle.direction.specs.Dir.{Message}
use Rattle.isotp_receive.specs.Channels.{dir_of, is_functional}
use Rattle.isotp_receive.specs.declared.event.Ended.{Ended}
use Rattle.isotp_receive.specs.Trace.{Entry}
use Rattle.isotp_receive.specs.Verdict.{VerdictValue, message, began, stored, flowed, dropped, verdict}
use Rattle.uds_exchange.specs.Judging.{step_after}
use Rattle.uds_exchange.specs.Order.{open_request}
use Rattle.uds_exchange.specs.declared.step.Step.{Step}
use Rattle.uds_exchange.specs.declared.step.Step.TheVariants as becomes
use Rattle.uds_rules.specs.Rule.{RuleValue, made_of}
use Rattle.trace_log.specs.Messages.{messages_under}
use Rattle.trace_report.specs.Events.{asked_all_in, asked_in, closing_before, completes_request, completes_such, ended_rows, frame_rows, ends_nothing}
use Rattle.trace_report.specs.Events.{is_exchange_step, is_request_step, last_such_behind, left_rows, message_place, rows_behind, rows_of, verdict_rows, waiting_row}
use Rattle.trace_report.specs.Roles.{role_of_step}
use Rattle.trace_report.specs.Page.{first_time, last_time}
use Rattle.trace_report.specs.Rows as row
use Rattle.trace_report.specs.proving.Following.{times_of}

rows_more : (limit : ℕ) (rules : List RuleValue) (past T : List Entry) (e : Entry)
    → rows_behind limit rules past (T ++ e ∷ []) ≡ rows_behind limit rules past T ++ frame_rows limit rules (past ++ T) e
rows_more limit rules past [] e =
    append-nil (frame_rows limit rules past e) ∙ ap (λ (before : List Entry). frame_rows limit rules before e) (sym (append-nil past))
rows_more limit rules past (x ∷ T) e =
    let front = frame_rows limit rules past x in
    let between = rows_behind limit rules (past ++ x ∷ []) T in
    ap (λ rest. front ++ rest) (rows_more limit rules (past ++ x ∷ []) T e)
    ∙ ap (λ (before : List Entry). front ++ (between ++ frame_rows limit rules before e)) (append_assoc past (x ∷ []) T)
    ∙ sym (append_assoc front between (frame_rows limit rules (past ++ x ∷ T) e))

-- its rows
pub rows_next : (limit : ℕ) (rules : List RuleValue) (T : List Entry) (e : Entry) → rows_of limit rules (T ++ e ∷ []) ≡ rows_of limit rules T ++ frame_rows limit rules T e
rows_next limit rules T e = rows_more limit rules [] T e

such_more : {A : Type 0} (such : Step → Bool) (of : Entry → A) (limit : ℕ) (rules : List RuleValue) (earlier : A) (past T : List Entry) (e : Entry)
    → last_such_behind such of limit rules earlier past (T ++ e ∷ [])
    ≡ (if completes_such such limit rules (past ++ T) e then of e else last_such_behind such of limit rules earlier past T)
such_more such of limit rules earlier past [] e =
    ap (λ (before : List Entry). if completes_such such limit rules before e then of e else earlier) (sym (append-nil past))
such_more such of limit rules earlier past (x ∷ T) e =
    let last = if completes_such such limit rules past x then of x else earlier in
    such_more such of limit rules last (past ++ x ∷ []) T e
    ∙ ap (λ (before : List Entry). if completes_such such limit rules before e then of e else last_such_behind such of limit rules last (past ++ x ∷ []) T)
    (append_assoc past (x ∷ []) T)

-- the time at which its last request was complete
pub asked_next : (limit : ℕ) (rules : List RuleValue) (T : List Entry) (e : Entry)
    → asked_in limit rules (T ++ e ∷ []) ≡ (if completes_request limit rules T e then e.micros else asked_in limit rules T)
asked_next limit rules T e = such_more is_request_step (λ e. e.micros) limit rules 0 [] T e

-- whether the last message of its exchanges went to all units
pub asked_all_next : (limit : ℕ) (rules : List RuleValue) (T : List Entry) (e : Entry)
    → asked_all_in limit rules (T ++ e ∷ [])
    ≡ (if completes_such is_exchange_step limit rules T e then is_functional e.channel else asked_all_in limit rules T)
asked_all_next limit rules T e = such_more is_exchange_step (λ e. is_functional e.channel) limit rules false [] T e

-- the time of its last frame
pub last_next : (earlier : ℕ) (T : List Entry) (e : Entry) → last_time earlier (T ++ e ∷ []) ≡ e.micros
last_next earlier [] e = refl
last_next earlier (x ∷ T) e = last_next x.micros T e

-- the times of a trace with one more frame
pub times_next : (T : List Entry) (e : Entry) (first last : ℕ) → first ≡ first_time (T ++ e ∷ []) → last ≡ e.micros
    → Some (record { first = first; last = last }) ≡ times_of (T ++ e ∷ [])
times_next [] e first last first_is last_is = (λ i. Some (record { first = first_is i; last = last_is i }))
times_next (x ∷ T) e first last first_is last_is = (λ i. Some (record { first = first_is i; last = (last_is ∙ sym (last_next x.micros T e)) i }))

-- Rows are few: three of a frame at the most.

few_waiting : (M : List Message) (to_all : Bool) (waiting : Option (List ℕ)) → length (waiting_row M to_all waiting) ≤ 1
few_waiting M to_all None = omega arith
few_waiting M to_all (Some request) = omega arith

few_before : (M : List Message) (to_all : Bool) (step : Step) → length (closing_before M to_all step) ≤ 1
few_before M to_all (becomes.Request service) = few_waiting M to_all (open_request M)
few_before M to_all becomes.Answer = omega arith
few_before M to_all becomes.Removed = omega arith
few_before M to_all becomes.Hold = omega arith
few_before M to_all becomes.Pass = omega arith

few_ended : (e : Entry) (ended : Option Ended) → length (ended_rows e ended) ≤ 1
few_ended e None = omega arith
few_ended e (Some end) = omega arith

few_left : (limit : ℕ) (rules : List RuleValue) (T : List Entry) (e : Entry) (made : Option (List ℕ))
    → length (left_rows limit rules T e made) ≤ 2
few_left limit rules T e None = omega arith
few_left limit rules T e (Some bytes) =
    let M = messages_under rules limit T in
    let step = step_after M (dir_of e.channel, bytes) in
    let to_all = asked_all_in limit rules T in
    let one = few_before M to_all step in
    let row = row.message (role_of_step (asked_in limit rules T) step (dir_of e.channel) bytes) (dir_of e.channel) (message_place limit rules T e bytes) bytes in
    let both = length-append (closing_before M to_all step) (row ∷ []) in
    omega (arith, one, both)

few_of_verdict : (limit : ℕ) (rules : List RuleValue) (T : List Entry) (e : Entry) (linked : Bool) (did : VerdictValue)
    → length (verdict_rows limit rules T e linked did) ≤ 2
few_of_verdict limit rules T e linked (message bytes) = few_left limit rules T e (made_of rules bytes)
few_of_verdict limit rules T e linked began = omega arith
few_of_verdict limit rules T e linked stored = omega arith
few_of_verdict limit rules T e linked flowed = omega arith
few_of_verdict limit rules T e linked (dropped reason) = omega arith

few_of_frame : (limit : ℕ) (rules : List RuleValue) (T : List Entry) (e : Entry) → length (frame_rows limit rules T e) ≤ 3
few_of_frame limit rules T e =
    let event = verdict limit T e in
    let ended = few_ended e event.ended in
    let did = few_of_verdict limit rules T e (ends_nothing event.ended) event.verdict in
    let both = length-append (ended_rows e event.ended) (verdict_rows limit rules T e (ends_nothing event.ended) event.verdict) in
    omega (arith, ended, did, both)

few_behind : (limit : ℕ) (rules : List RuleValue) (past T : List Entry) → length (rows_behind limit rules past T) ≤ 3 * length T
few_behind limit rules past [] = omega arith
few_behind limit rules past (e ∷ rest) =
    let first = few_of_frame limit rules past e in
    let later = few_behind limit rules (past ++ e ∷ []) rest in
    let both = length-append (frame_rows limit rules past e) (rows_behind limit rules (past ++ e ∷ []) rest) in
    omega (arith, first, later, both)

pub few_rows : (limit : ℕ) (rules : List RuleValue) (T : List Entry) → length (rows_of limit rules T) ≤ 3 * length T
few_rows limit rules T = few_behind limit rules [] T
