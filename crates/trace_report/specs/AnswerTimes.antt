-- The answers that rows tell, and how long their requests waited for them: from the last frame of the request to the first
-- one of the answer. An answer that began before its request ended, by the clock of the log, is none of them.
use Rattle.std.specs.Prelude.{ℕ, List, [], ◌∷◌, Option, Some, None}
use Rattle.std.specs.List.{cons_option}
use Rattle.slow_answers.specs.Slowest.{slowest}
use Rattle.slow_answers.specs.Waited.{waited}
use Rattle.slow_answers.specs.declared.answer.SlowAnswer.{SlowAnswer}
use Rattle.uds_exchange.specs.Judging.{one_more}
use Rattle.uds_message.specs.Message.{sid}
use Rattle.trace_report.specs.Rows.{RowValue, message, no_answer, dropped, ended, unfinished}
use Rattle.trace_report.specs.declared.answer_times.LastRequest.{LastRequest}
use Rattle.trace_report.specs.declared.row.MessagePlace.{MessagePlace}
use Rattle.trace_report.specs.declared.roles.MessageRole.{MessageRole}
use Rattle.trace_report.specs.declared.roles.MessageRole.TheVariants as role

-- what is known of the last request before the first one
abbrev pub no_request : LastRequest
no_request = record { service = 0; pending = 0 }

-- what is known of the last request behind a message of this role
abbrev pub request_by : MessageRole → List ℕ → LastRequest → LastRequest
request_by role.Request bytes last = record { service = sid bytes; pending = 0 }
request_by (role.Positive asked) bytes last = last
request_by (role.Negative asked) bytes last = last
request_by (role.Pending asked) bytes last = record { service = last.service; pending = one_more last.pending }
request_by role.KeepAlive bytes last = last
request_by role.Stray bytes last = last

-- what is known of the last request behind a row
abbrev pub request_with : LastRequest → RowValue → LastRequest
request_with last (message is d place bytes) = request_by is bytes last
request_with last (no_answer number silence) = last
request_with last (dropped place d linked why) = last
request_with last (ended place end) = last
request_with last (unfinished d line len) = last

-- what is known of the last request behind these rows, by what was known before them
abbrev pub request_behind : LastRequest → List RowValue → LastRequest
request_behind last [] = last
request_behind last (row ∷ rest) = request_behind (request_with last row) rest

-- the answer in this place, where the last request waited so long for it
abbrev pub answer_after : LastRequest → MessagePlace → Option ℕ → Option SlowAnswer
answer_after last place None = None
answer_after last place (Some micros) = Some (record { item = place.item; service = last.service; micros = micros; pending = last.pending })

-- the answer that a message of this role is, if it is one that was waited for
abbrev pub answer_by : LastRequest → MessageRole → MessagePlace → Option SlowAnswer
answer_by last role.Request place = None
answer_by last (role.Positive asked) place = answer_after last place (waited asked place.first.micros)
answer_by last (role.Negative asked) place = answer_after last place (waited asked place.first.micros)
answer_by last (role.Pending asked) place = None
answer_by last role.KeepAlive place = None
answer_by last role.Stray place = None

-- the answer that a row tells, if it tells one that was waited for
abbrev pub answer_told : LastRequest → RowValue → Option SlowAnswer
answer_told last (message is d place bytes) = answer_by last is place
answer_told last (no_answer number silence) = None
answer_told last (dropped place d linked why) = None
answer_told last (ended place end) = None
answer_told last (unfinished d line len) = None

-- the answers that these rows tell, by what was known of the last request before them
abbrev pub answers_behind : LastRequest → List RowValue → List SlowAnswer
answers_behind last [] = []
answers_behind last (row ∷ rest) = cons_option (answer_told last row) (answers_behind (request_with last row) rest)

-- the answers that these rows tell
abbrev pub answers_in : List RowValue → List SlowAnswer
answers_in rows = answers_behind no_request rows

-- the ten slowest of them
abbrev pub slowest_in : List RowValue → List SlowAnswer
slowest_in rows = slowest (answers_in rows)
