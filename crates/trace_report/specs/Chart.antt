-- The chart of a page under rules: the text of its rows, each behind what begins before it.
use Rattle.std.specs.Prelude.{ℕ, Bool, true, false, List, [], ◌++◌, ◌∷◌, if◌then◌else◌}
use Rattle.direction.specs.declared.Dir.{Dir}
use Rattle.uds_rules.specs.Rule.{RuleValue}
use Rattle.trace_report.specs.declared.row.MessagePlace.{MessagePlace}
use Rattle.trace_report.specs.declared.roles.MessageRole.{MessageRole}
use Rattle.trace_report.specs.Rows.{RowValue, message, no_answer, dropped, ended, unfinished}
use Rattle.trace_report.specs.MessageRows.{message_row}
use Rattle.trace_report.specs.BriefRows.{brief_message, brief_no_answer}
use Rattle.trace_report.specs.OtherAnswers.{asked_with, is_other_by}
use Rattle.trace_report.specs.OtherRows.{other_row}
use Rattle.trace_report.specs.MissingRows.{no_answer_row, dropped_row, ended_row, unfinished_row}
use Rattle.trace_report.specs.declared.blocks.Blocks.{Blocks}
use Rattle.trace_report.specs.declared.row.Silence.{Silence}
use Rattle.trace_report.specs.Blocks.{begins_exchange, one_more_row, opening_text, is_brief}

-- the row of a message that rules have left, but for an answer that is other than was asked, in a block of brief rows or in
-- another
abbrev pub plain_text : List RuleValue → Bool → ℕ → MessageRole → Dir → MessagePlace → List ℕ → List ℕ
plain_text rules true origin is d place bytes = brief_message rules origin is d place bytes
plain_text rules false origin is d place bytes = message_row rules origin is d place bytes

-- the row of a message that rules have left, where this was asked last
abbrev pub message_text : List RuleValue → Bool → ℕ → List ℕ → MessageRole → Dir → MessagePlace → List ℕ → List ℕ
message_text rules brief origin asked is d place bytes =
    if is_other_by rules asked is bytes then other_row rules origin asked is d place bytes else plain_text rules brief origin is d place bytes

-- the row of an item without an answer, in a block of brief rows or in another
abbrev pub no_answer_text : Bool → ℕ → Silence → List ℕ
no_answer_text true number silence = brief_no_answer number silence
no_answer_text false number silence = no_answer_row number silence

-- the text of a row, in a block of brief rows or in another, where `origin` is the time of the first frame of the two
-- sides, and this was asked last
abbrev pub row_text : List RuleValue → Bool → ℕ → List ℕ → RowValue → List ℕ
row_text rules brief origin asked (message is d place bytes) = message_text rules brief origin asked is d place bytes
row_text rules brief origin asked (no_answer number silence) = no_answer_text brief number silence
row_text rules brief origin asked (dropped place d linked why) = dropped_row linked origin place d why
row_text rules brief origin asked (ended place end) = ended_row true origin place end
row_text rules brief origin asked (unfinished d line len) = unfinished_row true d line len

-- the text of a row and of what begins before it, where these blocks stand before it, and this was asked last
abbrev pub placed_text : List RuleValue → ℕ → Blocks → List ℕ → RowValue → List ℕ
placed_text rules origin blocks asked row =
    opening_text origin blocks row ++ row_text rules (is_brief (one_more_row (begins_exchange row) blocks)) origin asked row

-- the text of these rows, where these blocks stand before them, and this was asked last
abbrev pub rows_text : List RuleValue → ℕ → Blocks → List ℕ → List RowValue → List ℕ
rows_text rules origin blocks asked [] = []
rows_text rules origin blocks asked (row ∷ rest) =
    placed_text rules origin blocks asked row
    ++ rows_text rules origin (one_more_row (begins_exchange row) blocks) (asked_with asked row) rest
