-- What holds of the lines of the verdict on answers that took much longer in one log: what they link to.
use Rattle.std.specs.Prelude.{◌≡◌, List, ◌++◌, codes, Some}
use Rattle.slow_answers.specs.declared.longer.AnswerBeside.{AnswerBeside}
use Rattle.uds_difference.specs.declared.row.Row.{Row}
use Rattle.trace_report.specs.Linked.{IsAmong}
use Rattle.trace_report.specs.Session.{SessionValue}
use Rattle.pair_words.specs.declared.log.PairLog.{PairLog}
use Rattle.trace_pair.specs.ItemRows.{row_text}
use Rattle.trace_pair.specs.LinkLaws.{HasAttribute}
use Rattle.trace_pair.specs.LongerAnswers.{longer_in, longer_line}
use Rattle.trace_pair.specs.RowStretches.{PlacedRow}
use Rattle.trace_pair.specs.RowTimes.{longer_name}
use Rattle.trace_pair.specs.TableLaws.{table_rows}

-- one of these rows has the item of an answer and that of the one beside it, and the name of such a row as its identifier
abbrev pub HasItsRow : SessionValue → SessionValue → List PlacedRow → AnswerBeside → Type 0
HasItsRow left right rows answer =
    (row : PlacedRow) × IsAmong row rows × (row.place.left ≡ answer.left) × (row.place.right ≡ answer.right)
    × HasAttribute (codes "id") (longer_name answer.left) (row_text left right row.place row.begins)

-- Where answers took much longer in a log, the line of the verdict links to a row of the table of items: that of the
-- slowest one and the one beside it.
abbrev pub LongerLinksHaveTargets : Type 0
LongerLinksHaveTargets = (log : PairLog) (left right : SessionValue) (rows : List Row) (slowest : AnswerBeside)
    → (longer_in log left right rows).slowest ≡ Some slowest
    → HasItsRow left right (table_rows rows) slowest
    × HasAttribute (codes "href") (codes "#" ++ longer_name slowest.left) (longer_line left log (longer_in log left right rows))
