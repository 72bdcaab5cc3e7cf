-- Devices of proof: what a report keeps of the frames so far.
use Rattle.std.specs.Prelude.{◌≡◌, ℕ, ◌≤◌, ◌^◌, Bool, true, false, List, [], ◌∷◌, ◌++◌, length, Option, Some, None, IfSome, if◌then◌else◌}
use Rattle.direction.specs.Dir.{Message}
use Rattle.direction.specs.declared.Dir.{Dir}
use Rattle.direction.specs.declared.Dir.TheVariants.{Tester, Unit}
use Rattle.isotp_receive.specs.declared.TheConstants.{MESSAGE_LIMIT}
use Rattle.isotp_receive.specs.StandingReception.{StandingReception, stands}
use Rattle.isotp_receive.specs.Channels.{channel_of, same_channel}
use Rattle.isotp_receive.specs.Trace.{Entry}
use Rattle.isotp_receive.specs.declared.channel.Channel.{Channel}
use Rattle.isotp_receive.specs.declared.channel.Channel.TheVariants as on
use Rattle.isotp_receive.specs.declared.event.Ended.{Ended}
use Rattle.isotp_receive.specs.Verdict.{EventValue, VerdictValue, message, began, stored, flowed, dropped, messages}
use Rattle.uds_exchange.specs.Judging.{one_more, step_after}
use Rattle.uds_exchange.specs.proving.ItemNumbers.{open_number_if_any}
use Rattle.uds_exchange.specs.Order.{open_request}
use Rattle.uds_rules.specs.Rule.{RuleValue}
use Rattle.trace_log.specs.Messages.{messages_under}
use Rattle.trace_canon.specs.declared.reception_starts.FramePlace.{FramePlace}
use Rattle.trace_canon.specs.declared.reception_starts.ReceptionStarts.{ReceptionStarts}
use Rattle.trace_canon.specs.ReceptionStarts.{AreStartsAfter, still_begun}
use Rattle.trace_report.specs.AnswerTimes.{no_request, request_behind, slowest_in}
use Rattle.trace_report.specs.Blocks.{blocks_of}
use Rattle.trace_report.specs.Events.{asked_all_in, asked_in, is_exchange_step, is_request_step, ends_nothing, rows_of}
use Rattle.trace_report.specs.Front.{PageTitleValue}
use Rattle.trace_report.specs.OtherAnswers.{last_asked, others_of}
use Rattle.trace_report.specs.Page.{last_time}
use Rattle.trace_report.specs.Rows.{RowValue, row_of}
use Rattle.trace_report.specs.Rows as row
use Rattle.trace_run.specs.Spoken.{spoken_counts}
use Rattle.trace_report.specs.Silences.{silence_of}
use Rattle.trace_report.specs.Sorts.{tally_of}
use Rattle.trace_report.specs.declared.answer_times.AnswerTimes.{AnswerTimes}
use Rattle.trace_report.specs.declared.chart.Chart.{Chart}
use Rattle.trace_report.specs.declared.extents.ReceptionExtents.{ReceptionExtents}
use Rattle.trace_report.specs.declared.follower.Follower.{Follower}
use Rattle.trace_report.specs.declared.follower.NewRows.{NewRows}
use Rattle.trace_report.specs.declared.frames.FrameCounts.{FrameCounts}
use Rattle.trace_report.specs.declared.other_answers.Echoes.{Echoes}
use Rattle.trace_report.specs.declared.reporter.Reporter.{Reporter}
use Rattle.trace_report.specs.declared.times.Times.{Times}
use Rattle.trace_report.specs.declared.row.SessionRow.{SessionRow}
use Rattle.trace_report.specs.declared.row.Silence.{Silence}
use Rattle.trace_report.specs.proving.Pages.{title_of}

-- how many consecutive frames a reception took, after what became of a frame of its channel or of another
abbrev pub counted_by : Bool → VerdictValue → ℕ → ℕ
counted_by true began taken = 0
counted_by true stored taken = one_more taken
counted_by true (message bytes) taken = taken
counted_by true flowed taken = taken
counted_by true (dropped reason) taken = taken
counted_by false did taken = taken

-- how many consecutive frames the reception of d took, after what became of a frame of this channel
abbrev pub taken_after : Dir → Channel → VerdictValue → ℕ → ℕ
taken_after d channel did taken = counted_by (same_channel (channel_of d) channel) did taken

-- this many consecutive frames were taken by the reception of d that stands after the frames T, if one does
abbrev pub IsTaken : Dir → List Entry → ℕ → Type 0
IsTaken d T taken = IfSome (stands MESSAGE_LIMIT (channel_of d) T) (λ (standing : StandingReception). taken ≡ standing.taken)

-- these counts of consecutive frames are known after the frames T
pub record CountFrames (T : List Entry) (counts : FrameCounts) : Type 0 where
  pub tester : IsTaken Tester T counts.tester
  pub unit : IsTaken Unit T counts.unit

-- how many frames carry a message that a frame completed, where the reception began there that stood and that the frame
-- did not end, if one did, and took so many consecutive frames
abbrev pub frames_with : Option FramePlace → ℕ → ℕ
frames_with None taken = 1
frames_with (Some begun) taken = one_more (one_more taken)

-- how many frames carry a message that a frame of this channel completed, and that ended this, by where the receptions
-- began and how many consecutive frames they took: one to all units is carried by one
abbrev pub frames_counted : Channel → Option Ended → ReceptionStarts → FrameCounts → ℕ
frames_counted on.Tester ended begun counts = frames_with (still_begun Tester ended begun.tester) counts.tester
frames_counted on.Unit ended begun counts = frames_with (still_begun Unit ended begun.unit) counts.unit
frames_counted on.Functional ended begun counts = 1

-- where the receptions began that stand after the frames T, and how many frames they took
pub record KnowsExtents (T : List Entry) (extents : ReceptionExtents) : Type 0 where
  pub begun : AreStartsAfter MESSAGE_LIMIT T extents.begun
  pub frames : CountFrames T extents.frames

-- this is why the request that waits after these messages, if one does, has no answer, where it need not concern this
-- unit or does
abbrev pub IsSilence : List Message → Bool → Silence → Type 0
IsSilence M to_all silence = IfSome (open_request M) (λ (request : List ℕ). silence ≡ silence_of to_all request)

-- the number of the exchange that waits after these messages, if one does
abbrev pub IsWaiting : List Message → Option ℕ → Type 0
IsWaiting M waits = waits ≡ open_number_if_any M

-- This is known after these messages: which exchange waits, why it has no answer, and when the last request was
-- complete; the last message of an exchange went to all units or to one.
pub record KnowsMessages (M : List Message) (asked : ℕ) (to_all : Bool) (follower : Follower) : Type 0 where
  pub waits : IsWaiting M follower.waits
  pub silence : IsSilence M to_all follower.silence
  pub asked_then : follower.asked ≡ asked

-- what is known after these messages is known with one more, which a frame in this place completed, to all units or to
-- one
abbrev pub MeetsMessage : List Message → Message → FramePlace → Bool → ℕ → Bool → Follower → Type 0
MeetsMessage M sent here is_functional asked to_all follower =
    KnowsMessages (M ++ sent ∷ []) (if is_request_step (step_after M sent) then here.micros else asked)
    (if is_exchange_step (step_after M sent) then is_functional else to_all) follower

-- what a side of this direction sent went to all units or to one: the unit asks none
abbrev pub OnlyTesterAsksAll : Dir → Bool → Type 0
OnlyTesterAsksAll d is_functional = d ≡ Unit → is_functional ≡ false

-- all that the rows of further frames depend on is known after the frames T
pub record Follows (rules : List RuleValue) (T : List Entry) (follower : Follower) : Type 0 where
  pub met : KnowsMessages (messages_under rules MESSAGE_LIMIT T) (asked_in MESSAGE_LIMIT rules T) (asked_all_in MESSAGE_LIMIT rules T) follower
  pub extents : KnowsExtents T follower.extents

-- the row that is there, if one is
abbrev pub row_if : Option SessionRow → List RowValue
row_if None = []
row_if (Some row) = row_of row ∷ []

-- the new rows that a frame adds, or the end of a log
abbrev pub rows_in : NewRows → List RowValue
rows_in rows = row_if rows.first ++ row_if rows.second ++ row_if rows.third

-- the row of a frame in this place of which this became: one of a dropped frame, as `verdict_rows` has it
abbrev pub dropped_by : FramePlace → Dir → Bool → VerdictValue → List RowValue
dropped_by here d linked (message bytes) = []
dropped_by here d linked began = []
dropped_by here d linked stored = []
dropped_by here d linked flowed = []
dropped_by here d linked (dropped reason) = row.dropped here d linked reason ∷ []

-- the row of a frame in this place, if it was dropped
abbrev pub dropped_rows : FramePlace → Dir → EventValue → List RowValue
dropped_rows here d event = dropped_by here d (ends_nothing event.ended) event.verdict

-- the row of a reception that stands at the end, if one does: as `standing_row` has it
abbrev pub unfinished_if : Dir → Option (ℕ × ℕ) → List RowValue
unfinished_if d None = []
unfinished_if d (Some begun) = row.unfinished d begun.0 begun.1 ∷ []

-- this is known of the answers that these rows tell, and of the last request
pub record AreTimesOf (rows : List RowValue) (times : AnswerTimes) : Type 0 where
  pub last : times.last ≡ request_behind no_request rows
  pub slowest : times.slowest ≡ slowest_in rows

-- this is known of what these rows asked last, and of the answers under rules that are other than was asked
pub record AreEchoesOf (rules : List RuleValue) (rows : List RowValue) (echoes : Echoes) : Type 0 where
  pub asked : echoes.asked ≡ last_asked rows
  pub others : echoes.others ≡ others_of rules rows

-- the chart is said under rules up to these rows
pub record IsChartOf (rules : List RuleValue) (rows : List RowValue) (chart : Chart) : Type 0 where
  pub blocks : chart.blocks ≡ blocks_of rows
  pub tally : chart.tally ≡ tally_of rows
  pub times : AreTimesOf rows chart.times
  pub echoes : AreEchoesOf rules rows chart.echoes

-- the times of the first frame of a trace and of its last one, if it has frames
abbrev pub times_of : List Entry → Option Times
times_of [] = None
times_of (e ∷ rest) = Some (record { first = e.micros; last = last_time e.micros rest })

-- the page is said up to the rows of the frames T
pub record Reports (rules : List RuleValue) (title : PageTitleValue) (T : List Entry) (reporter : Reporter) : Type 0 where
  pub few : length T ≤ 2 ^ 62
  pub same : title_of reporter.title ≡ title
  pub times : reporter.times ≡ times_of T
  pub follows : Follows rules T reporter.follower
  pub chart : IsChartOf title.rules (rows_of MESSAGE_LIMIT rules T) reporter.chart
  pub spoken : reporter.spoken.items ≡ spoken_counts title.rules (messages MESSAGE_LIMIT T)
