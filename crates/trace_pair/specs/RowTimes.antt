-- How long the requests of a row of two items waited for their answers: from the last frame of a request to the first one
-- of its answer, as on the page of one log; and the name of a row in which one of both took much longer.
use Rattle.std.specs.Prelude.{ℕ, ◌+◌, Bool, ◌||◌, List, [], ◌++◌, codes, Option, Some, None, if◌then◌else◌}
use Rattle.std.specs.Fmt.{decimal}
use Rattle.slow_answers.specs.Longer.{took_much_longer}
use Rattle.slow_answers.specs.Waited.{waited}
use Rattle.trace_report.specs.Items.{PlacedItemValue, RowMessageValue}
use Rattle.trace_report.specs.Roles.{asked_at}
use Rattle.trace_pair.specs.declared.row_times.RowTimes.{RowTimes}

-- how long a request waited that ended then, if one did, for what began at that time
abbrev pub time_since : Option ℕ → ℕ → Option ℕ
time_since None began = None
time_since (Some asked) began = waited asked began

-- how long a request waited for this answer, if it has one that it waited for
abbrev pub answer_time : Option RowMessageValue → Option ℕ
answer_time None = None
answer_time (Some reply) = time_since (asked_at reply.role) reply.place.first.micros

-- how long an item waited for its answer, if there is one that did
abbrev pub item_time : Option PlacedItemValue → Option ℕ
item_time None = None
item_time (Some item) = answer_time item.answer

-- both times, where both are known
abbrev pub both_times : Option ℕ → Option ℕ → Option RowTimes
both_times (Some left) (Some right) = Some (record { left = left; right = right })
both_times _ _ = None

-- how long these two items of A and B waited for their answers, where both did
abbrev pub row_times : Option PlacedItemValue → Option PlacedItemValue → Option RowTimes
row_times one other = both_times (item_time one) (item_time other)

-- one of both answers took much longer than the other
abbrev pub differ_much : RowTimes → Bool
differ_much times = took_much_longer times.left times.right || took_much_longer times.right times.left

-- the name of a row with such answers, before which so many items of A stand
abbrev pub longer_name : ℕ → List ℕ
longer_name left = codes "t" ++ decimal (left + 1)

-- what the verdict links to in a row, where it has such answers
abbrev pub longer_mark : Option RowTimes → ℕ → List ℕ
longer_mark None left = []
longer_mark (Some times) left = if differ_much times then codes "<span id=\"" ++ longer_name left ++ codes "\"></span>" else []
