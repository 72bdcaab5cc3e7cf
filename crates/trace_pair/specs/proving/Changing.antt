-- Devices of proof: what a change adds to a text and to a count, where one begins with a row.
use Rattle.std.specs.Prelude.{ℕ, ◌+◌, ◌-◌, ◌==◌, Bool, false, ◌||◌, List, [], ◌++◌, Option, Some, None, if◌then◌else◌}
use Rattle.uds_exchange.specs.Meaning.{ItemValue}
use Rattle.shown_rows.specs.declared.changes.Change.{Change}
use Rattle.trace_report.specs.Session.{SessionValue}
use Rattle.pair_words.specs.declared.log.PairLog.{PairLog}
use Rattle.pair_words.specs.declared.log.PairLog.TheVariants.{A, B}
use Rattle.trace_pair.specs.Differences.{difference_line, more_start, open_differences}
use Rattle.trace_pair.specs.Verdict.{is_exchange, is_lossy}

-- how many changes there are: one, or none
abbrev pub count_if : Option Change → ℕ
count_if None = 0
count_if (Some here) = 1

-- the line of a change in a list of so many, and what begins before it
abbrev pub line_if : SessionValue → SessionValue → ℕ → ℕ → Option Change → List ℕ
line_if left right listed number None = []
line_if left right listed number (Some here) = (if number == open_differences + 1 then more_start (listed - open_differences) else []) ++ difference_line left right number here

-- at how many changes a log is not clean: at one, or at none
abbrev pub lossy_if : SessionValue → SessionValue → Option Change → ℕ
lossy_if left right None = 0
lossy_if left right (Some here) = if is_lossy A left here || is_lossy B right here then 1 else 0

-- there is a change, and the log is not clean at it
abbrev pub is_lossy_if : PairLog → SessionValue → Option Change → Bool
is_lossy_if log session None = false
is_lossy_if log session (Some here) = is_lossy log session here

-- the item at a place is an exchange, if there is one
abbrev pub asks_if : Option ItemValue → Bool
asks_if None = false
asks_if (Some item) = is_exchange item
