-- The sorts of rows: what the verdict of a report counts, and where its links lead.
use Rattle.std.specs.Prelude.{ℕ, ◌==◌, ◌&&◌, not, Bool, true, false, List, [], ◌∷◌, length, take, if◌then◌else◌}
use Rattle.std.specs.List.{flat_map}
use Rattle.arrayvec.specs.ArrayVec.{ArrayVec}
use Rattle.trace_report.specs.Rows.{RowValue, message, no_answer, dropped, ended, unfinished}
use Rattle.trace_report.specs.declared.tally.SortCounts.{SortCounts}
use Rattle.trace_report.specs.declared.roles.MessageRole.{MessageRole}
use Rattle.trace_report.specs.declared.roles.MessageRole.TheVariants as role
use Rattle.trace_report.specs.declared.row.Silence.{Silence}
use Rattle.trace_report.specs.declared.row.Silence.TheVariants.{Suppressed, ToAllUnits, Unanswered}
use Rattle.trace_report.specs.declared.sorts.Sort.{Sort}
use Rattle.trace_report.specs.declared.sorts.Sort.TheVariants as sort
use Rattle.trace_report.specs.declared.tally.FirstTargets.{FirstTargets}
use Rattle.trace_report.specs.declared.tally.Tally.{Tally}
use Rattle.trace_report.specs.declared.targets.LinkTarget.{LinkTarget}
use Rattle.trace_report.specs.declared.targets.LinkTarget.TheVariants as target

-- the sort of the row of a message of this role
abbrev pub sort_of_role : MessageRole → Sort
sort_of_role role.Request = sort.Requests
sort_of_role (role.Positive asked) = sort.Positives
sort_of_role (role.Negative asked) = sort.Negatives
sort_of_role (role.Pending asked) = sort.Pendings
sort_of_role role.KeepAlive = sort.KeepAlives
sort_of_role role.Stray = sort.Strays

-- rows of this sort need attention: a page links to the first of them, and its filter hides each exchange without one
abbrev pub needs_attention : Sort → Bool
needs_attention sort.Requests = false
needs_attention sort.Positives = false
needs_attention sort.Negatives = true
needs_attention sort.Pendings = false
needs_attention sort.KeepAlives = false
needs_attention sort.Strays = true
needs_attention sort.Unanswered = true
needs_attention sort.ToAllUnits = false
needs_attention sort.Silent = false
needs_attention sort.Dropped = true
needs_attention sort.Ended = true
needs_attention sort.Unfinished = true

-- a message of this role needs attention
abbrev pub message_needs_attention : MessageRole → Bool
message_needs_attention is = needs_attention (sort_of_role is)

-- the sort of the row of an item without an answer
abbrev pub sort_of_silence : Silence → Sort
sort_of_silence Suppressed = sort.Silent
sort_of_silence ToAllUnits = sort.ToAllUnits
sort_of_silence Unanswered = sort.Unanswered

-- the row of an item without an answer needs attention, where this is why it has none
abbrev pub silence_needs_attention : Silence → Bool
silence_needs_attention silence = needs_attention (sort_of_silence silence)

-- the sort of a row
abbrev pub sort_of : RowValue → Sort
sort_of (message is d place bytes) = sort_of_role is
sort_of (no_answer number silence) = sort_of_silence silence
sort_of (dropped place d linked why) = sort.Dropped
sort_of (ended place end) = sort.Ended
sort_of (unfinished d line len) = sort.Unfinished

-- the number of a sort, by which two are told apart
abbrev pub rank : Sort → ℕ
rank sort.Requests = 0
rank sort.Positives = 1
rank sort.Negatives = 2
rank sort.Pendings = 3
rank sort.KeepAlives = 4
rank sort.Strays = 5
rank sort.Unanswered = 6
rank sort.Silent = 7
rank sort.Dropped = 8
rank sort.Ended = 9
rank sort.Unfinished = 10
rank sort.ToAllUnits = 11

-- the row is of this sort
abbrev pub is_of : Sort → RowValue → Bool
is_of kind row = rank kind == rank (sort_of row)

-- where a link to a row leads: to its item or to its line, or to what stands of its side
abbrev pub target_of : RowValue → LinkTarget
target_of (message is d place bytes) = target.Item place.item
target_of (no_answer number silence) = target.Item number
target_of (dropped place d linked why) = target.Line place.line
target_of (ended place end) = target.Line place.line
target_of (unfinished d line len) = target.Side d

-- the places to which links to the rows of a sort lead, in order
abbrev pub targets_of : Sort → List RowValue → List LinkTarget
targets_of kind rows = flat_map (λ row. if is_of kind row then target_of row ∷ [] else []) rows

-- how many of these rows are of this sort
abbrev pub count_of : Sort → List RowValue → ℕ
count_of kind rows = length (targets_of kind rows)

-- so many rows of a sort are linked to at the most
abbrev pub most_links : ℕ
most_links = 10

-- the places to which links lead to the first rows of a sort
abbrev pub first_of : Sort → List RowValue → ArrayVec LinkTarget
first_of kind rows = record { items = take most_links (targets_of kind rows) }

-- how many rows there are of each sort
abbrev pub counts_in : List RowValue → SortCounts
counts_in rows = record {
  requests = count_of sort.Requests rows;
  positives = count_of sort.Positives rows;
  negatives = count_of sort.Negatives rows;
  unanswered = count_of sort.Unanswered rows;
  to_all_units = count_of sort.ToAllUnits rows;
  silent = count_of sort.Silent rows;
  pendings = count_of sort.Pendings rows;
  keep_alives = count_of sort.KeepAlives rows;
  strays = count_of sort.Strays rows;
  dropped = count_of sort.Dropped rows;
  ended = count_of sort.Ended rows;
  unfinished = count_of sort.Unfinished rows;
}

-- the rows tell an answer, by how many there are of each sort
abbrev pub has_answers : SortCounts → Bool
has_answers counts = not (counts.positives == 0 && counts.negatives == 0)

-- of each sort that needs attention the places to which links to its first rows lead
abbrev pub first_targets : List RowValue → FirstTargets
first_targets rows = record {
  dropped = first_of sort.Dropped rows;
  ended = first_of sort.Ended rows;
  unfinished = first_of sort.Unfinished rows;
  negatives = first_of sort.Negatives rows;
  unanswered = first_of sort.Unanswered rows;
  strays = first_of sort.Strays rows;
}

-- all that the verdict of a report has of its rows: how many there are of each sort, and where links to the first of
-- them lead
abbrev pub tally_of : List RowValue → Tally
tally_of rows = record { counts = counts_in rows; first = first_targets rows }
