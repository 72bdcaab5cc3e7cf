-- What is known of a log for a hint, by what a run over it came to.
use Rattle.std.specs.Prelude.{◌≡◌, ◌⊎◌, ℕ, ◌==◌, ◌&&◌, ◌||◌, nat_lt, Bool, List, length, take, Option, Some, None, Result, Ok, Err, if◌then◌else◌}
use Rattle.trace_log.specs.Settings.{Settings}
use Rattle.trace_log.specs.declared.fault.CompareFault.{CompareFault}
use Rattle.trace_log.specs.declared.fault.CompareFault.TheVariants.{Left, Right}
use Rattle.trace_log.specs.declared.fault.Fault.{Fault}
use Rattle.trace_log.specs.declared.fault.Fault.TheVariants.{BadLine, Oversize, LogLimit, OutputLimit, Read, Write, Memory}
use Rattle.trace_log.specs.declared.summary.Summary.{Summary}
use Rattle.trace_report.specs.Causes.{cause_of}
use Rattle.trace_report.specs.declared.cause.RefusalCause.{RefusalCause}
use Rattle.trace_run.specs.Script.{GlimpseValue}
use Rattle.command_line.specs.declared.commands.Job.{Job}
use Rattle.command_line.specs.declared.commands.Job.TheVariants as job
use Rattle.udsnorm.specs.declared.ended.Known.{Known}
use Rattle.udsnorm.specs.declared.ended.Matter.{Matter}
use Rattle.udsnorm.specs.declared.ended.Matter.TheVariants as matter
use Rattle.udsnorm.specs.declared.ended.Which.{Which}
use Rattle.udsnorm.specs.declared.ended.Which.TheVariants.{First, Second}
use Rattle.command_line.specs.declared.open_faults.OpenFault.{OpenFault}
use Rattle.command_line.specs.declared.open_faults.OpenFault.TheVariants.{Missing, Denied, Other}
use Rattle.udsnorm.specs.declared.pair_jobs.PairAnswer.{PairAnswer}

-- this is known of this log
abbrev pub knows : Which → Matter → Option Known
knows which about = Some (record { which = which; matter = about })

-- it is known why this log is refused, if anything is
abbrev pub knows_cause : Which → Option RefusalCause → Option Known
knows_cause which None = None
knows_cause which (Some cause) = knows which (matter.Refused cause)

-- the bytes by which it is seen what a log looks like: its first sixteen
abbrev pub front_of : List ℕ → List ℕ
front_of given = take 16 given

-- what is seen of a source that gave these bytes and was over or not
abbrev pub seen_of : List ℕ → Bool → GlimpseValue
seen_of given is_over = record { first = front_of given; is_over = is_over }

-- what is known of this log by a fault, whose source gave these bytes and was over or not: the cause
abbrev pub knows_refused : Which → Settings → List ℕ → Bool → Fault → Option Known
knows_refused which settings given is_over fault = knows_cause which (cause_of fault settings.max_bytes (seen_of given is_over))

-- What is known of a log by the fault of a run over it, whose source gave these bytes and was over or not: what it
-- looks like where it is no log, the limit where that is passed, and that the log can't be read, which a folder can't;
-- and else nothing.
abbrev pub IsKnownByFault : Which → Settings → List ℕ → Bool → Fault → Option Known → Type 0
IsKnownByFault which settings given is_over (BadLine line column) known = known ≡ knows_refused which settings given is_over (BadLine line column)
IsKnownByFault which settings given is_over (Oversize line announced) known = known ≡ None
IsKnownByFault which settings given is_over LogLimit known = known ≡ knows_refused which settings given is_over LogLimit
IsKnownByFault which settings given is_over OutputLimit known = known ≡ knows_refused which settings given is_over OutputLimit
IsKnownByFault which settings given is_over Read known = (known ≡ knows which matter.Unread) ⊎ (known ≡ knows which matter.Folder)
IsKnownByFault which settings given is_over Write known = known ≡ None
IsKnownByFault which settings given is_over Memory known = known ≡ None

-- it is known that the log has no pair, where the output took nothing, or that it is empty
abbrev pub knows_no_pair : Summary → List ℕ → Option Known
knows_no_pair summary taken =
    if nat_lt 0 (length taken) then None else if summary.lines == 0 then knows First matter.Empty else knows First matter.NoPair

-- it is known how many frames of an accepted log were dropped, where any was
abbrev pub knows_dropped : ℕ → Option Known
knows_dropped count = if nat_lt 0 count then knows First (matter.Dropped count) else None

-- What is known of this log by its counts: that it has no line, or no frame with one of the identifiers, or that these
-- look exchanged.
abbrev pub known_by_counts : Which → Settings → Summary → Option Known
known_by_counts which settings summary =
    if summary.lines == 0 then knows which matter.Empty
    else if summary.frames == 0 then knows which (matter.Foreign settings.tester settings.unit)
    else if summary.looks_exchanged then knows which (matter.Exchanged settings.tester settings.unit settings.functional)
    else None

-- the one that is known, or else the other
abbrev pub or_else : Option Known → Option Known → Option Known
or_else (Some known) other = Some known
or_else None other = other

-- it is known how many frames were dropped, where the job is not to explain that
abbrev pub knows_dropped_for : Job → ℕ → Option Known
knows_dropped_for (job.Explain notation) count = None
knows_dropped_for other count = knows_dropped count

-- it is known of a log that rules leave nothing of it: each of its messages is left out, and there is one
abbrev pub knows_all_left_out : Summary → Option Known
knows_all_left_out summary =
    if (summary.messages == summary.left_out) && nat_lt 0 summary.left_out then knows First matter.AllLeftOut else None

-- What is known of a log that was accepted, by the job over it, the identifiers, its counts and what the output took:
-- that it has no pair, where the job was to find some; and else what its counts tell, or that rules leave nothing of it, or
-- how many frames were dropped.
abbrev pub known_of_done : Job → Settings → Summary → List ℕ → Option Known
known_of_done (job.Find style) settings summary taken = knows_no_pair summary taken
known_of_done other settings summary taken =
    or_else (known_by_counts First settings summary) (or_else (knows_all_left_out summary) (knows_dropped_for other summary.dropped))

-- it is known of two logs that rules leave nothing of either: each message of both is left out, and there is one
abbrev pub knows_nothing_left : Summary → Summary → Option Known
knows_nothing_left left right =
    if ((left.messages == left.left_out) && (right.messages == right.left_out)) && (nat_lt 0 left.left_out || nat_lt 0 right.left_out)
    then knows First matter.NothingLeft else None

-- what is known of two logs that were accepted: what the counts of the first one tell, or else those of the second one, or
-- else that rules leave nothing of either
abbrev pub known_of_pair : Settings → PairAnswer → Option Known
known_of_pair settings pair =
    or_else (known_by_counts First settings pair.left)
    (or_else (known_by_counts Second settings pair.right) (knows_nothing_left pair.left pair.right))

-- what is known of a log by the outcome of a job over it, whose source gave these bytes and was over or not, and of
-- which the output took this
abbrev pub IsKnownBy : Job → Settings → List ℕ → Bool → Result Summary Fault → List ℕ → Option Known → Type 0
IsKnownBy job settings given is_over (Ok summary) taken known = known ≡ known_of_done job settings summary taken
IsKnownBy job settings given is_over (Err fault) taken known = IsKnownByFault First settings given is_over fault known

-- what is known of one of two logs by an answer of which the text was written: of the one of which a fault is told, by
-- what the sources of both gave and whether they were over, and else by the counts of both
abbrev pub IsKnownByTwo : Settings → List ℕ → Bool → List ℕ → Bool → Option (Result PairAnswer CompareFault) → Option Known → Type 0
IsKnownByTwo settings left left_over right right_over None known = known ≡ None
IsKnownByTwo settings left left_over right right_over (Some (Ok pair)) known = known ≡ known_of_pair settings pair
IsKnownByTwo settings left left_over right right_over (Some (Err (Left fault))) known = IsKnownByFault First settings left left_over fault known
IsKnownByTwo settings left left_over right right_over (Some (Err (Right fault))) known = IsKnownByFault Second settings right right_over fault known

-- it is known of this log why it can't be opened
abbrev pub knows_unopened : Which → OpenFault → Option Known
knows_unopened which Missing = knows which matter.Missing
knows_unopened which Denied = knows which matter.Denied
knows_unopened which Other = knows which matter.Unopened
