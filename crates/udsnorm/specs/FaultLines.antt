-- What is told of each fault, as bytes.
use Rattle.std.specs.Prelude.{ℕ, ◌==◌, not, Bool, List, [], ◌++◌, codes, Result, Ok, Err, if◌then◌else◌}
use Rattle.std.specs.Fmt.{decimal}
use Rattle.trace_log.specs.declared.fault.CompareFault.{CompareFault}
use Rattle.trace_log.specs.declared.fault.CompareFault.TheVariants.{Left, Right}
use Rattle.trace_log.specs.declared.fault.Fault.{Fault}
use Rattle.trace_log.specs.declared.fault.Fault.TheVariants as fault
use Rattle.trace_log.specs.declared.summary.Summary.{Summary}
use Rattle.trace_log.specs.Summing.{is_clean, lacks_line_feed}
use Rattle.udsnorm.specs.Ending.{has_unclean, is_unclean}
use Rattle.udsnorm.specs.declared.pair_jobs.PairAnswer.{PairAnswer}

-- the line of a fault
abbrev pub fault_line : Fault → List ℕ
fault_line (fault.BadLine line column) = codes "line " ++ decimal line ++ codes " column " ++ decimal column ++ codes ": not a log line\n"
fault_line (fault.Oversize line announced) =
    codes "line " ++ decimal line ++ codes ": " ++ decimal announced ++ codes " bytes announced, the limit is 1048575\n"
fault_line fault.LogLimit = codes "log longer than the limit\n"
fault_line fault.OutputLimit = codes "canonical log longer than the limit\n"
fault_line fault.Read = codes "read failed\n"
fault_line fault.Write = codes "write failed\n"
fault_line fault.Memory = codes "out of memory\n"

-- the line of a fault of one of two logs, which names the log
abbrev pub side_line : CompareFault → List ℕ
side_line (Left fault) = codes "left: " ++ fault_line fault
side_line (Right fault) = codes "right: " ++ fault_line fault

-- the line of two logs that are one stream
abbrev pub one_stream_line : List ℕ
one_stream_line = codes "both logs are the same stream\n"

-- a clause of a line, where it is so
abbrev pub clause : Bool → List ℕ → List ℕ
clause holds text = if holds then text else []

-- the line of a log that is not clean: what was lost of its frames, and what it lacks
abbrev pub unclean_line : Summary → List ℕ
unclean_line s =
    codes "not clean: frames " ++ (decimal s.frames ++ (codes " dropped " ++ (decimal s.dropped ++ (codes " ended " ++ (decimal s.ended ++ (codes " unfinished " ++ (decimal s.unfinished
    ++ (clause (s.tester_frames == 0) (codes ", no frame of the tester") ++ (clause (s.unit_frames == 0) (codes ", no frame of the unit")
    ++ (clause (lacks_line_feed s) (codes ", no line feed at the end") ++ codes "\n"))))))))))

-- the line of one of two logs, where that is not clean, which names the log
abbrev pub unclean_side : List ℕ → Summary → List ℕ
unclean_side log summary = clause (not (is_clean summary)) (log ++ unclean_line summary)

-- those of both
abbrev pub unclean_sides : PairAnswer → List ℕ
unclean_sides pair = unclean_side (codes "left: ") pair.left ++ unclean_side (codes "right: ") pair.right

-- What the error output takes of a run over one log that comes to this: the line of the fault, or that of a log which has
-- to be clean and is not, and else nothing.
abbrev pub run_text : Bool → Result Summary Fault → List ℕ
run_text strict (Ok summary) = if is_unclean strict summary then unclean_line summary else []
run_text strict (Err fault) = fault_line fault

-- What it takes of an answer about two logs: the line of the fault, or those of the logs that have to be clean and are
-- not, and else nothing.
abbrev pub pair_text : Bool → Result PairAnswer CompareFault → List ℕ
pair_text strict (Ok pair) = clause (has_unclean strict pair) (unclean_sides pair)
pair_text strict (Err fault) = side_line fault

-- what it takes of a run over two logs: that, or the line of the output where its text was not written and flushed
abbrev pub run_two_text : Bool → Bool → Result PairAnswer CompareFault → List ℕ
run_two_text wrote strict answer = if wrote then pair_text strict answer else fault_line fault.Write
