-- What a log says, kept as a whole.
use Rattle.std.specs.Prelude.{ℕ, List}
use Rattle.isotp_receive.specs.Trace.{Entry}
use Rattle.isotp_receive.specs.Verdict.{messages}
use Rattle.uds_rules.specs.Rule.{RuleValue}
use Rattle.trace_log.specs.declared.summary.Summary.{Summary}
use Rattle.trace_report.specs.Page.{all_rows, first_time, last_time}
use Rattle.trace_report.specs.Rows.{RowValue}
use Rattle.trace_run.specs.Spoken.{spoken_counts}

-- What a log says: its rows, its counts, the times of its first frame and of its last one, the rules that it is under,
-- and of how many of its messages each spoke.
pub record SessionValue : Type 0 where
  pub rows : List RowValue
  pub summary : Summary
  pub first : ℕ
  pub last : ℕ
  pub rules : List RuleValue
  pub spoken : List ℕ

-- what a log says under rules that means this trace and has these counts
abbrev pub session_of : ℕ → List RuleValue → List Entry → Summary → SessionValue
session_of limit rules T summary = record {
  rows = all_rows limit rules T;
  summary = summary;
  first = first_time T;
  last = last_time 0 T;
  rules = rules;
  spoken = spoken_counts rules (messages limit T);
}
