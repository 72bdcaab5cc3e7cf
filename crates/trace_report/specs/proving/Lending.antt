-- Devices of proof: what the code lends of a session, without where its bytes lie in memory.
use Rattle.std.specs.Prelude.{ℕ, Option, Some, None}
use Rattle.trace_report.specs.Verdict.{FindingsValue}
use Rattle.trace_report.specs.declared.times.Times.{Times}
use Rattle.trace_report.specs.declared.verdict.Findings.{Findings}

-- the time of the first frame; 0 where there is no frame
abbrev pub first_of_times : Option Times → ℕ
first_of_times None = 0
first_of_times (Some times) = times.first

-- the time of the last frame; 0 where there is no frame
abbrev pub last_of_times : Option Times → ℕ
last_of_times None = 0
last_of_times (Some times) = times.last

-- what was found of a log, as it is
abbrev pub findings_value : Findings → FindingsValue
findings_value found = record {
  rules = found.rules.now;
  spoken = found.spoken.now;
  tally = found.tally.now;
  summary = found.summary.now;
  first = first_of_times found.times;
  last = last_of_times found.times;
  slowest = found.slowest.now;
  others = found.others.now;
}
