-- Devices of proof: what the machine keeps of a log that is kept, and what it answers at its end.
use Rattle.std.specs.Prelude.{◌≡◌, ◌≤◌, ◌^◌, false, List, [], length, Ok, Err, ⊤}
use Rattle.isotp_receive.specs.declared.TheConstants.{MESSAGE_LIMIT}
use Rattle.isotp_receive.specs.Trace.{Entry}
use Rattle.isotp_receive.specs.Verdict.{messages}
use Rattle.uds_rules.specs.Rule.{RuleValue}
use Rattle.trace_run.specs.Script.{Script, Command, Answering, command, says_no_refusal}
use Rattle.trace_run.specs.declared.machine.NoAnswer.TheVariants.{OutputLimit}
use Rattle.trace_log.specs.declared.summary.Summary.{Summary}
use Rattle.trace_report.specs.Events.{end_rows, rows_of}
use Rattle.trace_report.specs.declared.keeper.Heard.{Heard}
use Rattle.trace_report.specs.declared.keeper.Keeper.{Keeper}
use Rattle.trace_run.specs.Spoken.{spoken_counts}
use Rattle.trace_report.specs.proving.Following.{Follows, rows_in, times_of}

-- the script that says nothing
abbrev pub quiet_script : Script
quiet_script = record { strict = false; of_frame = λ T e. []; at_the_end = λ T summary. [] }

-- the rows of the frames T are kept, and of how many of their messages each of these rules spoke
pub record Keeps (rules : List RuleValue) (T : List Entry) (keeper : Keeper) : Type 0 where
  pub few : length T ≤ 2 ^ 62
  pub times : keeper.times ≡ times_of T
  pub follows : Follows rules T keeper.follower
  pub rows : keeper.rows ≡ rows_of MESSAGE_LIMIT rules T
  pub ruled : keeper.rules.now ≡ rules
  pub spoken : keeper.spoken.items ≡ spoken_counts rules (messages MESSAGE_LIMIT T)

-- this was heard of a log that means this trace and has these counts
pub record IsHeardOf (rules : List RuleValue) (T : List Entry) (summary : Summary) (heard : Heard) : Type 0 where
  pub rows : heard.rows ≡ rows_of MESSAGE_LIMIT rules T
  pub last : rows_in heard.last ≡ end_rows MESSAGE_LIMIT rules T
  pub counted : heard.summary ≡ summary
  pub times : heard.times ≡ times_of T
  pub spoken : heard.spoken.items ≡ spoken_counts rules (messages MESSAGE_LIMIT T)

-- what was heard is answered, and no fault of what is written
abbrev pub answers_heard : List RuleValue → Answering Heard
answers_heard rules T summary (Ok heard) = IsHeardOf rules T summary heard
answers_heard rules T summary (Err OutputLimit) = ⊥

-- the command of this script and these answers: it says nothing of a refusal either, and may need memory for any frame
abbrev pub quiet_command : List RuleValue → Command Heard
quiet_command rules = command quiet_script says_no_refusal (answers_heard rules) (λ T e. ⊤)
