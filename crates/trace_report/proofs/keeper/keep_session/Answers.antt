-- What was heard of a log is its session; else why it can't be read, or that memory was refused.
use Rattle.std.proofs.Common.{◌≡◌, List, [], Err, ap, arith, refl, subst, ◌∙◌}
use Rattle.trace_run.proofs.Promises.{never_write}
use Rattle.trace_log.proofs.Promises.{given_agrees}
use Rattle.isotp_receive.specs.declared.TheConstants.{MESSAGE_LIMIT}
use Rattle.isotp_receive.specs.Trace.{Entry}
use Rattle.uds_rules.specs.Rule.{RuleValue}
use Rattle.trace_log.specs.declared.summary.Summary.{Summary}
use Rattle.trace_run.specs.Spoken.{spoken_counts}
use Rattle.trace_report.specs.Session.{session_of}
use Rattle.trace_log.specs.declared.fault.Fault.{Fault}
use Rattle.trace_report.specs.proving.Heard.{IsHeardOf, answers_heard, quiet_command, quiet_script}
use Rattle.trace_report.proofs.HowKept.{fault_of, has_own_where_kept, has_own_where_needed, quiet_says_nothing, read_so, unread_so}
use Rattle.trace_report.proofs.keeper.keep_session.Goals as goal

pub returns-in-Ok-finished-clause-answer : goal.returns-in-Ok-finished-clause-answer
returns-in-Ok-finished-clause-answer g c = λ log agrees.
    read_so c.args.config.now log _ [] [] c.in-Ok.heard c.in-Ok-finished.session
    (subst (λ (l : List RuleValue). (T : List Entry) (summary : Summary) → IsHeardOf l T summary c.in-Ok.heard
    → c.in-Ok-finished.session ≡ session_of MESSAGE_LIMIT l T summary) c.rules-rules.ensures c.in-Ok-finished.ensures.session) (c.in-Ok.ensures.ran.answer log agrees)

pub returns-in-Err-clause-answer : goal.returns-in-Err-clause-answer
returns-in-Err-clause-answer g c = λ log agrees. unread_so c.args.config.now log _ [] [] c.in-Err.fault (c.in-Err.ensures.ran.answer log agrees)

pub returns-in-Err-clause-never_write : goal.returns-in-Err-clause-never_write
returns-in-Err-clause-never_write g c =
    let ran = c.in-Err.ensures.ran in
    let gave = ran.read.gave in
    never_write quiet_script quiet_says_nothing (answers_heard c.args.config.now.rules) (quiet_command c.args.config.now.rules).needs
    MESSAGE_LIMIT c.args.config.now gave.bytes _ [] [] (Err c.in-Err.fault) (ran.answer gave.bytes (given_agrees gave))

pub returns-in-Err-clause-memory : goal.returns-in-Err-clause-memory
returns-in-Err-clause-memory g c = λ log agrees refused.
    has_own_where_needed _ c.args.config.now log (c.in-Err.ensures.ran.memory log agrees (ap (λ (why : Fault). Err why) (ap fault_of refused)))

pub returns-in-Err-finished-clause-memory : goal.returns-in-Err-finished-clause-memory
returns-in-Err-finished-clause-memory g c = λ log agrees refused.
    has_own_where_kept c.args.config.now log _ [] [] c.in-Ok.heard c.in-Err-finished.ensures.refused (c.in-Ok.ensures.ran.answer log agrees)

pub run-requires-clause-machine : goal.run-requires-clause-machine
run-requires-clause-machine g c = record {
  few = omega arith;
  times = refl;
  follows = c.start.ensures c.args.config.now.rules;
  rows = c.new.ensures;
  ruled = c.rules-rules.ensures;
  spoken = c.no_counts.ensures ∙ ap (λ (l : List RuleValue). spoken_counts l []) c.rules-rules.ensures;
}
