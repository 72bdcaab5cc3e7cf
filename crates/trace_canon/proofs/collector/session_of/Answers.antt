-- A run of a machine that says nothing answers the session, and never fails to write.
use Rattle.std.proofs.Common.{List, [], ap, refl, ◌∙◌}
use Rattle.isotp_receive.specs.declared.TheConstants.{MESSAGE_LIMIT}
use Rattle.uds_rules.specs.Rule.{RuleValue}
use Rattle.trace_run.specs.Spoken.{spoken_counts}
use Rattle.trace_canon.specs.FirstFrames.{CompletesMessage}
use Rattle.trace_canon.specs.proving.SessionScript.{answers_session, silent_script}
use Rattle.trace_canon.proofs.Collecting.{collects_start}
use Rattle.trace_run.proofs.Promises.{never_write}
use Rattle.trace_canon.proofs.SessionScripts.{session_is_the_same, silent_says_nothing}
use Rattle.trace_log.proofs.Promises.{given_agrees}
use Rattle.trace_canon.proofs.collector.session_of.Goals as goal

pub run-requires-clause-machine : goal.run-requires-clause-machine
run-requires-clause-machine g c = record {
  collects = collects_start c.args.config.now c.new.result c.max_bytes.result c.new.ensures c.max_bytes.ensures.value;
  ruled = refl;
  counted = c.no_counts.ensures ∙ ap (λ (l : List RuleValue). spoken_counts l []) c.rules.ensures;
}

pub returns : goal.returns
returns g c =
    let settings = c.args.config.now in
    let ran = c.run.ensures.ran in
    let bytes = ran.read.gave.bytes in
    record {
      ran = record {
        answer = λ log agrees. session_is_the_same settings log _ c.run.result _ _ (ran.answer log agrees);
        way = record { near = ran.near; memory = ran.memory; read = ran.read };
        never_write =
            never_write silent_script silent_says_nothing (answers_session settings.rules settings) (CompletesMessage MESSAGE_LIMIT)
            MESSAGE_LIMIT settings bytes _ _ _ c.run.result (ran.answer bytes (given_agrees ran.read.gave));
      };
      configured = ran.configured;
    }
