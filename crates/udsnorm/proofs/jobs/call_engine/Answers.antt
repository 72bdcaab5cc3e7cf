use Rattle.std.proofs.Common.{◌-◌, ℕ, List, length, subst}
use Rattle.isotp_receive.specs.declared.TheConstants.{MESSAGE_LIMIT}
use Rattle.trace_run.specs.Script.{answers_counts, command, needs_none, glimpse_of}
use Rattle.trace_run.specs.AnswersAndWrites.{AnswersAndWrites, WritesSaidEagerly}
use Rattle.trace_report.specs.Front.{page_title}
use Rattle.trace_report.specs.Page.{refused_text, report_script}
use Rattle.udsnorm.proofs.jobs.call_engine.Goals as goal

pub returns-in-Normalise : goal.returns-in-Normalise
returns-in-Normalise g c =
    let ran = c.normalise.ensures in
    record {
      ran = rw c.in-Normalise.is (record {
        answer = ran.answer;
        eager = ran.eager;
        memory = ran.way.memory;
        near = ran.way.near;
        read = ran.way.read;
        wrote = ran.wrote;
      });
    }

pub returns-in-List : goal.returns-in-List
returns-in-List g c = record { ran = rw c.in-List.is c.list.ensures.ran }

pub returns-in-Watch : goal.returns-in-Watch
returns-in-Watch g c = record { ran = rw c.in-Watch.is c.watch.ensures.ran }

pub returns-in-Explain : goal.returns-in-Explain
returns-in-Explain g c = record { ran = rw c.in-Explain.is c.explain.ensures.ran }

pub returns-in-Messages : goal.returns-in-Messages
returns-in-Messages g c = record { ran = rw c.in-Messages.is c.messages.ensures.ran }

pub returns-in-Report : goal.returns-in-Report
returns-in-Report g c =
    let settings = c.args.config.now in
    let seen = glimpse_of g.R.Source c.report.new.source in
    let ran = c.report.ensures.ran.run in
    record {
      ran = rw c.in-Report.is (record {
        answer = λ log agrees. (
          c.report_style.result.now,
          subst (λ (name : List ℕ). AnswersAndWrites
              (command (report_script (page_title c.report_style.result.now name settings) MESSAGE_LIMIT settings.rules)
              (refused_text (page_title c.report_style.result.now name settings) MESSAGE_LIMIT settings.rules seen) answers_counts needs_none)
              MESSAGE_LIMIT settings log (length (g.R.Source.given c.report.new.source) - length (g.R.Source.given c.args.input.now))
              c.report.result (g.W.Target.taken c.args.out.now) (g.W.Target.taken c.report.new.target))
              c.as_bytes.ensures.value
              (ran.answer log agrees),
        );
        eager = λ log agrees. (
          c.report_style.result.now,
          subst (λ (name : List ℕ). WritesSaidEagerly
              (report_script (page_title c.report_style.result.now name settings) MESSAGE_LIMIT settings.rules)
              MESSAGE_LIMIT settings log (length (g.R.Source.given c.report.new.source) - length (g.R.Source.given c.args.input.now))
              (g.W.Target.taken c.args.out.now) (g.W.Target.taken c.report.new.target))
              c.as_bytes.ensures.value
              (ran.eager log agrees),
        );
        memory = c.report.ensures.ran.memory (λ T e none. none);
        near = ran.near;
        read = ran.read;
        wrote = ran.wrote;
      });
    }

pub returns-in-Find : goal.returns-in-Find
returns-in-Find g c = record { ran = rw c.in-Find.is c.find.ensures.ran }
