use Rattle.std.proofs.Common.{◌≤◌, ◌+◌, ap, ◌∙◌, sym, subst}
use Rattle.udsnorm.specs.Ending.{EndsAs, flushes}
use Rattle.udsnorm.proofs.Certificates.{answer_certifies}
use Rattle.udsnorm.proofs.Statuses.{comes_to, done_once, failed_once, flushed_at_most_once, flushed_once_then, is_flushed_then, memory_of_five, not_flushed_then, recorded_then, took_still}
use Rattle.trace_run.specs.Script.{glimpse_of}
use Rattle.udsnorm.proofs.run.run_one.Goals as goal

pub returns-clause-ran : goal.returns-clause-ran
returns-clause-ran g c =
    let kept = c.flushed_one-outcome.ensures.taken in
    let answer = c.do_job-answer.result in
    let outcome = c.flushed_one-outcome.result in
    let taken = g.W.Target.taken c.flushed_one-outcome.new.out in
    let first = g.W.Target.failures c.args.out.now in
    let old = g.W.Target.failures c.do_job-answer.new.out in
    let new = g.W.Target.failures c.flushed_one-outcome.new.out in
    let is_flushed = g.W.Target.is_flushed c.flushed_one-outcome.new.out in
    let wrote = c.do_job-answer.ensures.ran.wrote in
    let times = g.W.Target.flushes c.do_job-answer.new.out in
    let times_now = g.W.Target.flushes c.flushed_one-outcome.new.out in
    let ends = subst (λ t. EndsAs (flushes answer t) answer old new times times_now is_flushed outcome) (sym kept) c.flushed_one-outcome.ensures.ends in
    record {
      answer = answer;
      engine = λ log agrees. rw kept (c.do_job-answer.ensures.ran.answer log agrees);
      eager = λ log agrees. rw kept (c.do_job-answer.ensures.ran.eager log agrees);
      memory = λ log agrees five. c.do_job-answer.ensures.ran.memory log agrees
          (memory_of_five c.args.strict (flushes answer taken) answer outcome c.tell_outcome.result (comes_to (flushes answer taken) answer outcome old new times times_now is_flushed ends) c.tell_outcome.ensures.status five);
      near = c.do_job-answer.ensures.ran.near;
      read = c.do_job-answer.ensures.ran.read;
      comes = comes_to (flushes answer taken) answer outcome old new times times_now is_flushed ends;
      status_is = c.tell_outcome.ensures.status;
      flushed = is_flushed_then (flushes answer taken) answer outcome old new times times_now is_flushed ends;
      flushed_once = λ due well. flushed_once_then (flushes answer taken) answer outcome old new times times_now is_flushed ends due well ∙ ap (λ n. n + 1) wrote.flushes;
      not_flushed = λ none. not_flushed_then answer outcome taken old new times times_now is_flushed ends none ∙ wrote.flushes;
      failed = failed_once answer outcome taken first old new times times_now is_flushed wrote.failed ends;
      took = took_still _ _ _ _ _ _ wrote.took kept c.flushed_one-outcome.ensures.told;
      no_empty_write = c.flushed_one-outcome.ensures.no_empty_write ∙ wrote.no_empty_write;
      told = c.tell_outcome.ensures.told;
    }

pub returns-clause-recording : goal.returns-clause-recording
returns-clause-recording g c = λ strict zero log agrees.
    let W = g.W.Target in
    let out = c.do_job-answer.new.out in
    let now = c.flushed_one-outcome.new.out in
    let answer = c.do_job-answer.result in
    let outcome = c.flushed_one-outcome.result in
    let due = flushes answer (W.taken out) in
    recorded_then c.args.strict due answer outcome c.tell_outcome.result _ _ log
    (comes_to due answer outcome (W.failures out) (W.failures now) (W.flushes out) (W.flushes now) (W.is_flushed now) c.flushed_one-outcome.ensures.ends)
    c.tell_outcome.ensures.status zero strict (answer_certifies c.args.job c.args.name.now (glimpse_of g.R.Source c.do_job-answer.new.input) _ log _ answer _ _ (c.do_job-answer.ensures.ran.answer log agrees))

pub returns-clause-once : goal.returns-clause-once
returns-clause-once g c = λ zero.
    let W = g.W.Target in
    let out = c.do_job-answer.new.out in
    let now = c.flushed_one-outcome.new.out in
    done_once c.args.strict c.do_job-answer.result c.flushed_one-outcome.result (W.taken out) (W.failures out) (W.failures now) (W.flushes out) (W.flushes now) (W.is_flushed now) c.tell_outcome.result
    c.flushed_one-outcome.ensures.ends c.tell_outcome.ensures.status zero ∙ ap (λ n. n + 1) c.do_job-answer.ensures.ran.wrote.flushes

pub returns-clause-flushes : goal.returns-clause-flushes
returns-clause-flushes g c =
    let W = g.W.Target in
    let out = c.do_job-answer.new.out in
    let now = c.flushed_one-outcome.new.out in
    subst (λ n. W.flushes now ≤ n + 1) c.do_job-answer.ensures.ran.wrote.flushes
    (flushed_at_most_once (flushes c.do_job-answer.result (W.taken out)) c.do_job-answer.result c.flushed_one-outcome.result (W.failures out) (W.failures now) (W.flushes out) (W.flushes now) (W.is_flushed now)
    c.flushed_one-outcome.ensures.ends)
