use Rattle.std.proofs.Common.{ap, ◌∙◌, ◌+◌, ◌≤◌, subst}
use Rattle.udsnorm.proofs.Certificates.{both_certified}
use Rattle.udsnorm.proofs.Pairs.{accepted_pair, at_most_once, device_of_pair, flushed_then, has_text_then, left_alone_then, not_flushed_then, wrote_and_flushed}
use Rattle.trace_run.specs.Script.{glimpse_of}
use Rattle.udsnorm.proofs.run.run_two.Goals as goal

pub returns-clause-ran : goal.returns-clause-ran
returns-clause-ran g c =
    let target = g.W.Target in
    let done = c.do_pair_job-done in
    let ended = c.flush_written-wrote.ensures in
    record {
      answer = done.result.answer;
      text = done.ensures.engine.0;
      engine = done.ensures.engine.1;
      unread = done.ensures.unread;
      left_memory = done.ensures.left_memory;
      right_memory = done.ensures.right_memory;
      left_near = done.ensures.left_near;
      right_near = done.ensures.right_near;
      left_read = done.ensures.left_read;
      right_read = done.ensures.right_read;
      wrote = c.flush_written-wrote.result;
      output_is = wrote_and_flushed target done.ensures.engine.0 c.has_text-due.result done.result.wrote c.flush_written-wrote.result c.args.out.now done.new.out c.flush_written-wrote.new.out done.ensures.engine.2 ended;
      flushed = λ due well. (flushed_then target c.has_text-due.result done.result.wrote c.flush_written-wrote.result done.new.out c.flush_written-wrote.new.out ended (c.has_text-due.ensures ∙ due) well).0;
      flushed_once = λ due well. (flushed_then target c.has_text-due.result done.result.wrote c.flush_written-wrote.result done.new.out c.flush_written-wrote.new.out ended (c.has_text-due.ensures ∙ due) well).1
          ∙ ap (λ n. n + 1) done.ensures.flushes;
      not_flushed = λ failed. not_flushed_then target c.has_text-due.result done.result.wrote c.flush_written-wrote.result done.new.out c.flush_written-wrote.new.out ended failed ∙ done.ensures.flushes;
      left_alone = λ none. left_alone_then target c.has_text-due.result done.result.wrote c.flush_written-wrote.result c.args.out.now done.new.out c.flush_written-wrote.new.out ended (c.has_text-due.ensures ∙ none)
          (done.ensures.left_alone none);
      status_is = c.tell_pair.ensures.status;
      written_is = c.answer_written.ensures;
      told = c.tell_pair.ensures.told;
    }

pub returns-clause-flushed : goal.returns-clause-flushed
returns-clause-flushed g c = λ low.
    let text = has_text_then c.args.job c.args.strict c.flush_written-wrote.result c.do_pair_job-done.result.answer c.tell_pair.result c.tell_pair.ensures.status low in
    let well = accepted_pair c.args.strict c.flush_written-wrote.result c.do_pair_job-done.result.answer c.tell_pair.result c.tell_pair.ensures.status low in
    (flushed_then g.W.Target c.has_text-due.result c.do_pair_job-done.result.wrote c.flush_written-wrote.result c.do_pair_job-done.new.out c.flush_written-wrote.new.out c.flush_written-wrote.ensures
    (c.has_text-due.ensures ∙ text) well.1).0

pub returns-clause-once : goal.returns-clause-once
returns-clause-once g c = λ low.
    let text = has_text_then c.args.job c.args.strict c.flush_written-wrote.result c.do_pair_job-done.result.answer c.tell_pair.result c.tell_pair.ensures.status low in
    let well = accepted_pair c.args.strict c.flush_written-wrote.result c.do_pair_job-done.result.answer c.tell_pair.result c.tell_pair.ensures.status low in
    (flushed_then g.W.Target c.has_text-due.result c.do_pair_job-done.result.wrote c.flush_written-wrote.result c.do_pair_job-done.new.out c.flush_written-wrote.new.out c.flush_written-wrote.ensures
    (c.has_text-due.ensures ∙ text) well.1).1
    ∙ ap (λ n. n + 1) c.do_pair_job-done.ensures.flushes

pub returns-clause-flushes : goal.returns-clause-flushes
returns-clause-flushes g c =
    let W = g.W.Target in
    subst (λ n. W.flushes c.flush_written-wrote.new.out ≤ n + 1) c.do_pair_job-done.ensures.flushes
    (at_most_once W c.has_text-due.result c.do_pair_job-done.result.wrote c.flush_written-wrote.result c.do_pair_job-done.new.out c.flush_written-wrote.new.out c.flush_written-wrote.ensures)

pub returns-clause-recording : goal.returns-clause-recording
returns-clause-recording g c = λ so low one other agrees_one agrees_other.
    both_certified c.args.job c.args.left_name.now c.args.right_name.now (glimpse_of g.A.Source c.do_pair_job-done.new.left) (glimpse_of g.B.Source c.do_pair_job-done.new.right) c.args.strict c.flush_written-wrote.result _ one other c.do_pair_job-done.result.answer c.do_pair_job-done.ensures.engine.0 c.tell_pair.result
    (c.do_pair_job-done.ensures.engine.1 one other agrees_one agrees_other) c.tell_pair.ensures.status so low

pub returns-clause-device : goal.returns-clause-device
returns-clause-device g c =
    let done = c.do_pair_job-done in
    device_of_pair c.args.strict c.flush_written-wrote.result done.result.answer c.tell_pair.result _ _ _ _ _ _ done.ensures.left_read.failed done.ensures.right_read.failed
    (wrote_and_flushed g.W.Target done.ensures.engine.0 c.has_text-due.result done.result.wrote c.flush_written-wrote.result c.args.out.now done.new.out c.flush_written-wrote.new.out done.ensures.engine.2
    c.flush_written-wrote.ensures).failures
    done.ensures.never_write c.tell_pair.ensures.status
