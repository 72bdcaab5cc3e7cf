-- The text was gathered, writing failed, or it had failed before, where only a front is known.
use Rattle.std.proofs.Common.{◌<◌, arith, length, length-append, ◌+◌, ◌++◌, false, ap, sym, subst, ◌∙◌}
use Rattle.trace_io.proofs.Promises.{took_more}
use Rattle.trace_run.specs.proving.Carrying.{HasSaid}
use Rattle.trace_run.proofs.Carryings.{said_in_vain}
use Rattle.trace_run.proofs.WrittenFronts.{front_behind, written_behind}
use Rattle.trace_run.proofs.sheet.Sheet.put_where_full.Goals as goal

pub returns-in-Err : goal.returns-in-Err
returns-in-Err g c = λ start said carries.
    let W = g.W.Target in
    let sheet = c.args.self.now in
    let failed = c.in-Err.ensures in
    let some_text : 0 < length c.args.text.now = c.requires in
    let so_far : HasSaid W start said (record sheet { failed = false }) c.args.target.now =
    subst (λ b. HasSaid W start said (record sheet { failed = b }) c.args.target.now) (c.may_write.ensures.well c.if-not-may_write.false) carries in
    record {
      low = so_far.low;
      gathered_some = λ some. omega (arith, some_text, length-append said c.args.text.now);
      failed_some = λ is. omega (arith, some_text, length-append said c.args.text.now);
      still = λ none. absurd (omega (arith, none, some_text, length-append said c.args.text.now));
      failures = failed.failures ∙ ap (λ n. n + 1) so_far.failures;
      no_empty_write = failed.no_empty_write ∙ so_far.no_empty_write;
      flushes = failed.flushes ∙ so_far.flushes;
      took = took_more so_far.took failed.took;
      written =
          front_behind (W.taken start) said c.args.text.now (W.taken c.args.target.now) sheet.gathered (W.taken c.gather.new.target)
          so_far.written failed.taken;
    }

pub returns-in_default : goal.returns-in_default
returns-in_default g c = λ start said carries.
    let W = g.W.Target in
    let sheet = c.args.self.now in
    let put = c.in_default.ensures in
    let some_text : 0 < length c.args.text.now = c.requires in
    let so_far : HasSaid W start said (record sheet { failed = false }) c.args.target.now =
    subst (λ b. HasSaid W start said (record sheet { failed = b }) c.args.target.now) (c.may_write.ensures.well c.if-not-may_write.false) carries in
    subst (λ b. HasSaid W start (said ++ c.args.text.now) (record { gathered = c.gather.new.gathered; failed = b }) c.gather.new.target)
    (sym (c.may_write.ensures.well c.if-not-may_write.false)) (record {
      low = so_far.low;
      gathered_some = λ some. omega (arith, some_text, length-append said c.args.text.now);
      failed_some = λ is. absurd (cc is);
      still = λ none. absurd (omega (arith, none, some_text, length-append said c.args.text.now));
      failures = put.failures ∙ so_far.failures;
      no_empty_write = put.no_empty_write ∙ so_far.no_empty_write;
      flushes = put.flushes ∙ so_far.flushes;
      took = took_more so_far.took put.took;
      written =
          written_behind (W.taken start) said c.args.text.now (W.taken c.args.target.now) sheet.gathered (W.taken c.gather.new.target)
          c.gather.new.gathered so_far.written put.taken;
    })

pub returns-then-not-may_write : goal.returns-then-not-may_write
returns-then-not-may_write g c = λ start said carries.
    said_in_vain g.W.Target start c.args.target.now said c.args.text.now c.args.self.now
    (c.may_write.ensures.wrong c.if-not-may_write.true start said carries) carries
