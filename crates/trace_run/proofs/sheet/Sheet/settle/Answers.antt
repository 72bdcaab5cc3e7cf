-- Nothing is gathered, all that was is written, or a front of it, where writing failed.
use Rattle.std.proofs.Common.{arith, refl, ◌+◌, ◌++◌, append-nil, false, [], Err, ap, sym, subst, ◌∙◌}
use Rattle.trace_io.proofs.Promises.{took_more}
use Rattle.trace_run.specs.proving.Carrying.{HasSaid, blank_sheet}
use Rattle.trace_run.proofs.Carryings.{let_go}
use Rattle.trace_run.proofs.WrittenFronts.{gathered_front_written, gathered_written, rest_along}
use Rattle.trace_run.proofs.sheet.Sheet.settle.Goals as goal

pub returns-then-not-may_write-clause-settled : goal.returns-then-not-may_write-clause-settled
returns-then-not-may_write-clause-settled g c = λ start said carries.
    let_go g.W.Target start c.args.target.now said c.args.self.now (c.may_write.ensures.wrong c.if-not-may_write.true start said carries) carries

pub returns-in-Err-clause-settled : goal.returns-in-Err-clause-settled
returns-in-Err-clause-settled g c = λ start said carries.
    let W = g.W.Target in
    let sheet = c.args.self.now in
    let failed = c.in-Err.ensures in
    let so_far : HasSaid W start said (record sheet { failed = false }) c.args.target.now =
    subst (λ b. HasSaid W start said (record sheet { failed = b }) c.args.target.now) (c.may_write.ensures.well c.if-not-may_write.false) carries in
    record {
      low = so_far.low;
      gathered_some = λ some. absurd (omega arith);
      failed_some = λ is. so_far.gathered_some (c.is_empty.ensures.some c.if-is_empty.false);
      still = λ none. absurd (omega (arith, none, so_far.gathered_some (c.is_empty.ensures.some c.if-is_empty.false)));
      failures = failed.failures ∙ ap (λ n. n + 1) so_far.failures;
      no_empty_write = failed.no_empty_write ∙ so_far.no_empty_write;
      flushes = failed.flushes ∙ so_far.flushes;
      took = took_more so_far.took failed.took;
      written =
          gathered_written {A = Unit {0}} (Err c.in-Err._fault) (W.taken start) said (W.taken c.args.target.now)
          sheet.gathered (W.taken c.write_out.new.target)
          so_far.written failed.taken;
    }

pub returns-clause-settled : goal.returns-clause-settled
returns-clause-settled g c = λ start said carries.
    let W = g.W.Target in
    let sheet = c.args.self.now in
    let wrote = c.in_default.ensures in
    let so_far : HasSaid W start said (record sheet { failed = false }) c.args.target.now =
    subst (λ b. HasSaid W start said (record sheet { failed = b }) c.args.target.now) (c.may_write.ensures.well c.if-not-may_write.false) carries in
    record {
      low = so_far.low;
      gathered_some = λ some. absurd (omega arith);
      failed_some = λ is. absurd (cc is);
      still = λ none. absurd (omega (arith, none, so_far.gathered_some (c.is_empty.ensures.some c.if-is_empty.false)));
      failures = wrote.failures ∙ so_far.failures;
      no_empty_write = wrote.no_empty_write ∙ so_far.no_empty_write;
      flushes = wrote.flushes ∙ so_far.flushes;
      took = took_more so_far.took wrote.took;
      written = gathered_front_written (W.taken start) said (W.taken c.args.target.now) sheet.gathered [] (W.taken c.write_out.new.target)
          (rest_along (W.taken start) said (W.taken c.args.target.now) sheet.gathered (sheet.gathered ++ []) so_far.written
          (sym (append-nil sheet.gathered)))
          wrote.taken;
    }

pub returns-in-Err-clause-no_more : goal.returns-in-Err-clause-no_more
returns-in-Err-clause-no_more g c = λ start said carries.
    let W = g.W.Target in
    let sheet = c.args.self.now in
    let done = returns-in-Err-clause-settled g c start said carries in
    record {
      low = done.low;
      gathered_some = λ some. done.failed_some refl;
      failed_some = done.failed_some;
      still = done.still;
      failures = done.failures;
      no_empty_write = done.no_empty_write;
      flushes = done.flushes;
      took = done.took;
      written = done.written;
    }

pub returns-clause-no_more : goal.returns-clause-no_more
returns-clause-no_more g c = λ start said carries.
    let W = g.W.Target in
    subst (λ h. HasSaid W start said (record c.args.self.now { gathered = h }) c.write_out.new.target) (sym c.write_out.ensures.blank)
    (subst (λ b. HasSaid W start said (blank_sheet b) c.write_out.new.target)
    (sym (c.may_write.ensures.well c.if-not-may_write.false)) (returns-clause-settled g c start said carries))
