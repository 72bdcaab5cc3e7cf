-- The credit lines were found, or why not; their text was written, or a front of it.
use Rattle.std.proofs.Common.{Ok, Err, subst}
use Rattle.trace_log.proofs.Promises.{handed_on}
use Rattle.trace_run.specs.Printed.{Prints}
use Rattle.trace_canon.specs.CreditLines.{credit_lines_text}
use Rattle.trace_canon.specs.Finding.{GivesFound, text_of_credit_lines}
use Rattle.trace_canon.proofs.TextsAtEnd.{front_at_end, none_at_end, text_at_end}
use Rattle.trace_canon.proofs.finder.find.Goals as goal

pub returns : goal.returns
returns g c =
    let settings = c.args.config.now in
    let found = c.in_ok-found.found in
    let printed = subst (λ lines. Prints g.W.Target (credit_lines_text c.args.style lines) c.args.target.now (Ok c.in_ok-print.field-0)
    c.print.new.target) c.deref.ensures.value c.in_ok-print.ensures in
    record {
      ran =
          text_at_end g.R.Source g.W.Target (text_of_credit_lines c.args.style settings) (GivesFound settings) _ _ _
          found found.credit_lines.items found.summary _ _ (λ log is. is) c.in_ok-found.ensures.ran printed;
    }

pub returns-in_err-found : goal.returns-in_err-found
returns-in_err-found g c =
    let settings = c.args.config.now in
    rw (handed_on c.from_residual.result _ c.from_residual.ensures.1) (record {
      ran =
          none_at_end g.R.Source g.W.Target (text_of_credit_lines c.args.style settings) (GivesFound settings) _ _ _ _
          (λ log is. is) c.in_err-found.ensures.ran;
    })

pub returns-in_err-print : goal.returns-in_err-print
returns-in_err-print g c =
    let settings = c.args.config.now in
    let found = c.in_ok-found.found in
    let printed = subst (λ lines. Prints g.W.Target (credit_lines_text c.args.style lines) c.args.target.now (Err c.in_err-print.field-0.0)
    c.print.new.target) c.deref.ensures.value c.in_err-print.ensures in
    rw (handed_on c.from_residual-in_err-print.result _ c.from_residual-in_err-print.ensures.1, c.in_err-print.ensures.only)
    (record {
      ran =
          front_at_end g.R.Source g.W.Target (text_of_credit_lines c.args.style settings) (GivesFound settings) _ _ _
          found found.credit_lines.items found.summary _ _ (λ log is. is) (λ log. tt) c.in_ok-found.ensures.ran printed;
    })
