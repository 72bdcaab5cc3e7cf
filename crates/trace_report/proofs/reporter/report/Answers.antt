-- The run is by the script of the page, whose title is made of what the call is handed.
use Rattle.std.proofs.Common.{◌≡◌, arith, refl, subst}
use Rattle.isotp_receive.specs.declared.TheConstants.{MESSAGE_LIMIT}
use Rattle.trace_run.specs.Script.{answers_counts, command, glimpse_of, needs_none}
use Rattle.trace_run.specs.Ran.{RanLenient}
use Rattle.trace_report.specs.Front.{PageTitleValue, page_title}
use Rattle.trace_report.specs.Page.{refused_text, report_script}
use Rattle.trace_report.proofs.reporter.report.Goals as goal

pub returns : goal.returns
returns g c =
    let style = c.args.style.now in
    let name = c.args.name.now in
    let title : record { style = style; name = name; tester = c.tester.result; functional = c.functional.result; unit = c.unit.result; max_bytes = c.max_bytes.result; rules = c.rules-rules.result.now } ≡ page_title style name c.args.config.now =
    (λ i. record { style = style; name = name; tester = c.tester.ensures i; functional = c.functional.ensures i; unit = c.unit.ensures i; max_bytes = c.max_bytes.ensures.value i; rules = c.rules-rules.ensures i }) in
    record {
      ran = subst (λ (title : PageTitleValue). RanLenient g.R.Source g.W.Target (command (report_script title MESSAGE_LIMIT c.args.config.now.rules)
          (refused_text title MESSAGE_LIMIT c.args.config.now.rules (glimpse_of g.R.Source c.run_lenient.new.source)) answers_counts needs_none)
          c.args.config.now c.args.source.now c.args.target.now c.run_lenient.result c.run_lenient.new.source c.run_lenient.new.target) title c.run_lenient.ensures.ran;
    }

pub run_lenient-requires-clause-machine : goal.run_lenient-requires-clause-machine
run_lenient-requires-clause-machine g c = record {
  few = omega arith;
  same = refl;
  times = refl;
  follows = c.start.ensures c.args.config.now.rules;
  chart = c.start-2.ensures c.rules-rules.result.now;
  spoken = c.no_counts.ensures;
}
