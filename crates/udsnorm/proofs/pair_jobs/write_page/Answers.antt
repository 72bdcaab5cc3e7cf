use Rattle.std.proofs.Common.{◌≡◌, subst}
use Rattle.trace_pair.specs.Page.{pair_page}
use Rattle.trace_pair.specs.Titles.{TitleValue, title_for}
use Rattle.udsnorm.specs.Telling.{WroteText}
use Rattle.udsnorm.proofs.Pairs.{wrote_by_print}
use Rattle.udsnorm.proofs.pair_jobs.write_page.Goals as goal

pub returns-in_default-clause-text : goal.returns-in_default-clause-text
returns-in_default-clause-text g c =
    let style = c.pair_style.result.now in
    let title : record { style = style; left = c.as_bytes.result.now; right = c.as_bytes-2.result.now; tester = c.tester.result; functional = c.functional.result; unit = c.unit.result; rules = c.rules.result.now }
    ≡ title_for style c.args.left_name.now c.args.right_name.now c.args.config.now =
    (λ i. record { style = style; left = c.as_bytes.ensures.value i; right = c.as_bytes-2.ensures.value i; tester = c.tester.ensures i; functional = c.functional.ensures i; unit = c.unit.ensures i; rules = c.rules.ensures i }) in (
      style,
      subst (λ (t : TitleValue). WroteText g.W.Target (pair_page t c.args.answer.now c.args.cause) c.is_ok.result c.args.out.now c.write_pair_page.new.target) title
          (wrote_by_print g.W.Target _ c.args.out.now c.write_pair_page.new.target c.write_pair_page.result c.is_ok.result c.write_pair_page.ensures.printed c.is_ok.ensures.value),
    )
