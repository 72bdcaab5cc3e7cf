use Rattle.udsnorm_c.proofs.pages.put_report.Goals as goal

pub returns : goal.returns
returns c = (c.report_style.result.now, (c.page.result, c.page.ensures, c.put.ensures))
