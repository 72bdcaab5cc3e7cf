use Rattle.udsnorm_c.proofs.pages.put_pair_report.Goals as goal

pub returns : goal.returns
returns c = (c.pair_style-style.result.now, c.pair_page.result, c.pair_page.ensures, c.put_page.ensures)
