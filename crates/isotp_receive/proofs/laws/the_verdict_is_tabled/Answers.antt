use Rattle.isotp_receive.proofs.VerdictLaws.{table-is-verdict}
use Rattle.isotp_receive.proofs.laws.the_verdict_is_tabled.Goals as goal

pub returns : goal.returns
returns c = table-is-verdict
