use Rattle.udsnorm_c.proofs.EmptyTexts.{diff_is_empty_of_equal_logs}
use Rattle.udsnorm_c.proofs.laws.diff_is_empty_of_equal_logs.Goals as goal

pub returns : goal.returns
returns c = diff_is_empty_of_equal_logs
