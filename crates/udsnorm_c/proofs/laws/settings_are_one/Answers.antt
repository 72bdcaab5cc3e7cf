use Rattle.udsnorm_c.proofs.OneConfig.{config_is_one}
use Rattle.udsnorm_c.proofs.laws.settings_are_one.Goals as goal

pub returns : goal.returns
returns c = config_is_one
