use Rattle.uds_exchange.proofs.RolesOfSteps.{step_tells_the_role}
use Rattle.uds_exchange.proofs.laws.step_tells_the_role.Goals as goal

pub returns : goal.returns
returns c = step_tells_the_role
