use Rattle.isotp_receive.proofs.CapacityLaws.{stay-within, new-within, one-more-within}
use Rattle.isotp_receive.proofs.laws.capacities_stay_within.Goals as goal

pub returns-clause-run : goal.returns-clause-run
returns-clause-run c = stay-within

pub returns-clause-new : goal.returns-clause-new
returns-clause-new c = new-within

pub returns-clause-more : goal.returns-clause-more
returns-clause-more c = one-more-within
