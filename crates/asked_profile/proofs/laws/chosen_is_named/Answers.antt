use Rattle.asked_profile.proofs.Promises.{chosen_is_named, named_is_chosen, none_is_without_units}
use Rattle.asked_profile.proofs.laws.chosen_is_named.Goals as goal

pub returns : goal.returns
returns c = record { chosen = chosen_is_named; named = named_is_chosen; none = none_is_without_units }
