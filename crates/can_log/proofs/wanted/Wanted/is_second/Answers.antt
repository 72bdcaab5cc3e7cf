use Rattle.std.proofs.Common.{ap, ◌∙◌}
use Rattle.can_log.specs.Wanted.{number_of_id, WantedValue}
use Rattle.can_log.proofs.IdentifierNumbers.{same_by_number}
use Rattle.can_log.proofs.wanted.Wanted.is_second.Goals as goal

pub returns : goal.returns
returns c = same_by_number c.args.id c.args.self.now.second c.number_of_id.result c.self.inside.second_number c.number_of_id.ensures
    (c.self.invariant.1 ∙ ap (λ (w : WantedValue). number_of_id w.second) c.self.view_is)
