use Rattle.std.proofs.Common.{ap, ◌∙◌, subst}
use Rattle.std.specs.Prelude.{unwrap_or}
use Rattle.can_log.specs.Wanted.{number_of_id, WantedValue}
use Rattle.can_log.proofs.IdentifierNumbers.{same_as_third}
use Rattle.can_log.proofs.wanted.Wanted.is_third.Goals as goal

pub returns : goal.returns
returns c = same_as_third c.args.self.now.first c.args.self.now.third c.args.id c.number_of_id.result c.self.inside.third_number c.number_of_id.ensures
    (c.self.invariant.2 ∙ ap (λ (w : WantedValue). number_of_id (unwrap_or w.third w.first)) c.self.view_is)
