use Rattle.std.proofs.Common.{ap, ◌∙◌}
use Rattle.can_log.specs.Digits.{hexadecimal}
use Rattle.can_log.specs.declared.frame.Id.TheVariants.{Std}
use Rattle.can_log.proofs.CanonicalLines.{name_of_text}
use Rattle.can_log.proofs.canonical.base_name.Goals as goal

pub returns : goal.returns
returns c = name_of_text (Std c.args.number) _ _ (c.hexadecimal_digits.ensures ∙ ap (hexadecimal 3) c.from.ensures) c.name_of_digits.ensures
