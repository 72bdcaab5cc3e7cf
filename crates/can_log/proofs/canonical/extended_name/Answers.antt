use Rattle.can_log.specs.declared.frame.Id.TheVariants.{Ext}
use Rattle.can_log.proofs.CanonicalLines.{name_of_text}
use Rattle.can_log.proofs.canonical.extended_name.Goals as goal

pub returns : goal.returns
returns c = name_of_text (Ext c.args.number) _ _ c.hexadecimal_digits.ensures c.name_of_digits.ensures
