use Rattle.can_log.specs.declared.frame.Id.TheVariants.{Std}
use Rattle.can_log.proofs.CanonicalLines.{line_of_parts}
use Rattle.can_log.proofs.canonical.base_line.Goals as goal

pub returns : goal.returns
returns c = line_of_parts c.args.clock.now (Std c.args.number) c.args.data.now _ _ c.base_name.ensures c.named_line.ensures
