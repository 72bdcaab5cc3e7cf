use Rattle.std.proofs.Common.{rules}
use Rattle.can_log.proofs.PlainLines.{three_are}
use Rattle.can_log.proofs.plain_fields.identifier_digits.Goals as goal

pub returns-in-3-clause-identifier : goal.returns-in-3-clause-identifier
returns-in-3-clause-identifier c = three_are c.split_at-in-3.result.0.now (search rules) (search rules) (search rules)
