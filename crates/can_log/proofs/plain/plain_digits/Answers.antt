use Rattle.can_log.proofs.PlainLines.{plain_data}
use Rattle.can_log.proofs.plain.plain_digits.Goals as goal

pub returns-clause-text : goal.returns-clause-text
returns-clause-text c = plain_data c.args.fields.body.flags _ c.requires.legal.body.digits
