-- What begins before a row is by the tests that the definitions name.
use Rattle.trace_report.proofs.block_fronts.OpeningPart.say.Goals as goal

pub returns : goal.returns
returns g c = rw (c.begins_body.ensures, c.begins_block-block.ensures, c.begins_exchange-exchange.ensures) at c.say.ensures
