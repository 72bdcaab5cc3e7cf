-- The number stands in its place: putting it there can't fail.
use Rattle.uds_find.proofs.Places.{written, written-place}
use Rattle.uds_find.proofs.tables.number_answer.Goals as goal

pub returns-clause-number : goal.returns-clause-number
returns-clause-number c =
    written c.insert.result c.args.answered.now c.insert.new.self c.args.key c.args.asking
    c.insert.ensures.updates c.insert.ensures.absent c.requires

pub returns-clause-place : goal.returns-clause-place
returns-clause-place c =
    written-place c.insert.result c.args.answered.now c.insert.new.self c.args.key c.args.asking
    c.insert.ensures.updates c.insert.ensures.absent c.requires
