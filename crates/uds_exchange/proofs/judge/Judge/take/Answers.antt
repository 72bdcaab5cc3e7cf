-- What a judge keeps with one more message, and what it says of it, are what the messages say.
use Rattle.uds_exchange.proofs.JudgeCounts.{counts-next, waits-found, step-found, number-found, sides-found}
use Rattle.uds_exchange.proofs.judge.Judge.take.Goals as goal

pub returns-clause-next : goal.returns-clause-next
returns-clause-next c = λ M few counts.
    counts-next M (c.args.dir, c.args.message.now) c.args.self.now c.count-item_number.new.self c.step_of-step.result c.note.new.self few counts
    c.step_of-step.ensures c.count-item_number.ensures.now

pub returns-clause-item : goal.returns-clause-item
returns-clause-item c = λ M few counts.
    number-found M (c.args.dir, c.args.message.now) c.args.self.now c.step_of-step.result c.note.new.self c.count-item_number.result few counts
    c.step_of-step.ensures c.count-item_number.ensures.number

pub returns-clause-is_open : goal.returns-clause-is_open
returns-clause-is_open c = λ M waits.
    waits-found M (c.args.dir, c.args.message.now) c.args.self.now c.count-item_number.new.self c.step_of-step.result c.note.new.self waits
    c.step_of-step.ensures c.count-item_number.ensures.now

pub returns-clause-step : goal.returns-clause-step
returns-clause-step c = λ M waits.
    step-found M (c.args.dir, c.args.message.now) c.args.self.now c.step_of-step.result waits c.step_of-step.ensures

pub returns-clause-sides : goal.returns-clause-sides
returns-clause-sides c = λ M were.
    sides-found M (c.args.dir, c.args.message.now) c.args.self.now c.count-item_number.new.self c.step_of-step.result c.note.new.self were
    (c.note.ensures c.args.self.now.open_sid c.step_of-step.ensures) c.count-item_number.ensures.now
