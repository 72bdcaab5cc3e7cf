-- What is kept of one more is kept of all.
use Rattle.slow_answers.proofs.Places.{slowest_goes_on}
use Rattle.slow_answers.proofs.slowest.SlowestAnswers.take.Goals as goal

pub returns : goal.returns
returns c = record {
  stands = λ answers old. slowest_goes_on answers c.args.self.now c.keep.new.self c.args.answer old c.keep.ensures;
}
