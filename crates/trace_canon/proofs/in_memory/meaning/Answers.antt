-- The source is no device: so a fault is why the log is refused, or refused memory.
use Rattle.trace_canon.proofs.GatheredTexts.{agrees_in_memory}
use Rattle.trace_canon.proofs.InMemories.{meaning_in_memory}
use Rattle.trace_canon.proofs.in_memory.meaning.Goals as goal
use Rattle.isotp_receive.specs.declared.TheConstants.{MESSAGE_LIMIT}

pub returns : goal.returns
returns c = record {
  answer =
      let ran = c.meaning_of.ensures.ran in
      let read = ran.way.read in
      let log = c.args.log.now in
      let agrees = agrees_in_memory log c.new.result c.meaning_of.new.source c.new.ensures read.gave read.ended in
      meaning_in_memory MESSAGE_LIMIT c.args.config.now log c.meaning_of.result read.failed ran.never_write
      (ran.way.memory log agrees) (ran.answer log agrees);
}
