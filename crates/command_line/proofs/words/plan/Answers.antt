use Rattle.std.proofs.Common.{map}
use Rattle.std.specs.Prelude.{string_bytes}
use Rattle.command_line.specs.Commands.{words_or_normalise}
use Rattle.command_line.proofs.Taken.{planned_by, refused_with}
use Rattle.command_line.proofs.words.plan.Goals as goal

pub returns-in-Ok : goal.returns-in-Ok
returns-in-Ok c = record {
  words = planned_by (words_or_normalise (map string_bytes c.args.words.now)) c.args.seen.now c.args.parsed.now c.in-Ok.matches c.planned.result c.in-Ok.is c.planned.ensures.from;
}

pub returns-in_ok-refusal-in-Err : goal.returns-in_ok-refusal-in-Err
returns-in_ok-refusal-in-Err c = record {
  words =
      refused_with (words_or_normalise (map string_bytes c.args.words.now)) c.args.seen.now c.args.parsed.now c.in-Err.error c.in_ok-refusal-in-Err.field-0 c.in-Err.is
      c.in_ok-refusal-in-Err.ensures;
}
