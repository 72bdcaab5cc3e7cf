use Rattle.std.proofs.Common.{inl, ap, ◌∙◌, Some}
use Rattle.command_line.specs.Values.{page_name}
use Rattle.udsnorm.proofs.Done.{ran_named}
use Rattle.udsnorm.proofs.OpenedFiles.{given_by, opened_as}
use Rattle.udsnorm.proofs.run_file.Goals as goal

pub returns-in-Ok-clause-did : goal.returns-in-Ok-clause-did
returns-in-Ok-clause-did g c = inl (record {
  log = c.new-log.result;
  unread = record { by_name = opened_as (g.R.Opener.says c.args.rt.now) c.new-log.ensures c.in-Ok.ensures; from_start = ap given_by c.new-log.ensures };
  left = c.run_one-end.new.input;
  outcome = c.run_one-end.result.outcome;
  ran = ran_named (c.page_name.ensures ∙ ap (λ path. page_name (Some path)) c.as_str.ensures.value) c.run_one-end.ensures.ran;
  known_is = c.known_of_file.ensures;
})
