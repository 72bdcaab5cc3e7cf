-- A run of a script that is not strict is a run, of which a little more is known.
use Rattle.trace_run.proofs.LenientRuns.{near_when_lenient, no_oversize, no_output_limit, needs_when_none}
use Rattle.trace_log.proofs.Promises.{given_agrees}
use Rattle.trace_run.specs.Ran.{command_of}
use Rattle.trace_run.specs.Script.{glimpse_of}
use Rattle.trace_run.proofs.driver.run_lenient.Goals as goal

pub returns : goal.returns
returns g c =
    let all = c.run.ensures.ran in
    let machine = c.args.machine in
    let M = g.M.Machine in
    let of = command_of M (glimpse_of g.R.Source c.run.new.source) c.args.config.now.rules machine in
    let is_lenient = c.requires.lenient in
    let answered = all.answer all.read.gave.bytes (given_agrees all.read.gave) in
    record {
      ran = record {
        run = all;
        near = λ log agrees. near_when_lenient is_lenient c.args.config.now log (all.near log agrees);
        never_oversize = no_oversize of is_lenient c.requires.has_answer c.args.config.now all.read.gave.bytes _ c.run.result _ _ answered;
        never_output_limit = no_output_limit of is_lenient c.requires.has_answer c.args.config.now all.read.gave.bytes _ c.run.result _ _ answered;
        memory = λ none log agrees refused.
            needs_when_none (M.needs c.args.config.now.rules machine) none c.args.config.now log (all.memory log agrees refused);
      };
    }
