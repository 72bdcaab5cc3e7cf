use Rattle.clap.specs.Words.{found_of, rows_of}
use Rattle.command_line.specs.declared.commands.Task.TheVariants.{Two}
use Rattle.command_line.proofs.Configured.{refused_when}
use Rattle.command_line.proofs.words.plan_of_two.Goals as goal

pub returns-in_err-config-clause-fault : goal.returns-in_err-config-clause-fault
returns-in_err-config-clause-fault c =
    refused_when (Two c.args.job) (rows_of (found_of c.args.found.now)) c.args.seen.now c.from_residual.result c.in_err-config.field-0.0 c.configuration.result c.from_residual.ensures.1
    c.in_err-config.was c.configuration.ensures
