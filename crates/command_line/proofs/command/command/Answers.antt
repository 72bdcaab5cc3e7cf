use Rattle.std.proofs.Common.{ap, refl, ◌∙◌}
use Rattle.std.proofs.lemmas.Result.{IfOk-weaker}
use Rattle.clap.specs.Simple.{App}
use Rattle.command_line.specs.Commands.{command_entries}
use Rattle.command_line.specs.proving.Rows.{with_entries}
use Rattle.command_line.proofs.command.command.Goals as goal

pub returns : goal.returns
returns c =
    IfOk-weaker c.with_commands.result _ _ (λ made has. has ∙ ap (λ (a : App). with_entries a command_entries) c.in_ok-program.ensures ∙ refl) c.with_commands.ensures
