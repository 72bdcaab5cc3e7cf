use Rattle.std.proofs.lemmas.Result.{IfOk-weaker}
use Rattle.std.proofs.Common.{refl}
use Rattle.command_line.proofs.Built.{with_command}
use Rattle.command_line.proofs.command.with_row.Goals as goal

pub returns : goal.returns
returns c =
    IfOk-weaker c.subcommand.result _ _ (λ made adds. with_command _ _ made _ _ adds refl c.in_ok-command_of_row.ensures refl) c.subcommand.ensures
