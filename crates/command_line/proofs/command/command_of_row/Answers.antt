use Rattle.std.proofs.Common.{◌≡◌, rules}
use Rattle.std.proofs.lemmas.Result.{IfOk-weaker}
use Rattle.clap.specs.Simple.{app_of, new_app}
use Rattle.command_line.proofs.Built.{with_args}
use Rattle.command_line.proofs.command.command_of_row.Goals as goal

pub returns : goal.returns
returns c =
    let before : app_of c.after_help.result ≡ new_app c.args.row.now.name.now = search rules in
    IfOk-weaker c.args-2.result _ _ (λ made adds. with_args c.after_help.result c.in_ok-args.args.items made _ _ adds c.in_ok-args.ensures.local before c.in_ok-args.ensures.rules) c.args-2.ensures
