use Rattle.std.proofs.Common.{◌≡◌, drop}
use Rattle.clap.specs.Simple.{app_of}
use Rattle.command_line.specs.proving.Rows.{with_rows}
use Rattle.command_line.proofs.command.with_rows.Given as goal

abbrev pub invariant-rows : goal.invariant-rows
invariant-rows l = with_rows (app_of l.command) (drop l.row-index l.rows) ≡ with_rows (app_of l.initial.command) l.rows
