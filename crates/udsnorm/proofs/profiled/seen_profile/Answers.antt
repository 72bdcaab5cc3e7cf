use Rattle.command_line.specs.Commands.{command_in}
use Rattle.udsnorm.proofs.OpenedFiles.{memory_of, seen_by}
use Rattle.udsnorm.proofs.profiled.seen_profile.Goals as goal

pub returns-in-Ok : goal.returns-in-Ok
returns-in-Ok g c = record {
  seen = λ words says. seen_by (g.R.Opener.says c.args.rt.now) _ words c.args.parsed.now c.in-Ok.matches c.seen_of.result c.in-Ok.is c.seen_of.ensures says;
}

pub returns-in-Err : goal.returns-in-Err
returns-in-Err g c = record { seen = λ words says. memory_of (g.R.Opener.says c.args.rt.now) _ (command_in words) }
