use Rattle.std.proofs.Common.{◌∙◌, codes}
use Rattle.clap.specs.Words.{found_of}
use Rattle.command_line.proofs.Configured.{number_in}
use Rattle.command_line.proofs.settings.limit.Goals as goal

pub returns : goal.returns
returns c = c.unwrap_or.ensures ∙ number_in (found_of c.args.found.now) (codes "limit") c.get_one.result c.get_one.ensures.none c.get_one.ensures.value
