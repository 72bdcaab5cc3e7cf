use Rattle.clap.specs.Words.{found_of, rows_of, subcommand_rows_of}
use Rattle.udsnorm.proofs.OpenedFiles.{seen_named}
use Rattle.udsnorm.proofs.profiled.seen_of.Goals as goal

pub returns-in-Some-text_of : goal.returns-in-Some-text_of
returns-in-Some-text_of g c =
    seen_named (g.R.Opener.says c.args.rt.now) _ c.in-Some-text_of.name.now (rows_of (found_of c.in-Some.found.now))
    (subcommand_rows_of c.args.matches.now) c.seen_at.result c.in-Some.ensures.rows c.in-Some-text_of.ensures c.seen_at.ensures
