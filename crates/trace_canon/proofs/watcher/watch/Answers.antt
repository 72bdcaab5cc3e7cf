-- At the end all that was said is the list.
use Rattle.trace_canon.proofs.WatchScripts.{writes_the_list}
use Rattle.trace_canon.proofs.watcher.watch.Goals as goal

pub returns-clause-whole : goal.returns-clause-whole
returns-clause-whole g c = λ log agrees. writes_the_list c.args.style c.args.config.now log _ c.run_lenient.result _ _
    (c.run_lenient.ensures.ran.run.answer log agrees)
