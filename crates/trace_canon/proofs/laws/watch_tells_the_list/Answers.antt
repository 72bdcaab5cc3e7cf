-- Both are lemmas on what is said as items are decided.
use Rattle.trace_canon.proofs.WatchScripts.{watch_says_decided, watch_says_the_list}
use Rattle.trace_canon.proofs.laws.watch_tells_the_list.Goals as goal

pub returns-clause-decided : goal.returns-clause-decided
returns-clause-decided c = watch_says_decided

pub returns-clause-whole : goal.returns-clause-whole
returns-clause-whole c = watch_says_the_list
