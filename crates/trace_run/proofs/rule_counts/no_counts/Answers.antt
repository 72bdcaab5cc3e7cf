-- There are as many counts as rules.
use Rattle.std.proofs.Common.{ap, length, replicate, ◌∙◌}
use Rattle.uds_rules.specs.Rule.{RuleValue}
use Rattle.std.proofs.Common.{List}
use Rattle.trace_run.proofs.CountedRules.{none_spoken}
use Rattle.trace_run.proofs.rule_counts.no_counts.Goals as goal

pub returns : goal.returns
returns c =
    c.zeros.ensures ∙ ap (λ (l : List RuleValue). replicate (length l) 0) c.as_slice.ensures.value
    ∙ none_spoken c.args.rules.now
