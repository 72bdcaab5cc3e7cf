use Rattle.std.proofs.Common.{List, ap, ◌∙◌}
use Rattle.isotp_receive.specs.declared.TheConstants.{MESSAGE_LIMIT}
use Rattle.uds_rules.specs.Rule.{RuleValue}
use Rattle.trace_difference.specs.Written.{difference_text}
use Rattle.trace_difference.proofs.DifferencesInMemory.{difference_of}
use Rattle.trace_difference.proofs.in_memory.pair_difference.Goals as goal

pub returns-in-Ok-text_of : goal.returns-in-Ok-text_of
returns-in-Ok-text_of c =
    let compared = c.in-Ok.compared in
    let text = c.in-Ok-text_of.ensures.text
    ∙ ap (λ (rules : List RuleValue). difference_text rules c.args.notation c.args.left_name.now c.args.right_name.now compared.left compared.right) c.rules.ensures in
    difference_of c.args.notation c.args.left_name.now c.args.right_name.now MESSAGE_LIMIT c.args.config.now c.args.left.now c.args.right.now _ c.compare_both-answer.result _ _ c.in-Ok.is c.compare_both-answer.ensures
    text c.counted_comparison.ensures
