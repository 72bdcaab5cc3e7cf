-- The rules of the text are those of the configuration.
use Rattle.std.proofs.Common.{List, subst}
use Rattle.isotp_receive.specs.declared.TheConstants.{MESSAGE_LIMIT}
use Rattle.uds_rules.specs.Rule.{RuleValue}
use Rattle.trace_text.specs.ItemLines.{list_text}
use Rattle.trace_canon.specs.ItemText.{RanOverItems}
use Rattle.trace_canon.proofs.lister.list.Goals as goal

pub returns : goal.returns
returns g c = record {
  ran =
      subst (λ (rules : List RuleValue). RanOverItems g.R.Source g.W.Target (list_text rules c.args.style) MESSAGE_LIMIT
      c.args.config.now c.args.source.now c.args.target.now c.write_items.result c.write_items.new.source c.write_items.new.target)
      c.rules.ensures c.write_items.ensures.ran;
}
