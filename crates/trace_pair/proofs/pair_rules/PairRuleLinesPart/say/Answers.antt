-- Each rule adds its line.
use Rattle.std.proofs.Common.{◌≡◌, ◌++◌, ◌∷◌, List, ℕ, ap, sym, ◌∙◌, append_assoc}
use Rattle.trace_pair.specs.PairRules.{pair_rule_line, pair_rule_lines}
use Rattle.trace_pair.proofs.pair_rules.PairRuleLinesPart.say.Goals as goal

pub rules-preserved : goal.rules-preserved
rules-preserved g c =
    let so_far = c.rules.invariant in
    let line = pair_rule_line c.in-Some.rule.now c.in-Some-split_first.left.now c.in-Some-split_first-2.right.now in
    let behind = pair_rule_lines c.in-Some.later.now c.in-Some-split_first.lefts_behind.now c.in-Some-split_first-2.rights_behind.now in
    let more : pair_rule_lines c.rules.waiting.now c.rules.left_counts.now c.rules.right_counts.now ≡ line ++ behind =
    (λ i. pair_rule_lines (c.in-Some.ensures.cases.0 i) (c.in-Some-split_first.ensures.cases.0 i) (c.in-Some-split_first-2.ensures.cases.0 i)) in (
      so_far.0 ++ line,
      so_far.1 ∙ ap (λ text. so_far.0 ++ text) more ∙ sym (append_assoc so_far.0 line behind),
      g.met.S.TextSink.onward c.args.out.now c.rules.out c.say.new.out so_far.0 line so_far.2 c.say.ensures,
    )
