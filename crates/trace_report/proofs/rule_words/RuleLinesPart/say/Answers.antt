-- Each rule adds its line.
use Rattle.std.proofs.Common.{◌≡◌, ◌++◌, ap, sym, ◌∙◌, append_assoc}
use Rattle.trace_report.specs.RuleWords.{rule_line, rule_lines}
use Rattle.trace_report.proofs.rule_words.RuleLinesPart.say.Goals as goal

pub rules-preserved : goal.rules-preserved
rules-preserved g c =
    let so_far = c.rules.invariant in
    let line = rule_line c.in-Some.rule.now c.in-Some-split_first.count.now in
    let behind = rule_lines c.in-Some.behind.now c.in-Some-split_first.others.now in
    let more : rule_lines c.rules.left.now c.rules.rest.now ≡ line ++ behind = (λ i. rule_lines (c.in-Some.ensures.cases.0 i) (c.in-Some-split_first.ensures.cases.0 i)) in (
      so_far.0 ++ line,
      so_far.1 ∙ ap (λ text. so_far.0 ++ text) more ∙ sym (append_assoc so_far.0 line behind),
      g.met.S.TextSink.onward c.args.out.now c.rules.out c.say.new.out so_far.0 line so_far.2 c.say.ensures,
    )
