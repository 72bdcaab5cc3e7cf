use Rattle.std.proofs.Common.{◌≡◌, ◌+◌, set, get_or, sym, ap, ◌∙◌, subst, arith}
use Rattle.uds_message.specs.Message.{sid}
use Rattle.uds_rules.specs.proving.Held.{AreHeld, earlier, noted_one}
use Rattle.uds_rules.proofs.Adding.{one_more_held}
use Rattle.uds_rules.proofs.rule_table.RuleTable.add.Goals as goal

pub invariant_of-self : goal.invariant_of-self
invariant_of-self c =
    let self = c.self.inside in
    let rule = c.args.rule in
    let first : c.first-first.result ≡ sid rule.prefix = c.first-first.ensures.value ∙ ap sid c.prefix.ensures in
    let places : set self.first_places c.first-first.result c.earlier.result ≡ noted_one self.first_places (self.count + 1) rule =
    ap (set self.first_places c.first-first.result) c.earlier.ensures
    ∙ ap (λ n. set self.first_places n (earlier (get_or self.first_places n 0) (self.count + 1))) first in
    subst (AreHeld (self.count + 1) (set self.rules self.count rule)) (sym places)
    (one_more_held self.count self.rules self.first_places rule c.self.invariant (omega (arith, c.if-count-ge-MOST_RULES.false)) c.deed.ensures.legal
    (sym c.first_clash.ensures ∙ c.in-None.is))
