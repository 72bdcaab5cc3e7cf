-- The rule is looked for from the place on that is noted.
use Rattle.std.proofs.Common.{◌≡◌, ℕ, ◌+◌, ◌-◌, ◌<◌, option_map, drop, take, get_or, sym, ap, subst, arith, ◌∙◌}
use Prim.Native.Nat.{suc}
use Rattle.uds_message.specs.Message.{sid}
use Rattle.uds_rules.specs.Rule.{rule_of}
use Rattle.uds_rules.proofs.FirstBytes.{first_behind, first_is_noted, none_noted, rule_from_there}
use Rattle.uds_rules.proofs.RuleOf.{told_within}
use Rattle.uds_rules.proofs.rule_table.RuleTable.rule_of.Goals as goal

pub returns-in-0-clause-value : goal.returns-in-0-clause-value
returns-in-0-clause-value c =
    let self = c.self.inside in
    let rules = take self.count self.rules in
    let message = c.args.message.now in
    let byte = subst (λ n. n < 256) c.sid.ensures c.sid.type_inv in
    let noted : first_behind 0 rules (sid message) ≡ get_or self.first_places c.sid.result 0 =
    sym (ap (λ n. get_or self.first_places n 0) c.sid.ensures ∙ first_is_noted rules self.first_places (sid message) c.self.invariant.places byte) in
    sym (ap (λ rules. rule_of rules message) (sym c.self.view_is) ∙ none_noted rules message c.self.invariant.rules.each (noted ∙ c.in-0.is))

pub returns-in_default-clause-value : goal.returns-in_default-clause-value
returns-in_default-clause-value c =
    let self = c.self.inside in
    let rules = take self.count self.rules in
    let message = c.args.message.now in
    let byte = subst (λ n. n < 256) c.sid.ensures c.sid.type_inv in
    let place : ℕ = get_or self.first_places c.sid.result 0 in
    let noted : first_behind 0 rules (sid message) ≡ place =
    sym (ap (λ n. get_or self.first_places n 0) c.sid.ensures ∙ first_is_noted rules self.first_places (sid message) c.self.invariant.places byte) in
    let first : place ≡ suc (place - 1) = omega (arith, c.in_default) in
    c.rule_from.ensures
    ∙ ap (λ listed. option_map (λ n. (place - 1) + n) (rule_of (drop (place - 1) listed) message)) (c.as_slice.ensures.value ∙ sym c.self.view_is)
    ∙ sym (rule_from_there rules message (place - 1) c.self.invariant.rules.each (noted ∙ first))
    ∙ ap (λ rules. rule_of rules message) c.self.view_is

pub returns-in_default-clause-within : goal.returns-in_default-clause-within
returns-in_default-clause-within c = told_within c.args.self.now c.args.message.now c.rule_from.result (returns-in_default-clause-value c)
