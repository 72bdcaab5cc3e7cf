-- A place is noted where a rule begins with the first byte of the message.
use Rattle.std.proofs.Common.{◌≡◌, ◌<◌, ◌==◌, not, false, take, get_or, sym, ap, subst, ◌∙◌}
use Rattle.uds_message.specs.Message.{sid}
use Rattle.uds_rules.specs.Rule.{is_spoken_of, may_speak_of}
use Rattle.uds_rules.proofs.FirstBytes.{first_is_noted, no_rule, none_speaks, some_is_noted}
use Rattle.uds_rules.proofs.RuleOf.{none_made}
use Rattle.uds_rules.proofs.rule_table.RuleTable.may_speak_of.Goals as goal

pub returns-clause-value : goal.returns-clause-value
returns-clause-value c =
    let self = c.self.inside in
    let rules = take self.count self.rules in
    let message = c.args.message.now in
    let byte = subst (λ n. n < 256) c.sid.ensures c.sid.type_inv in
    ap (λ n. not (get_or self.first_places n 0 == 0)) c.sid.ensures
    ∙ ap (λ n. not (n == 0)) (first_is_noted rules self.first_places (sid message) c.self.invariant.places byte)
    ∙ some_is_noted 0 rules message
    ∙ ap (λ rules. may_speak_of rules message) c.self.view_is

pub returns-clause-none : goal.returns-clause-none
returns-clause-none c = λ off.
    let self = c.self.inside in
    let rules = take self.count self.rules in
    let message = c.args.message.now in
    let byte = subst (λ n. n < 256) c.sid.ensures c.sid.type_inv in
    let unmarked : may_speak_of rules message ≡ false =
    sym (ap (λ n. not (get_or self.first_places n 0 == 0)) c.sid.ensures
    ∙ ap (λ n. not (n == 0)) (first_is_noted rules self.first_places (sid message) c.self.invariant.places byte)
    ∙ some_is_noted 0 rules message)
    ∙ off in
    ap (λ rules. is_spoken_of rules message) (sym c.self.view_is) ∙ none_speaks rules message c.self.invariant.rules.each unmarked

pub returns-clause-ruled : goal.returns-clause-ruled
returns-clause-ruled c = λ off. no_rule c.args.self.now c.args.message.now (returns-clause-none c off)

pub returns-clause-stays : goal.returns-clause-stays
returns-clause-stays c = λ off. (none_made c.args.self.now c.args.message.now (returns-clause-ruled c off)).0

pub returns-clause-masked : goal.returns-clause-masked
returns-clause-masked c = λ off. (none_made c.args.self.now c.args.message.now (returns-clause-ruled c off)).1
