use Rattle.std.proofs.Common.{◌≡◌, ◌≤◌, ◌++◌, Some, length, take, drop, ap, sym, ◌∙◌, subst}
use Rattle.uds_rules.specs.Mask.{masked}
use Rattle.uds_rules.specs.Rule.{made_by}
use Rattle.uds_rules.proofs.Beginnings.{prefix_within, prefix_in_front}
use Rattle.uds_rules.proofs.rule.Rule.make.Goals as goal

pub lay-requires : goal.lay-requires
lay-requires c =
    let prefix : c.bytes.result.now ≡ c.args.self.now.prefix = c.bytes.ensures.value ∙ ap (λ rule. rule.prefix) c.self.view_is in
    subst (λ bytes. length bytes ≤ length c.args.message.now) (sym prefix) (prefix_within c.args.self.now.prefix c.args.message.now c.requires)

pub returns-in_ok-lay-in-Mask-clause-ok : goal.returns-in_ok-lay-in-Mask-clause-ok
returns-in_ok-lay-in-Mask-clause-ok c =
    let rule = c.args.self.now in
    let message = c.args.message.now in
    let mask = c.in-Mask.mask in
    let prefix : c.bytes.result.now ≡ rule.prefix = c.bytes.ensures.value ∙ ap (λ rule. rule.prefix) c.self.view_is in
    let laid = c.in_ok-lay-in-Mask.ensures
    ∙ ap (λ bytes. take (length bytes) message ++ masked mask (drop (length bytes) message)) prefix
    ∙ ap (λ front. front ++ masked mask (drop (length rule.prefix) message)) (prefix_in_front rule.prefix message c.requires)
    in
    ap (λ deed. made_by deed rule.prefix message) (sym (ap (λ rule. rule.deed) c.self.view_is) ∙ c.in-Mask.is) ∙ ap Some (sym laid)
