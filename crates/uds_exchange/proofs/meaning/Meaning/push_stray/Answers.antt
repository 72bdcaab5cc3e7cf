-- One more stray is kept behind the items before.
use Rattle.std.proofs.Common.{◌∙◌, ◌++◌, ◌∷◌, [], ap}
use Rattle.uds_exchange.specs.declared.meaning.KeptItem.TheVariants as kept
use Rattle.uds_exchange.specs.Meaning.{stray}
use Rattle.uds_exchange.proofs.KeptItems.{pushed-kept, pushed-items}
use Rattle.uds_exchange.proofs.meaning.Meaning.push_stray.Goals as goal

pub invariant_of-self-2 : goal.invariant_of-self-2
invariant_of-self-2 c =
    let all = c.push_reserved.ensures.items ∙ ap (λ l. l ++ kept.Stray c.args.dir c.in_ok-bytes.bytes ∷ []) c.reserve.ensures.items in
    pushed-kept c.self.inside.messages c.append.new.self c.in_ok-bytes.ensures.laid.goes_on c.self.inside.items.items c.self.invariant
    (kept.Stray c.args.dir c.in_ok-bytes.bytes) c.push_reserved.new.self.items all c.in_ok-bytes.ensures.laid.holds.inside

pub returns-clause-ok : goal.returns-clause-ok
returns-clause-ok c =
    let more = c.args.bytes.now in
    let all = c.push_reserved.ensures.items ∙ ap (λ l. l ++ kept.Stray c.args.dir c.in_ok-bytes.bytes ∷ []) c.reserve.ensures.items in
    pushed-items c.self.inside.messages c.append.new.self c.in_ok-bytes.ensures.laid.goes_on c.self.inside.items.items c.self.invariant
    (kept.Stray c.args.dir c.in_ok-bytes.bytes) c.push_reserved.new.self.items (stray c.args.dir more) all
    (ap (stray c.args.dir) c.in_ok-bytes.ensures.laid.holds.bytes)
    ∙ ap (λ l. l ++ stray c.args.dir more ∷ []) c.self.view_is
