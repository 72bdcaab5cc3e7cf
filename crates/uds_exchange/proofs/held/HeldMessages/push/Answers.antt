-- One more message lies behind those before, and its length is in the sum.
use Rattle.std.proofs.Common.{◌∙◌, ◌++◌, ◌∷◌, [], ap, rules}
use Rattle.uds_exchange.specs.declared.held.HeldMessage.{HeldMessage}
use Rattle.uds_exchange.proofs.HeldMessages.{pushed, pushed-held}
use Rattle.uds_exchange.proofs.held.HeldMessages.push.Goals as goal

pub invariant_of-self-2 : goal.invariant_of-self-2
invariant_of-self-2 c =
    let one : HeldMessage = record {
      len = c.in_ok-span.span.len;
      block = c.in_ok-span.span.block;
      start = c.in_ok-span.span.start;
      dir = c.args.dir;
    } in
    let grown = c.push_reserved.ensures.items ∙ ap (λ l. l ++ one ∷ []) c.reserve.ensures.items in
    pushed-held c.self.inside.messages c.append.new.self c.in_ok-span.ensures.laid.goes_on c.self.inside.places.items
    c.push_reserved.new.self.items c.self.invariant.inside
    one grown c.args.message.now c.in_ok-span.ensures.laid.holds c.self.inside.total c.in-Some.total c.self.invariant.sum (search rules)

pub returns-clause-ok : goal.returns-clause-ok
returns-clause-ok c =
    let one : HeldMessage = record {
      len = c.in_ok-span.span.len;
      block = c.in_ok-span.span.block;
      start = c.in_ok-span.span.start;
      dir = c.args.dir;
    } in
    let grown = c.push_reserved.ensures.items ∙ ap (λ l. l ++ one ∷ []) c.reserve.ensures.items in
    pushed c.self.inside.messages c.append.new.self c.in_ok-span.ensures.laid.goes_on c.self.inside.places.items c.push_reserved.new.self.items
    c.self.invariant.inside
    one grown c.args.message.now c.in_ok-span.ensures.laid.holds
    ∙ ap (λ l. l ++ (c.args.dir, c.args.message.now) ∷ []) c.self.view_is
