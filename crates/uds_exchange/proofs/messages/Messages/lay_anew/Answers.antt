-- A message that begins a block leaves the others as they were.
use Rattle.std.proofs.Common.{◌∷◌, refl, subst}
use Rattle.uds_exchange.specs.Blocks.{Lays}
use Rattle.uds_exchange.specs.proving.Blocks.{block_bytes}
use Rattle.uds_exchange.proofs.InBlocks.{lays-in-first, lays-anew}
use Rattle.uds_exchange.proofs.Results.{if_ok_by}
use Rattle.uds_exchange.proofs.messages.Messages.lay_anew.Goals as goal

pub returns-then-is_empty-clause-laid : goal.returns-then-is_empty-clause-laid
returns-then-is_empty-clause-laid c =
    if_ok_by c.start_first.result _ _ _
    (λ bytes span at. subst (λ old. Lays old span c.args.message.now (c.start_first.new.first.items ∷ block_bytes c.self.inside.later.items))
    c.self.view_is
    (lays-in-first c.self.inside.first.items (block_bytes c.self.inside.later.items) 0 span c.args.message.now c.start_first.new.first.items refl
    bytes at))
    c.start_first.ensures.bytes c.start_first.ensures.span

pub returns-then-span-le-LONG-clause-laid : goal.returns-then-span-le-LONG-clause-laid
returns-then-span-le-LONG-clause-laid c =
    subst (λ old. Lays old c.in_ok-span.span c.args.message.now (c.self.inside.first.items ∷ block_bytes c.start_later.new.later.items))
    c.self.view_is
    (lays-anew c.self.inside.first.items c.self.inside.later.items c.start_later.new.later.items c.in_ok-span.span c.args.message.now
    c.in_ok-span.ensures.bytes c.in_ok-span.ensures.span)

pub returns-else-span-le-LONG-clause-laid : goal.returns-else-span-le-LONG-clause-laid
returns-else-span-le-LONG-clause-laid c =
    subst (λ old. Lays old c.in_ok-span.span c.args.message.now (c.self.inside.first.items ∷ block_bytes c.start_later.new.later.items))
    c.self.view_is
    (lays-anew c.self.inside.first.items c.self.inside.later.items c.start_later.new.later.items c.in_ok-span.span c.args.message.now
    c.in_ok-span.ensures.bytes c.in_ok-span.ensures.span)
