-- A message behind what is in a block leaves that where it was, and the other blocks, too.
use Rattle.std.proofs.Common.{◌-◌, ◌<◌, ◌∷◌, ◌∙◌, length, slice_set, ap, subst, arith, ℕ}
use Rattle.std.specs.Prelude.{Vec}
use Rattle.std.specs.declared.alloc.Global.{Global}
use Rattle.std.proofs.lemmas.List.{length-map}
use Rattle.uds_exchange.specs.Blocks.{Lays}
use Rattle.uds_exchange.specs.proving.Blocks.{block_bytes}
use Rattle.uds_exchange.proofs.InBlocks.{lays-in-first, lays-in-later, same-bytes}
use Rattle.std.proofs.lemmas.Result.{on_err_weaker}
use Rattle.uds_exchange.proofs.Results.{if_ok_by}
use Rattle.uds_exchange.proofs.messages.Messages.lay_behind.Goals as goal

pub returns-then-number-eq0-clause-laid : goal.returns-then-number-eq0-clause-laid
returns-then-number-eq0-clause-laid c =
    if_ok_by c.extend_block.result _ _ _
    (λ bytes span at. subst (λ old. Lays old span c.args.message.now (c.extend_block.new.block.items ∷ block_bytes c.self.inside.later.items))
    c.self.view_is
    (lays-in-first c.self.inside.first.items (block_bytes c.self.inside.later.items) c.args.number span c.args.message.now
    c.extend_block.new.block.items
    (omega (arith, c.if-number-eq0.true)) bytes at))
    c.extend_block.ensures.bytes c.extend_block.ensures.span

pub returns-else-number-eq0-clause-laid : goal.returns-else-number-eq0-clause-laid
returns-else-number-eq0-clause-laid c =
    let k = c.args.number - 1 in
    let later = c.self.inside.later.items in
    let new = c.extend_block-else-number-eq0.new.block in
    let below : k < length later =
    omega (arith, c.requires.block, ap length c.self.view_is, length-map later (λ (b : Vec ℕ Global). b.items), c.if-number-eq0.false) in
    if_ok_by c.extend_block-else-number-eq0.result _ _ _
    (λ bytes span at. subst (λ old. Lays old span c.args.message.now (block_bytes (c.self.inside.first ∷ slice_set later k new))) c.self.view_is
    (lays-in-later c.self.inside.first later k below c.index_mut-block.result.now new c.index_mut-block.ensures.value
    c.args.number span c.args.message.now (omega (arith, c.if-number-eq0.false)) bytes at))
    c.extend_block-else-number-eq0.ensures.bytes c.extend_block-else-number-eq0.ensures.span

pub returns-else-number-eq0-clause-err : goal.returns-else-number-eq0-clause-err
returns-else-number-eq0-clause-err c =
    let k = c.args.number - 1 in
    let later = c.self.inside.later.items in
    let below : k < length later =
    omega (arith, c.requires.block, ap length c.self.view_is, length-map later (λ (b : Vec ℕ Global). b.items), c.if-number-eq0.false) in
    on_err_weaker c.extend_block-else-number-eq0.result
    (λ same. same-bytes c.self.inside.first later k below c.index_mut-block.result.now c.extend_block-else-number-eq0.new.block
    c.index_mut-block.ensures.value same ∙ c.self.view_is)
    c.extend_block-else-number-eq0.ensures.err
