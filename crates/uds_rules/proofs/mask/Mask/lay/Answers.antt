use Rattle.std.proofs.Common.{◌∙◌}
use Rattle.uds_rules.proofs.Masks.{copy_is}
use Rattle.uds_rules.proofs.mask.Mask.lay.Goals as goal

pub returns : goal.returns
returns c =
    c.mask_bytes.ensures
    ∙ rw (c.in_ok-extend_from_slice.ensures.items, c.clear.ensures.items, c.left_count-count.ensures)
    (copy_is c.args.self.now c.args.start c.args.message.now c.requires)
