use Rattle.trace_log.proofs.MaskedItems.{masks_keep_items}
use Rattle.trace_log.proofs.laws.masks_keep_items.Goals as goal

pub returns : goal.returns
returns c = masks_keep_items
