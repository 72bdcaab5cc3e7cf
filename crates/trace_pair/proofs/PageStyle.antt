-- The style of pages of two logs, byte by byte.
use Rattle.std.proofs.Common.{refl}
use Rattle.trace_pair.specs.Laws.{StyleHoldsNoTag}
use Rattle.trace_pair.specs.Style.{page_style}

pub style_holds_no_tag : StyleHoldsNoTag
unfolding page_style
style_holds_no_tag = refl
