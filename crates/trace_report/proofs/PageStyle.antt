-- The style of pages, byte by byte.
use Rattle.std.proofs.Common.{refl}
use Rattle.trace_report.specs.Laws.{RuledStyleHoldsNoTag, StyleHoldsNoTag}
use Rattle.trace_report.specs.RulesStyle.{ruled_style}
use Rattle.trace_report.specs.Style.{page_style}

pub style_holds_no_tag : StyleHoldsNoTag
unfolding page_style
style_holds_no_tag = refl

pub ruled_style_holds_no_tag : RuledStyleHoldsNoTag
unfolding ruled_style
ruled_style_holds_no_tag = refl
