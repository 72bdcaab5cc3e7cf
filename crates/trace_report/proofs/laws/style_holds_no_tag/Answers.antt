-- The laws are those of each style.
use Rattle.trace_report.proofs.PageStyle.{ruled_style_holds_no_tag, style_holds_no_tag}
use Rattle.trace_report.proofs.laws.style_holds_no_tag.Goals as goal

pub returns : goal.returns
returns c = record { style = style_holds_no_tag; rules = ruled_style_holds_no_tag }
