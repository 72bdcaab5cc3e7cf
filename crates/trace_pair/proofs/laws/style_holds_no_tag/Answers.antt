-- The law is its lemma of the style.
use Rattle.trace_pair.proofs.PageStyle.{style_holds_no_tag}
use Rattle.trace_pair.proofs.laws.style_holds_no_tag.Goals as goal

pub returns : goal.returns
returns c = style_holds_no_tag
