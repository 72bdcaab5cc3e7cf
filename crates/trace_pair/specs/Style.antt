-- The style of pages of two logs (CSS), which stands in `style/pair.css`, with what both pages have from
-- `trace_report`: one for all logs.
use Rattle.std.specs.Prelude.{ℕ, List}
use Rattle.trace_pair.specs.declared.style.TheConstants.{STYLE}

-- the text of the style, which only a law opens
unfoldable pub page_style : List ℕ
page_style = STYLE.now
