-- The style of pages (CSS), which stands in `style/report.css` and `style/common.css`: one for all logs.
use Rattle.std.specs.Prelude.{ℕ, List}
use Rattle.trace_report.specs.declared.style.TheConstants.{STYLE}

-- the text of the style of each page of a log, which only a law opens
unfoldable pub page_style : List ℕ
page_style = STYLE.now
