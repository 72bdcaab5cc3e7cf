-- What is answered of a page of a log that lies in memory. No device fails there: what has no page can't be read, or
-- memory was refused.
use Rattle.std.specs.Prelude.{⊤, ℕ, List}
use Rattle.trace_canon.specs.InMemory.{IsSaidWith}
use Rattle.trace_log.specs.Settings.{Settings}
use Rattle.trace_log.specs.declared.summary.Summary.{Summary}
use Rattle.trace_report.specs.Front.{PageTitleValue}
use Rattle.trace_report.specs.Page.{report_script}

-- the log can be read and has these counts, and this is the page with this title
abbrev pub IsPageWith : PageTitleValue → ℕ → Settings → List ℕ → List ℕ → Summary → Type 0
IsPageWith title limit settings = IsSaidWith (report_script title limit settings.rules) limit settings

-- memory is needed to gather a page: each has its front
abbrev pub NeedsMemoryForPage : ℕ → Settings → List ℕ → Type 0
NeedsMemoryForPage limit settings log = ⊤
