-- Devices of proof: what the code holds of a page, without where its bytes lie in memory.
use Rattle.trace_report.specs.Front.{PageTitleValue}
use Rattle.trace_report.specs.declared.front.PageTitle.{PageTitle}

-- what a page is made for, as it is
abbrev pub title_of : PageTitle → PageTitleValue
title_of title = record {
  style = title.style.now;
  name = title.name.now;
  tester = title.tester;
  functional = title.functional;
  unit = title.unit;
  max_bytes = title.max_bytes;
  rules = title.rules.now;
}
