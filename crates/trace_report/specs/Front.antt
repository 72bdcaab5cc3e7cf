-- The front of a report: what stands before its rows. All of it is fixed but the style, the name of the log, which
-- stands in it twice, and the identifiers.
use Rattle.std.specs.Prelude.{ℕ, ◌++◌, List, [], codes, Option, Some, None}
use Rattle.can_log.specs.Canonical.{identifier_text}
use Rattle.can_log.specs.declared.frame.Id.{Id}
use Rattle.trace_log.specs.Settings.{Settings}
use Rattle.uds_rules.specs.Rule.{RuleValue}
use Rattle.trace_report.specs.RulesStyle.{rules_style}
use Rattle.shown_bytes.specs.LogNames.{name_text}

-- What a page is made for: its style, the name of the log, the identifiers, the limit of the log, and the rules that
-- its messages are under.
pub record PageTitleValue : Type 0 where
  pub style : List ℕ
  pub name : List ℕ
  pub tester : Id
  pub functional : Option Id
  pub unit : Id
  pub max_bytes : ℕ
  pub rules : List RuleValue

-- what the page of a log is made for that has this style, this name and this configuration
abbrev pub page_title : List ℕ → List ℕ → Settings → PageTitleValue
page_title style name settings = record {
  style = style;
  name = name;
  tester = settings.tester;
  functional = settings.functional;
  unit = settings.unit;
  max_bytes = settings.max_bytes;
  rules = settings.rules;
}

-- the front of each page, up to its title, by which nothing may be fetched and nothing may run
abbrev pub document_front : List ℕ
document_front =
    codes "<!doctype html>\n<html lang=\"en\">\n<head>\n<meta charset=\"utf-8\">\n"
    ++ codes "<meta name=\"viewport\" content=\"width=device-width, initial-scale=1\">\n"
    ++ codes "<meta name=\"color-scheme\" content=\"light dark\">\n"
    ++ codes "<meta http-equiv=\"Content-Security-Policy\" content=\"default-src 'none'; style-src 'unsafe-inline'; base-uri 'none'; form-action 'none'\">\n"

-- the head of the page of one log: its start, its title, and its style
abbrev pub head_text : PageTitleValue → List ℕ
head_text title =
    document_front ++ codes "<title>" ++ name_text title.name ++ codes " - udsnorm report</title>\n<style>\n" ++ title.style
    ++ rules_style title.rules ++ codes "</style>\n</head>\n<body>\n"

-- the shapes of the arrows: of a message (t, u), of a frame that was dropped (tx, ux), and of what was cut short (te,
-- ue)
abbrev pub shapes_text : List ℕ
shapes_text =
    codes "<svg class=\"defs\" aria-hidden=\"true\"><defs>\n"
    ++ codes "<g id=\"t\"><line class=\"l\" x2=\"100%\" y1=\"6\" y2=\"6\"/><svg x=\"100%\" overflow=\"visible\"><path class=\"h\" d=\"M0 6l-10-5v10z\"/></svg></g>\n"
    ++ codes "<g id=\"u\"><line class=\"l\" x2=\"100%\" y1=\"6\" y2=\"6\"/><path class=\"h\" d=\"M0 6l10-5v10z\"/></g>\n"
    ++ codes "<g id=\"tx\"><line class=\"l\" x2=\"60%\" y1=\"6\" y2=\"6\"/><svg x=\"60%\" overflow=\"visible\"><path class=\"k\" d=\"M-5 1l10 10m0-10l-10 10\"/></svg></g>\n"
    ++ codes "<g id=\"ux\"><line class=\"l\" x1=\"40%\" x2=\"100%\" y1=\"6\" y2=\"6\"/><svg x=\"40%\" overflow=\"visible\"><path class=\"k\" d=\"M-5 1l10 10m0-10l-10 10\"/></svg></g>\n"
    ++ codes "<g id=\"te\"><line class=\"l\" x2=\"60%\" y1=\"6\" y2=\"6\"/><svg x=\"60%\" overflow=\"visible\"><path class=\"k\" d=\"M1 0v12m5-12v12\"/></svg></g>\n"
    ++ codes "<g id=\"ue\"><line class=\"l\" x1=\"40%\" x2=\"100%\" y1=\"6\" y2=\"6\"/><svg x=\"40%\" overflow=\"visible\"><path class=\"k\" d=\"M-1 0v12m-5-12v12\"/></svg></g>\n"
    ++ codes "</defs></svg>\n"

-- the links of the page of one log; its verdict is written last: the style shows it first, and hides the words that say
-- so
abbrev pub page_links : List ℕ
page_links =
    codes "<p class=\"skip\"><a href=\"#verdict\">Verdict<span class=\"plain\">, at the end of this page</span></a> <a href=\"#session\">Session</a> <a href=\"#help\">How to read this page</a></p>\n"

-- the notice of a page that breaks off, which is hidden unless the style shows it, where the end of the page is
-- missing; and the end of the header
abbrev pub cut_notice : List ℕ
cut_notice =
    codes "<p id=\"cut\" role=\"status\" hidden>This page has no end. What wrote it was stopped, or the file was cut, or the page is still loading: it tells nothing of the rest of the session.</p>\n</header>\n"

-- the identifier on which the tester asks all units, behind its own; nothing where there is none
abbrev pub functional_text : Option Id → List ℕ
functional_text None = []
functional_text (Some functional) = codes ", functional " ++ identifier_text functional

-- the identifiers of a page, each by the name of its side
abbrev pub identifiers_text : Id → Option Id → Id → List ℕ
identifiers_text tester functional unit =
    codes "<p class=\"ids\"><span class=\"T\">tester " ++ identifier_text tester ++ functional_text functional
    ++ codes "</span> <span class=\"U\">unit " ++ identifier_text unit ++ codes "</span></p>\n"

-- the header of a page: the name of the log, the identifiers, the links, and the notice
abbrev pub header_text : PageTitleValue → List ℕ
header_text title =
    codes "<div class=\"page\">\n<header>\n<p class=\"brand\">udsnorm report</p>\n<h1>" ++ name_text title.name ++ codes "</h1>\n"
    ++ identifiers_text title.tester title.functional title.unit ++ page_links ++ cut_notice

-- the start of the chart of a session, with the filter that shows only what needs attention
abbrev pub session_start : List ℕ
session_start =
    codes "<main id=\"session\">\n<h2>Session</h2>\n"
    ++ codes "<p class=\"filter\"><input type=\"checkbox\" id=\"only\"> <label for=\"only\">Show only what needs a look</label></p>\n"

-- the front of a page of one log: all that stands before its rows
abbrev pub front_text : PageTitleValue → List ℕ
front_text title = head_text title ++ shapes_text ++ header_text title ++ session_start
