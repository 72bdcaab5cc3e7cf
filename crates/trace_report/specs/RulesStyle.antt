-- What the style of a page has besides, where the page is under rules (CSS).
use Rattle.std.specs.Prelude.{ℕ, List, [], ◌∷◌}
use Rattle.trace_report.specs.declared.rules_style.TheConstants.{RULES_STYLE}
use Rattle.uds_rules.specs.Rule.{RuleValue}

-- its text, which only a law opens
unfoldable pub ruled_style : List ℕ
ruled_style = RULES_STYLE.now

-- the same, where there are rules
abbrev pub rules_style : List RuleValue → List ℕ
rules_style [] = []
rules_style (rule ∷ rules) = ruled_style
