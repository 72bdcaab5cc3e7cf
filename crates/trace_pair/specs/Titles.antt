-- What a page of two logs is made for.
use Rattle.std.specs.Prelude.{ℕ, List, Option}
use Rattle.can_log.specs.declared.frame.Id.{Id}
use Rattle.trace_log.specs.Settings.{Settings}
use Rattle.trace_pair.specs.declared.title.Title.{Title}
use Rattle.uds_rules.specs.Rule.{RuleValue}

-- what a page is made for: its style, the names of the logs, the identifiers, and the rules
pub record TitleValue : Type 0 where
  pub style : List ℕ
  pub left : List ℕ
  pub right : List ℕ
  pub tester : Id
  pub functional : Option Id
  pub unit : Id
  pub rules : List RuleValue

-- a title, as contracts see it
abbrev pub title_of : Title → TitleValue
title_of title = record {
  style = title.style.now;
  left = title.left.now;
  right = title.right.now;
  tester = title.tester;
  functional = title.functional;
  unit = title.unit;
  rules = title.rules.now;
}

-- the title of logs with these names and this configuration
abbrev pub title_for : List ℕ → List ℕ → List ℕ → Settings → TitleValue
title_for style left right settings = record {
  style = style;
  left = left;
  right = right;
  tester = settings.tester;
  functional = settings.functional;
  unit = settings.unit;
  rules = settings.rules;
}
