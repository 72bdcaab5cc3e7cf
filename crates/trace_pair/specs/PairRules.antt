-- The rules that a page of two logs is under, and of how many messages of each log they spoke.
use Rattle.std.specs.Prelude.{ℕ, List, [], ◌∷◌, ◌++◌, codes, length}
use Rattle.std.specs.Fmt.{decimal}
use Rattle.std.specs.List.{flat_map}
use Rattle.trace_report.specs.RuleWords.{rules_end, rules_start}
use Rattle.trace_report.specs.Session.{SessionValue}
use Rattle.trace_text.specs.Counts.{messages_word}
use Rattle.trace_text.specs.RuleText.{rule_text}
use Rattle.uds_rules.specs.Rule.{RuleValue}

-- a rule, and of how many messages of each log it spoke
abbrev pub pair_rule_line : RuleValue → ℕ → ℕ → List ℕ
pair_rule_line rule left right =
    codes "<li><code>" ++ rule_text rule ++ codes "</code>: " ++ messages_word left ++ codes " of A, " ++ decimal right ++ codes " of B\n"

-- each rule in its order, and of how many messages of each log it spoke
abbrev pub pair_rule_lines : List RuleValue → List ℕ → List ℕ → List ℕ
pair_rule_lines (rule ∷ rules) (left ∷ lefts) (right ∷ rights) = pair_rule_line rule left right ++ pair_rule_lines rules lefts rights
pair_rule_lines _ _ _ = []

-- what is said above the verdict of rules that spoke of so many messages of each log; nothing, where there are none
abbrev pub pair_rules_text : List RuleValue → List ℕ → List ℕ → List ℕ
pair_rules_text [] lefts rights = []
pair_rules_text (rule ∷ rules) lefts rights =
    rules_start (length (rule ∷ rules)) ++ pair_rule_lines (rule ∷ rules) lefts rights ++ rules_end

-- a rule where no message is counted
abbrev pub uncounted_line : RuleValue → List ℕ
uncounted_line rule = codes "<li><code>" ++ rule_text rule ++ codes "</code>\n"

-- what is said above the verdict of rules where nothing is compared, so that no message is counted; nothing, where there are none
abbrev pub uncounted_rules : List RuleValue → List ℕ
uncounted_rules [] = []
uncounted_rules (rule ∷ rules) = rules_start (length (rule ∷ rules)) ++ flat_map uncounted_line (rule ∷ rules) ++ rules_end

-- what is said of the counted rules of two sessions, which are those of one configuration
abbrev pub rules_of_both : SessionValue → SessionValue → List ℕ
rules_of_both left right = pair_rules_text left.rules left.spoken right.spoken
