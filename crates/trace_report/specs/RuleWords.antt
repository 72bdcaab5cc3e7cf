-- The rules that a page is under, and of how many messages each spoke.
use Rattle.std.specs.Prelude.{ℕ, ◌==◌, List, [], ◌∷◌, ◌++◌, codes, length, if◌then◌else◌}
use Rattle.std.specs.Fmt.{decimal}
use Rattle.trace_text.specs.Counts.{messages_word}
use Rattle.trace_text.specs.RuleText.{rule_text}
use Rattle.uds_rules.specs.Rule.{RuleValue}

-- so many rules
abbrev pub rules_word : ℕ → List ℕ
rules_word count = if count == 1 then codes "1 rule" else decimal count ++ codes " rules"

-- a rule, and of how many messages of the log it spoke
abbrev pub rule_line : RuleValue → ℕ → List ℕ
rule_line rule count = codes "<li><code>" ++ rule_text rule ++ codes "</code>: " ++ messages_word count ++ codes "\n"

-- each rule in its order, and of how many messages of the log it spoke
abbrev pub rule_lines : List RuleValue → List ℕ → List ℕ
rule_lines [] counts = []
rule_lines (rule ∷ rules) [] = []
rule_lines (rule ∷ rules) (count ∷ counts) = rule_line rule count ++ rule_lines rules counts

-- the start of what a page says of so many rules
abbrev pub rules_start : ℕ → List ℕ
rules_start count =
    codes "<section id=\"rules\">\n<h2>Under " ++ rules_word count ++ codes "</h2>\n"
    ++ codes "<p>Messages that begin so are left out, or masked, before anything else is made of them: <code>..</code> is a masked byte, and <code>*</code> stands where what follows, if anything, is cut off.</p>\n<ul>\n"

-- the end of it
abbrev pub rules_end : List ℕ
rules_end = codes "</ul>\n</section>\n"

-- what the page of a log says above its verdict of the rules that it is under; nothing, where there are none
abbrev pub rules_text : List RuleValue → List ℕ → List ℕ
rules_text [] counts = []
rules_text (rule ∷ rules) counts = rules_start (length (rule ∷ rules)) ++ rule_lines (rule ∷ rules) counts ++ rules_end
