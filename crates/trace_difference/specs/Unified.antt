-- The unified text of a difference, as `diff -u` writes it of the lists of both sessions without numbers.
use Prim.Native.Nat.{zero, suc}
use Rattle.std.specs.Prelude.{ℕ, ◌+◌, Bool, true, false, List, [], ◌∷◌, ◌++◌, codes, if◌then◌else◌}
use Rattle.std.specs.Fmt.{decimal}
use Rattle.std.specs.List.{flat_map}
use Rattle.uds_exchange.specs.Meaning.{ItemValue}
use Rattle.uds_difference.specs.declared.row.Row.{Row}
use Rattle.shown_rows.specs.Hunks.{Hunk, hunks}
use Rattle.shown_rows.specs.Rows.{differs, left_count, right_count}
use Rattle.uds_rules.specs.Rule.{RuleValue}
use Rattle.trace_canon.specs.declared.collector.Session.{Session}
use Rattle.trace_text.specs.Counts.{messages_word}
use Rattle.trace_text.specs.RuleText.{rule_text}
use Rattle.trace_difference.specs.Labels.{label}
use Rattle.trace_difference.specs.Lines.{line_text, lines_of}

-- which lines of a list a hunk has, by how many stand before them and how many they are: the number of the first one,
-- or of the one in front where there is none, and how many they are where it is not one
abbrev pub span_text : ℕ → ℕ → List ℕ
span_text before zero = decimal before ++ codes ",0"
span_text before (suc zero) = decimal (before + 1)
span_text before (suc (suc more)) = decimal (before + 1) ++ codes "," ++ decimal (suc (suc more))

-- the line in front of a hunk
abbrev pub hunk_header : Hunk → List ℕ
hunk_header hunk =
    codes "@@ -" ++ span_text hunk.left (left_count hunk.rows) ++ codes " +" ++ span_text hunk.right (right_count hunk.rows) ++ codes " @@\n"

-- a hunk
abbrev pub hunk_text : List RuleValue → List ItemValue → List ItemValue → Hunk → List ℕ
hunk_text rules xs ys hunk = hunk_header hunk ++ flat_map line_text (lines_of rules xs ys hunk.left hunk.right hunk.rows)

-- the names of both files
abbrev pub header_text : List ℕ → List ℕ → List ℕ
header_text left_name right_name = codes "--- " ++ label left_name ++ codes "\n+++ " ++ label right_name ++ codes "\n"

-- of how many messages of both logs a rule spoke, as they were before any rule
abbrev pub rule_note : RuleValue → ℕ → ℕ → List ℕ
rule_note rule left right =
    codes "# " ++ rule_text rule ++ codes ": " ++ messages_word left ++ codes " of A, " ++ decimal right ++ codes " of B\n"

-- that of each rule, in their order
abbrev pub rule_notes : List RuleValue → List ℕ → List ℕ → List ℕ
rule_notes (rule ∷ rules) (left ∷ lefts) (right ∷ rights) = rule_note rule left right ++ rule_notes rules lefts rights
rule_notes _ _ _ = []

-- that a shorter script may keep equal items, where the bound was passed up to which a shortest one is looked for
abbrev pub note_text : Bool → ℕ → List ℕ
note_text true bound = []
note_text false bound = codes "# perhaps not the shortest: more than " ++ decimal bound ++ codes " items would be removed or added\n"

-- the text of rows of two sessions: nothing where nothing differs
abbrev pub unified_text : List RuleValue → List ℕ → List ℕ → Bool → ℕ → List Row → Session → Session → List ℕ
unified_text rules left_name right_name shortest bound rows left right =
    if differs rows
    then rule_notes rules left.spoken.items right.spoken.items ++ note_text shortest bound ++ header_text left_name right_name
    ++ flat_map (hunk_text rules left.meaning right.meaning) (hunks rows)
    else []
