-- The lines of a hunk.
use Rattle.std.specs.Prelude.{ℕ, ◌+◌, List, [], ◌∷◌, ◌++◌, codes, slice_get}
use Rattle.text_parts.specs.Parts.{text_if_some}
use Rattle.uds_exchange.specs.Meaning.{ItemValue}
use Rattle.uds_difference.specs.declared.row.Row.{Row}
use Rattle.uds_difference.specs.declared.row.Row.TheVariants.{Same, Changed, OnlyLeft, OnlyRight}
use Rattle.trace_text.specs.ItemLines.{worded_line}
use Rattle.trace_text.specs.declared.item_style.Numbering.TheVariants.{Hidden}
use Rattle.uds_rules.specs.Rule.{RuleValue}

-- what becomes of a line
pub data Sign : Type 0 where
  kept : Sign
  removed : Sign
  added : Sign

-- a line: what becomes of it, and its text in the list of its session
abbrev pub Line : Type 0
Line = Sign × List ℕ

-- the line that `list` has under rules for an item without numbers
abbrev pub listed : List RuleValue → ItemValue → List ℕ
listed rules item = worded_line rules Hidden 0 item

-- the line of the item at a place, if there is one
abbrev pub line_at : List RuleValue → List ItemValue → ℕ → List ℕ
line_at rules items place = text_if_some (listed rules) (slice_get items place)

-- the item at a place of the right list is added
abbrev pub added_at : List RuleValue → List ItemValue → ℕ → Line
added_at rules items place = (added, line_at rules items place)

-- these lines of added items, behind the removed ones that stand in front of the others
abbrev pub behind_removed : List Line → List Line → List Line
behind_removed more ((removed, text) ∷ lines) = (removed, text) ∷ behind_removed more lines
behind_removed more lines = more ++ lines

-- The lines of rows, whose first one stands at these places of both lists. At a place that the sessions differ in, all
-- that is removed stands in front of all that is added; a changed item is removed, and one is added.
abbrev pub lines_of : List RuleValue → List ItemValue → List ItemValue → ℕ → ℕ → List Row → List Line
lines_of rules xs ys i j [] = []
lines_of rules xs ys i j (Same ∷ rows) = (kept, line_at rules xs i) ∷ lines_of rules xs ys (i + 1) (j + 1) rows
lines_of rules xs ys i j (Changed ∷ rows) =
    (removed, line_at rules xs i) ∷ behind_removed (added_at rules ys j ∷ []) (lines_of rules xs ys (i + 1) (j + 1) rows)
lines_of rules xs ys i j (OnlyLeft ∷ rows) = (removed, line_at rules xs i) ∷ lines_of rules xs ys (i + 1) j rows
lines_of rules xs ys i j (OnlyRight ∷ rows) = behind_removed (added_at rules ys j ∷ []) (lines_of rules xs ys i (j + 1) rows)

-- what stands before a line
abbrev pub sign_text : Sign → List ℕ
sign_text kept = codes " "
sign_text removed = codes "-"
sign_text added = codes "+"

-- a line, as it is written
abbrev pub line_text : Line → List ℕ
line_text line = sign_text line.0 ++ line.1
