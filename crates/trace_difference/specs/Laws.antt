-- What holds of the text of any two sessions.
use Rattle.std.specs.Prelude.{◌≡◌, ◌↔◌, ℕ, ◌+◌, List, [], ◌∷◌, ◌++◌, length, map}
use Rattle.std.specs.List.{flat_map}
use Rattle.uds_exchange.specs.Meaning.{ItemValue}
use Rattle.uds_difference.specs.Rows.{rows_of}
use Rattle.uds_difference.specs.declared.row.Row.TheVariants.{Same, Changed, OnlyLeft, OnlyRight}
use Rattle.trace_canon.specs.declared.collector.Session.{Session}
use Rattle.trace_text.specs.ItemLines.{list_text}
use Rattle.trace_text.specs.declared.item_style.ItemStyle.{ItemStyle}
use Rattle.trace_text.specs.declared.item_style.Numbering.TheVariants.{Hidden}
use Rattle.trace_text.specs.declared.notation.Notation.TheVariants.{Text}
use Rattle.shown_rows.specs.Hunks.{Hunk, hunks}
use Rattle.shown_rows.specs.Rows.{left_count, right_count}
use Rattle.uds_rules.specs.Rule.{RuleValue}
use Rattle.trace_difference.specs.Lines.{Line, added, kept, removed, lines_of, listed}
use Rattle.shown_rows.specs.Rows.{count_of}
use Rattle.trace_difference.specs.Written.{difference_text}

-- the lines that a hunk has of the left list: what it keeps and what it removes
abbrev pub old_lines : List Line → List (List ℕ)
old_lines [] = []
old_lines ((kept, text) ∷ lines) = text ∷ old_lines lines
old_lines ((removed, text) ∷ lines) = text ∷ old_lines lines
old_lines ((added, text) ∷ lines) = old_lines lines

-- those of the right list: what it keeps and what it adds
abbrev pub new_lines : List Line → List (List ℕ)
new_lines [] = []
new_lines ((kept, text) ∷ lines) = text ∷ new_lines lines
new_lines ((removed, text) ∷ lines) = new_lines lines
new_lines ((added, text) ∷ lines) = text ∷ new_lines lines

-- A hunk that has these lines leads from one list to another, each behind so many lines: both go on alike up to the
-- lines that its header names, as many as it says; the one has there what the hunk keeps and removes, the other what it
-- keeps and adds; and what is behind them in both is left for the later hunks.
pub record Applies (hunk : Hunk) (lines : List Line) (left right : ℕ) (one other one_rest other_rest : List (List ℕ)) : Type 0 where
  pub alike : List (List ℕ)
  pub left_is : hunk.left ≡ left + length alike
  pub right_is : hunk.right ≡ right + length alike
  pub one_is : one ≡ alike ++ old_lines lines ++ one_rest
  pub other_is : other ≡ alike ++ new_lines lines ++ other_rest
  pub left_many : left_count hunk.rows ≡ length (old_lines lines)
  pub right_many : right_count hunk.rows ≡ length (new_lines lines)

-- Hunks of two sessions lead from one list of lines to another, each behind so many lines; behind the last hunk both are
-- alike.
abbrev pub Leads : List RuleValue → List ItemValue → List ItemValue → List Hunk → ℕ → ℕ → List (List ℕ) → List (List ℕ) → Type 0
Leads rules xs ys [] left right one other = one ≡ other
Leads rules xs ys (hunk ∷ later) left right one other =
    (one_rest other_rest : List (List ℕ))
    × Applies hunk (lines_of rules xs ys hunk.left hunk.right hunk.rows) left right one other one_rest other_rest
    × Leads rules xs ys later (hunk.left + left_count hunk.rows) (hunk.right + right_count hunk.rows) one_rest other_rest

-- what the text of two sessions removes from the left list and adds to it is the right list
abbrev pub HunksLeadToTheRight : Type 0
HunksLeadToTheRight = (rules : List RuleValue) (xs ys : List ItemValue)
    → Leads rules xs ys (hunks (rows_of xs ys)) 0 0 (map (listed rules) xs) (map (listed rules) ys)

-- these lines are the list of a session under rules, without numbers
abbrev pub ListedLinesAreTheList : Type 0
ListedLinesAreTheList = (rules : List RuleValue) (items : List ItemValue)
    → let style : ItemStyle = record { numbering = Hidden; notation = Text } in flat_map (listed rules) items ≡ list_text rules style items

-- nothing is written in words exactly where both sessions have one meaning
abbrev pub NothingIsWrittenOfEqualSessions : Type 0
NothingIsWrittenOfEqualSessions = (rules : List RuleValue) (left_name right_name : List ℕ) (left right : Session)
    → (left.meaning ≡ right.meaning) ↔ (difference_text rules Text left_name right_name left right ≡ [])
