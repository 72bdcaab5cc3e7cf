-- The changes of two sessions, in a list: where each stands, what it is, and whether a log is not clean there.
use Rattle.std.specs.Prelude.{ℕ, ◌+◌, ◌-◌, ◌==◌, ◌<◌, ◌^◌, Bool, true, false, List, [], ◌++◌, codes, slice_get, Option, Some, if◌then◌else◌}
use Rattle.std.specs.Fmt.{decimal}
use Rattle.text_parts.specs.Parts.{text_if_some}
use Rattle.uds_exchange.specs.Meaning.{ItemValue}
use Rattle.uds_difference.specs.declared.row.Row.{Row}
use Rattle.uds_difference.specs.declared.row.Row.TheVariants.{Same, Changed, OnlyLeft, OnlyRight}
use Rattle.shown_rows.specs.declared.changes.Change.{Change}
use Rattle.uds_rules.specs.Rule.{RuleValue}
use Rattle.pair_words.specs.declared.log.PairLog.{PairLog}
use Rattle.pair_words.specs.declared.log.PairLog.TheVariants.{A, B}
use Rattle.pair_words.specs.DifferenceNames.{difference_name}
use Rattle.pair_words.specs.Logs.{letter}
use Rattle.trace_pair.specs.ItemWords.{differ, item_title, outcome_note}

-- the change stands where a memory has room for it
pub record IsSmall (here : Change) : Type 0 where
  pub left : here.left + here.count < 2 ^ 63
  pub right : here.right + here.count < 2 ^ 63

-- items of a log by their numbers: one, or so many from one on
abbrev pub items_range : PairLog → ℕ → ℕ → List ℕ
items_range log before count =
    letter log ++ codes "&#160;" ++ decimal (before + 1) ++ (if count == 1 then [] else codes "&#8211;" ++ decimal (before + count))

-- where a change of this kind stands, before which so many items of both stand, and which has so many
abbrev pub where_text : Row → ℕ → ℕ → ℕ → List ℕ
where_text Same left right count = []
where_text Changed left right count = items_range A left 1 ++ codes ", " ++ items_range B right 1
where_text OnlyLeft left right count = items_range A left count
where_text OnlyRight left right count = items_range B right count

-- what kind it is of
abbrev pub tag : Row → List ℕ
tag Same = []
tag Changed = codes "changed"
tag OnlyLeft = codes "only in A"
tag OnlyRight = codes "only in B"

-- a change of two items, if they are there
abbrev pub pair_words : List RuleValue → Option ItemValue → Option ItemValue → List ℕ
pair_words rules (Some x) (Some y) = item_title rules x ++ codes ": " ++ differ rules x y
pair_words rules _ _ = []

-- so many items that stand alone, from the place of the first one on
abbrev pub run_words : List RuleValue → List ItemValue → ℕ → ℕ → List ℕ
run_words rules items first count =
    if count == 1 then text_if_some (item_title rules) (slice_get items first) ++ text_if_some outcome_note (slice_get items first)
    else decimal count ++ codes " items, from " ++ text_if_some (item_title rules) (slice_get items first) ++ codes " to "
    ++ text_if_some (item_title rules) (slice_get items (first + count - 1))

-- what a change is
abbrev pub what_text : List RuleValue → List ItemValue → List ItemValue → Row → ℕ → ℕ → ℕ → List ℕ
what_text rules xs ys Same left right count = []
what_text rules xs ys Changed left right count = pair_words rules (slice_get xs left) (slice_get ys right)
what_text rules xs ys OnlyLeft left right count = run_words rules xs left count
what_text rules xs ys OnlyRight left right count = run_words rules ys right count

-- which log is not clean at a change, if one isn't
abbrev pub unclean_note : Bool → Bool → List ℕ
unclean_note true true = codes " <em class=\"loss\">neither is clean here</em>"
unclean_note true false = codes " <em class=\"loss\">A is not clean here</em>"
unclean_note false true = codes " <em class=\"loss\">B is not clean here</em>"
unclean_note false false = []

-- where a change stands: a link to the one of this number, or the words alone
abbrev pub where_link : Bool → ℕ → List ℕ → List ℕ
where_link true number place = codes "<a href=\"#" ++ difference_name number ++ codes "\">" ++ place ++ codes "</a>"
where_link false number place = place

-- a change in a line
abbrev pub change_line : List RuleValue → Bool → ℕ → Bool → Bool → List ItemValue → List ItemValue → Change → List ℕ
change_line rules linked number left_lossy right_lossy xs ys here =
    codes "<span class=\"where\">" ++ where_link linked number (where_text here.kind here.left here.right here.count) ++ codes "</span> <b class=\"tag\">" ++ tag here.kind
    ++ codes "</b> <span class=\"what\">" ++ what_text rules xs ys here.kind here.left here.right here.count ++ unclean_note left_lossy right_lossy ++ codes "</span>"
