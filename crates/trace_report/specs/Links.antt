-- What needs attention in a report: for each reason how many rows, and links to the first ten.
use Rattle.std.specs.Prelude.{ℕ, ◌-◌, ◌==◌, ◌&&◌, Bool, List, [], ◌∷◌, ◌++◌, codes, nat_lt, if◌then◌else◌}
use Rattle.std.specs.Fmt.{decimal}
use Rattle.std.specs.List.{flat_map}
use Rattle.trace_text.specs.Words.{direction_text}
use Rattle.trace_report.specs.Sorts.{most_links}
use Rattle.trace_report.specs.Targets.{identifier}
use Rattle.trace_report.specs.declared.other_answers.OtherAnswers.{OtherAnswers}
use Rattle.trace_report.specs.declared.tally.SortCounts.{SortCounts}
use Rattle.trace_report.specs.declared.tally.Tally.{Tally}
use Rattle.trace_report.specs.declared.targets.LinkTarget.{LinkTarget}
use Rattle.trace_report.specs.declared.targets.LinkTarget.TheVariants as target

-- how a link to a place is called
abbrev pub link_words : LinkTarget → List ℕ
link_words (target.Item number) = codes "item " ++ decimal number
link_words (target.Line number) = codes "line " ++ decimal number
link_words (target.Side d) = codes "of the " ++ direction_text d

-- a link to a place: where it leads, and how it is called
abbrev pub link_text : LinkTarget → List ℕ
link_text place = codes "<a href=\"#" ++ identifier place ++ codes "\">" ++ link_words place ++ codes "</a>"

-- a link to a place behind another link
abbrev pub link_behind : LinkTarget → List ℕ
link_behind place = codes ", " ++ link_text place

-- links to these places, each behind another link
abbrev pub links_behind : List LinkTarget → List ℕ
links_behind places = flat_map link_behind places

-- links to these places, with commas between
abbrev pub links_text : List LinkTarget → List ℕ
links_text [] = []
links_text (place ∷ rest) = link_text place ++ links_behind rest

-- so many rows there are besides those that are linked to
abbrev pub others_text : ℕ → List ℕ
others_text count = codes " and " ++ decimal count ++ codes " more"

-- how many more rows there are, where there are more than are linked to
abbrev pub more_text : ℕ → List ℕ
more_text count = if nat_lt most_links count then others_text (count - most_links) else []

-- what needs attention for one reason: how many rows, and links to the first
abbrev pub attention_entry : List ℕ → ℕ → List LinkTarget → List ℕ
attention_entry words count first =
    codes "<li>" ++ words ++ codes " <b>" ++ decimal count ++ codes "</b>: " ++ links_text first ++ more_text count ++ codes "\n"

-- what needs attention for one reason, if a row does
abbrev pub attention_line : List ℕ → ℕ → List LinkTarget → List ℕ
attention_line words count first = if count == 0 then [] else attention_entry words count first

-- what needs attention, a line for each reason
abbrev pub attention_lines : Tally → OtherAnswers → List ℕ
attention_lines tally others =
    attention_line (codes "dropped frames") tally.counts.dropped tally.first.dropped.items
    ++ attention_line (codes "ended early") tally.counts.ended tally.first.ended.items
    ++ attention_line (codes "unfinished") tally.counts.unfinished tally.first.unfinished.items
    ++ attention_line (codes "negative answers") tally.counts.negatives tally.first.negatives.items
    ++ attention_line (codes "other than asked") others.count others.first.items
    ++ attention_line (codes "without an answer") tally.counts.unanswered tally.first.unanswered.items
    ++ attention_line (codes "strays") tally.counts.strays tally.first.strays.items

-- no row needs attention, by the counts of their sorts
abbrev pub needs_no_attention : SortCounts → Bool
needs_no_attention counts =
    counts.dropped == 0 && (counts.ended == 0 && (counts.unfinished == 0 && (counts.negatives == 0 && (counts.unanswered == 0 && counts.strays == 0))))

-- the list of what needs attention
abbrev pub attention_list : Tally → OtherAnswers → List ℕ
attention_list tally others = codes "<ul class=\"look\">\n" ++ attention_lines tally others ++ codes "</ul>\n"

-- the list of what needs attention, where a row does
abbrev pub attention_text : Tally → OtherAnswers → List ℕ
attention_text tally others = if needs_no_attention tally.counts && others.count == 0 then [] else attention_list tally others
