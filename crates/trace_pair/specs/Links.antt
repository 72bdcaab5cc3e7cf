-- The differences as rows of the table of items begin them, and the numbers of those to which the page links.
use Rattle.std.specs.Prelude.{ℕ, ◌+◌, ◌-◌, ◌==◌, List, [], ◌∷◌, ◌++◌, length, map, nat_le, take, Option, Some, None, option_to_list, if◌then◌else◌}
use Rattle.std.specs.List.{flat_map}
use Rattle.shown_rows.specs.declared.changes.Change.{Change}
use Rattle.shown_rows.specs.Changes.{change}
use Rattle.trace_report.specs.Session.{SessionValue}
use Rattle.trace_pair.specs.declared.item_row.Begun.{Begun}
use Rattle.trace_pair.specs.declared.item_row.RowPlace.{RowPlace}
use Rattle.trace_pair.specs.Differences.{difference_line, first_unlisted, listed_differences, more_start, open_differences}
use Rattle.trace_pair.specs.FirstDifference.{first_number}
use Rattle.trace_pair.specs.ItemRows.{next_number}
use Rattle.trace_pair.specs.RowStretches.{PlacedRow}

-- a difference: the change, its number, and of how many it is one
pub record NumberedChange : Type 0 where
  pub here : Change
  pub number : ℕ
  pub all : ℕ

-- the difference that begins at a place, if one does
abbrev pub difference_at : RowPlace → Option Begun → List NumberedChange
difference_at place None = []
difference_at place (Some begun) = record { here = change place.kind place.left place.right begun.count; number = begun.number; all = begun.all } ∷ []

-- the difference that begins with a row, if one does
abbrev pub difference_in : PlacedRow → List NumberedChange
difference_in row = difference_at row.place row.begins

-- changes by their numbers from one on, each as one of so many
abbrev pub numbered : ℕ → ℕ → List Change → List NumberedChange
numbered all number [] = []
numbered all number (here ∷ later) = record { here = here; number = number; all = all } ∷ numbered all (number + 1) later

-- the line of a difference in the list of so many, and what begins before it
abbrev pub listed_line : SessionValue → SessionValue → ℕ → NumberedChange → List ℕ
listed_line left right count it =
    (if it.number == open_differences + 1 then more_start (count - open_differences) else []) ++ difference_line left right it.number it.here

-- the number of a difference
abbrev pub number_in : NumberedChange → ℕ
number_in it = it.number

-- the number to which the line above a difference links, if one follows
abbrev pub number_behind : NumberedChange → List ℕ
number_behind it = option_to_list (next_number it.number it.all)

-- the number to which the end of the list links, where not all of so many are listed
abbrev pub number_unlisted : ℕ → List ℕ
number_unlisted count = if nat_le count listed_differences then [] else first_unlisted ∷ []

-- the number to which the section of the first difference links, where it is the only one
abbrev pub number_alone : ℕ → List ℕ
number_alone count = if count == 1 then first_number ∷ [] else []

-- the numbers of the differences to which a page with these links: from its list, from the end of that, from the
-- section of the only one, and from each to the next
abbrev pub linked_numbers : List NumberedChange → List ℕ
linked_numbers all =
    map number_in (take listed_differences all) ++ number_unlisted (length all) ++ number_alone (length all) ++ flat_map number_behind all
