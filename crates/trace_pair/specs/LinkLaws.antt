-- What holds of the links of a page of two logs: what they lead to, and how that is spelled.
use Rattle.std.specs.Prelude.{◌≡◌, ℕ, true, List, ◌++◌, codes, length, take, Some, option_to_list, ◌<◌, ◌^◌}
use Rattle.std.specs.List.{flat_map, range_with_len, AllByRecursion}
use Rattle.uds_difference.specs.declared.row.Row.{Row}
use Rattle.shown_rows.specs.Changes.{changes}
use Rattle.trace_report.specs.Linked.{IsAmong}
use Rattle.trace_report.specs.Session.{SessionValue}
use Rattle.pair_words.specs.DifferenceNames.{difference_name}
use Rattle.trace_pair.specs.ChangeWords.{where_link}
use Rattle.trace_pair.specs.Differences.{difference_lines, first_unlisted, list_end, listed_differences}
use Rattle.trace_pair.specs.ItemRows.{begun_number, row_start, way_on}
use Rattle.trace_pair.specs.Links.{NumberedChange, difference_in, linked_numbers, listed_line, numbered}
use Rattle.trace_pair.specs.RowStretches.{PlacedRow}
use Rattle.trace_pair.specs.TableLaws.{table_rows}

-- the number of a row's identifier, if it has one
abbrev pub identifier : PlacedRow → List ℕ
identifier row = option_to_list (begun_number row.begins)

-- The rows of the table of items have as identifiers the numbers of all changes, from 1 on, each once. These are what
-- the links of the page lead to: of the list, of its end, and from one change to the next.
abbrev pub LinksHaveTargets : Type 0
LinksHaveTargets = (rows : List Row) → flat_map identifier (table_rows rows) ≡ range_with_len 1 (length (changes rows))

-- the differences that rows of the table of items begin
abbrev pub differences : List Row → List NumberedChange
differences rows = flat_map difference_in (table_rows rows)

-- they are all changes, in order: each of its kind, at its place, with as many rows, with its number, and as one of so
-- many
abbrev pub DifferencesAreTheChanges : Type 0
DifferencesAreTheChanges = (rows : List Row) → differences rows ≡ numbered (length (changes rows)) 1 (changes rows)

-- the lines of the list are those of the first of these differences, each with a link to the row that begins it
abbrev pub ListLeadsToTheTable : Type 0
ListLeadsToTheTable = (left right : SessionValue) (count : ℕ) (rows : List Row)
    → difference_lines left right count 1 (take listed_differences (changes rows)) ≡ flat_map (listed_line left right count) (take listed_differences (differences rows))

-- each number to which the page links is that of a row's identifier
abbrev pub LinksNameIdentifiers : Type 0
LinksNameIdentifiers = (rows : List Row) → AllByRecursion (λ (number : ℕ). IsAmong number (flat_map identifier (table_rows rows))) (linked_numbers (differences rows))

-- a tag of this text has this attribute
abbrev pub HasAttribute : List ℕ → List ℕ → List ℕ → Type 0
HasAttribute name value text = (front : List ℕ) × (behind : List ℕ) × (text ≡ front ++ (name ++ codes "=\"" ++ value ++ codes "\"") ++ behind)

-- a text has a link to the difference of a number
abbrev pub HasLinkTo : ℕ → List ℕ → Type 0
HasLinkTo number text = HasAttribute (codes "href") (codes "#" ++ difference_name number) text

-- A row with which a difference begins has as identifier what each link to that difference names: that of its line in
-- the list, that above the one before it, and that of the end of the list. No two differences have one name.
abbrev pub LinksSpellIdentifiers : Type 0
LinksSpellIdentifiers = (number : ℕ)
    → ((kind : Row) → HasAttribute (codes "id") (difference_name number) (row_start kind (Some number)))
    × ((words : List ℕ) → HasLinkTo number (where_link true number words))
    × HasLinkTo number (way_on (Some number))
    × ((count : ℕ) → listed_differences < count → HasLinkTo first_unlisted (list_end count))
    × ((other : ℕ) → number < 2 ^ 64 → other < 2 ^ 64 → difference_name number ≡ difference_name other → number ≡ other)
