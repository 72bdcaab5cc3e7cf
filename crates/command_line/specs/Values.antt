-- What the words give the options and files of a command.
use Rattle.std.specs.Prelude.{ℕ, Bool, List, [], codes, Option, Some, None, option_map, unwrap_or, bytes_eq, if◌then◌else◌}
use Rattle.std.specs.Path.{path_file_name}
use Rattle.std.specs.Str.Parse.{digits_value, without_leading_plus}
use Rattle.clap.specs.ValueTests.{is_unsigned_in}
use Rattle.clap.specs.Walk.{Row, Text, first_of, one_of}
use Rattle.can_log.specs.declared.frame.Id.{Id}
use Rattle.trace_text.specs.declared.comparison_style.ComparisonStyle.{ComparisonStyle}
use Rattle.trace_text.specs.declared.credit_style.CreditStyle.{CreditStyle}
use Rattle.trace_text.specs.declared.credit_style.CreditStyle.TheVariants.{Lines, Profile}
use Rattle.trace_text.specs.declared.item_style.ItemStyle.{ItemStyle}
use Rattle.trace_text.specs.declared.item_style.Numbering.{Numbering}
use Rattle.trace_text.specs.declared.item_style.Numbering.TheVariants.{Shown, Hidden}
use Rattle.trace_text.specs.declared.notation.Notation.{Notation}
use Rattle.trace_text.specs.declared.notation.Notation.TheVariants as notation
use Rattle.profile.specs.UnitKeys.{identifier_of}
use Rattle.command_line.specs.declared.commands.PairJob.{PairJob}
use Rattle.command_line.specs.declared.commands.PairJob.TheVariants as pair_job

-- whether an option without a value is given: the parser has the text `true` for it then, and else `false`
abbrev pub is_given : Text → List Row → Bool
is_given option rows = bytes_eq (unwrap_or (first_of option rows) []) (codes "true")

-- whether a list has numbers, by `--no-numbers`
abbrev pub numbering_in : List Row → Numbering
numbering_in rows = if is_given (codes "no-numbers") rows then Hidden else Shown

-- whether a log has to be clean, by `--strict`
abbrev pub is_strict : List Row → Bool
is_strict rows = is_given (codes "strict") rows

-- whether lines are objects of JSON, by `--json`
abbrev pub notation_in : List Row → Notation
notation_in rows = if is_given (codes "json") rows then notation.Json else notation.Text

-- how credit lines are written: by `--toml` as a profile
abbrev pub credit_style_in : List Row → CreditStyle
credit_style_in rows = if is_given (codes "toml") rows then Profile else Lines (notation_in rows)

-- how the lines of items are written
abbrev pub style_in : List Row → ItemStyle
style_in rows = record { numbering = numbering_in rows; notation = notation_in rows }

-- how a comparison is written: by `--show` with the items at which the logs differ
abbrev pub comparison_style_in : List Row → ComparisonStyle
comparison_style_in rows = record { shows_items = is_given (codes "show") rows; notation = notation_in rows }

-- the identifier that the value of this option spells, or this text where a command has no such option
abbrev pub identifier_in : List Row → Text → Text → Option Id
identifier_in rows option usual = identifier_of (unwrap_or (first_of option rows) usual)

-- the identifier of the tester
abbrev pub tester_in : List Row → Option Id
tester_in rows = identifier_in rows (codes "tester") (codes "7E0")

-- the identifier of the unit
abbrev pub unit_in : List Row → Option Id
unit_in rows = identifier_in rows (codes "unit") (codes "7E8")

-- the identifier of functional requests, which no command has where none is given: where a text is, the one that it spells
abbrev pub functional_in : List Row → Option (Option Id)
functional_in rows = option_map identifier_of (first_of (codes "functional") rows)

-- The number of 64 bits that a text spells in decimal digits, with a plus before them or without. Where it spells none,
-- which the parser takes for no limit, 0.
abbrev pub number_of : Option Text → ℕ
number_of None = 0
number_of (Some text) = if is_unsigned_in 0 18446744073709551615 text then digits_value 10 (without_leading_plus text) else 0

-- the number that the value of `--limit` spells
abbrev pub limit_in : List Row → ℕ
limit_in rows = number_of (one_of (codes "limit") rows)

-- what a page calls the log of this file, or of standard input: the last part of the path, where that is a name
abbrev pub page_name : Option Text → List ℕ
page_name None = codes "standard input"
page_name (Some path) = unwrap_or (path_file_name path) path

-- what a page of two logs calls the log of this file beside that of the other: its path, where both files have one name
abbrev pub page_name_beside : Text → Text → List ℕ
page_name_beside path other = if bytes_eq (page_name (Some path)) (page_name (Some other)) then path else page_name (Some path)

-- what the text of a job over two logs calls the log of this file beside that of the other: a page by its name, and what
-- else has names by its path
abbrev pub shown_name : PairJob → Text → Text → List ℕ
shown_name (pair_job.Compare style) path other = path
shown_name (pair_job.Diff notation) path other = path
shown_name pair_job.Report path other = page_name_beside path other
