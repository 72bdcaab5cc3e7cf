-- The message of a row that is lent is that of the row that was kept.
use Rattle.std.proofs.Common.{◌≤◌, length, ap, sym, refl, option_map, arith, ◌∙◌, rules}
use Rattle.std.proofs.lemmas.List.{length-map}
use Rattle.std.proofs.lemmas.Option.{slice_get_read, slice_get-map, slice_get_past}
use Rattle.trace_report.specs.proving.Keeping.{message_if, row_at, rows_at}
use Rattle.trace_report.proofs.Keeping.{laid-at}
use Rattle.trace_report.proofs.items.message_at.Goals as goal

pub message_of_row-requires : goal.message_of_row-requires
message_of_row-requires c =
    laid-at c.args.messages.now c.args.rows.now c.args.at c.in-Some.row.now c.requires (search rules) (search rules)

pub returns-in-Some : goal.returns-in-Some
returns-in-Some c =
    let row = row_at c.args.messages.now in
    let rows = c.args.rows.now in
    c.message_of_row.ensures
    ∙ ap message_if (sym (slice_get-map row rows c.args.at
    ∙ ap (option_map row) (slice_get_read rows (length rows) c.args.at c.in-Some.row.now refl (search rules) (search rules))))

pub returns-in-None : goal.returns-in-None
returns-in-None c =
    let row = row_at c.args.messages.now in
    let rows = c.args.rows.now in
    let over : length rows ≤ c.args.at = search rules in
    sym (ap message_if (slice_get_past (rows_at c.args.messages.now rows) c.args.at (omega (arith, length-map rows row, over))))
