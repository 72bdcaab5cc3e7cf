-- A row that is lent is the one that was kept.
use Rattle.std.proofs.Common.{◌≤◌, Some, length, ap, sym, refl, option_map, arith, ◌∙◌, rules}
use Rattle.std.specs.Prelude.{slice_get}
use Rattle.std.proofs.lemmas.List.{length-map}
use Rattle.std.proofs.lemmas.Option.{slice_get_read, slice_get-map, slice_get_past}
use Rattle.trace_report.specs.proving.Keeping.{row_at, rows_at}
use Rattle.trace_report.proofs.Keeping.{laid-at}
use Rattle.trace_report.proofs.kept_rows.KeptRows.row.Goals as goal

pub row_at-requires : goal.row_at-requires
row_at-requires c =
    laid-at c.self.inside.messages c.self.inside.rows.items c.args.at c.in-Some.row.now c.self.invariant.laid (search rules) (search rules)

pub returns-in-Some : goal.returns-in-Some
returns-in-Some c =
    let row = row_at c.self.inside.messages in
    let rows = c.self.inside.rows.items in
    ap Some c.row_at.ensures
    ∙ sym (slice_get-map row rows c.args.at
    ∙ ap (option_map row) (slice_get_read rows (length rows) c.args.at c.in-Some.row.now refl (search rules) (search rules)))
    ∙ ap (λ l. slice_get l c.args.at) c.self.view_is

pub returns-in-None : goal.returns-in-None
returns-in-None c =
    let row = row_at c.self.inside.messages in
    let rows = c.self.inside.rows.items in
    let over : length rows ≤ c.args.at = search rules in
    sym (slice_get_past (rows_at c.self.inside.messages rows) c.args.at (omega (arith, length-map rows row, over)))
    ∙ ap (λ l. slice_get l c.args.at) c.self.view_is
