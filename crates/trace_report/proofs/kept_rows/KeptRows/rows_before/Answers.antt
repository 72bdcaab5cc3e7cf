-- As many rows stand before an item as its place says, which was noted when it began; before one that is not there,
-- all.
use Rattle.std.proofs.Common.{◌≡◌, ◌≤◌, ◌+◌, ℕ, List, Option, Some, length, ap, sym, refl, option_map, arith, ◌∙◌, rules}
use Rattle.std.specs.Prelude.{slice_get}
use Rattle.std.proofs.lemmas.List.{length-map}
use Rattle.std.proofs.lemmas.Option.{slice_get_read, slice_get-map, slice_get_past}
use Rattle.trace_report.specs.Items.{rows_before}
use Rattle.trace_report.specs.Rows.{RowValue}
use Rattle.trace_report.specs.proving.Keeping.{begin_of, place_or, row_at, rows_at}
use Rattle.trace_report.proofs.Beginning.{before-found}
use Rattle.trace_report.proofs.kept_rows.KeptRows.rows_before.Goals as goal

pub returns-in-Some : goal.returns-in-Some
returns-in-Some c =
    let rows = rows_at c.self.inside.messages c.self.inside.rows.items in
    let places = c.self.inside.items.items in
    let item = c.args.item in
    let found : slice_get places item ≡ Some c.in-Some.item.now = slice_get_read places (length places) item c.in-Some.item.now refl (search rules) (search rules) in
    let before : 0 + rows_before item rows ≡ rows_before item rows = omega arith in
    sym (ap (λ (there : Option ℕ). place_or (0 + length rows) there)
    (ap (λ (l : List ℕ). slice_get l item) (sym c.self.invariant.begun) ∙ slice_get-map begin_of places item ∙ ap (option_map begin_of) found))
    ∙ sym (before-found rows 0 item) ∙ before ∙ ap (λ (l : List RowValue). rows_before item l) c.self.view_is

pub returns-in-None : goal.returns-in-None
returns-in-None c =
    let rows = rows_at c.self.inside.messages c.self.inside.rows.items in
    let places = c.self.inside.items.items in
    let item = c.args.item in
    let over : length places ≤ item = search rules in
    let many = length-map c.self.inside.rows.items (row_at c.self.inside.messages) in
    let own : c.len.result ≡ length c.self.inside.rows.items = search rules in
    let end : c.len.result ≡ 0 + length rows = omega (arith, many, own) in
    let before : 0 + rows_before item rows ≡ rows_before item rows = omega arith in
    end ∙ sym (ap (λ (there : Option ℕ). place_or (0 + length rows) there)
    (ap (λ (l : List ℕ). slice_get l item) (sym c.self.invariant.begun) ∙ slice_get-map begin_of places item ∙ ap (option_map begin_of) (slice_get_past places item over)))
    ∙ sym (before-found rows 0 item) ∙ before ∙ ap (λ (l : List RowValue). rows_before item l) c.self.view_is
