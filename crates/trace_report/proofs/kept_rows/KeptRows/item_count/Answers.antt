-- There are as many places of items as items.
use Rattle.std.proofs.Common.{◌≡◌, length, ap, ◌∙◌, rules}
use Rattle.trace_report.specs.Items.{items_in}
use Rattle.trace_report.specs.proving.Keeping.{rows_at}
use Rattle.trace_report.proofs.Placing.{same-count}
use Rattle.trace_report.proofs.kept_rows.KeptRows.item_count.Goals as goal

pub returns-clause-value : goal.returns-clause-value
returns-clause-value c =
    let places = c.self.inside.items.items in
    let rows = rows_at c.self.inside.messages c.self.inside.rows.items in
    let own : c.len.result ≡ length places = search rules in
    own ∙ same-count rows places (items_in rows) c.self.invariant.placed ∙ ap (λ l. length (items_in l)) c.self.view_is
