-- The items of a session are as many as its rows tell.
use Rattle.std.proofs.Common.{◌≡◌, List, length, ap, sym, ◌∙◌}
use Rattle.std.proofs.lemmas.List.{length-map}
use Rattle.trace_report.specs.Items.{item_value, items_in}
use Rattle.trace_report.specs.Rows.{RowValue}
use Rattle.trace_pair.specs.Sessions.{values_in}
use Rattle.trace_pair.proofs.recordings.RecordingPart.say.Goals as goal

pub returns : goal.returns
returns g c =
    let session = c.args.self.2.now in
    let many : c.item_count.result ≡ length (values_in session) =
    c.item_count.ensures.value ∙ ap (λ (rows : List RowValue). length (items_in rows)) c.rows.ensures ∙ sym (length-map (items_in session.rows) item_value) in
    rw (c.rules.ensures, c.summary-summary.ensures, many, c.first_time.ensures, c.last_time.ensures) at c.say.ensures
