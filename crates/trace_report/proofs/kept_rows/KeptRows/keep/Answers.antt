-- One row more stays with its bytes, its item and its count; or all is as before.
use Rattle.std.proofs.Common.{◌≡◌, ◌<◌, ◌^◌, ◌∷◌, ◌++◌, [], length, arith, ap, ◌∙◌, rules}
use Rattle.trace_report.specs.Rows.{row_of}
use Rattle.trace_report.specs.proving.Keeping.{places_next, rows_at, waiting_next}
use Rattle.trace_report.specs.proving.Tallying.{counts_with}
use Rattle.trace_report.proofs.Keeping.{kept-more, rows-more}
use Rattle.trace_report.proofs.Placing.{waiting-placed}
use Rattle.trace_report.proofs.kept_rows.KeptRows.keep.Goals as goal

pub invariant_of-self-in_err-kept : goal.invariant_of-self-in_err-kept
invariant_of-self-in_err-kept c =
    rw (c.in_err-kept.ensures.err, c.reserve.ensures.items, c.reserve-2.ensures.items) c.self.invariant

pub note_row-requires-clause-there : goal.note_row-requires-clause-there
note_row-requires-clause-there c =
    rw c.reserve-2.ensures.items
    (waiting-placed (rows_at c.self.inside.messages c.self.inside.rows.items) c.self.inside.items.items c.self.inside.waiting c.self.invariant.placed c.self.invariant.waits)

pub invariant_of-self-2 : goal.invariant_of-self-2
invariant_of-self-2 c =
    let rows = c.self.inside.rows.items in
    let places = c.self.inside.items.items in
    let row = row_of c.args.row in
    let all : c.push_reserved.new.self.items ≡ rows ++ c.in_ok-kept.kept ∷ [] = c.push_reserved.ensures.items ∙ ap (λ l. l ++ c.in_ok-kept.kept ∷ []) c.reserve.ensures.items in
    let end : c.len.result ≡ length rows = search rules in
    let few : length rows < 2 ^ 63 = search rules in
    kept-more c.self.inside.messages c.laid.new.messages c.in_ok-kept.ensures.on rows c.in_ok-kept.kept row c.push_reserved.new.self.items
    c.self.invariant.laid c.in_ok-kept.ensures.laid c.in_ok-kept.ensures.row all
    places c.note_row.new.items.items c.self.inside.waiting c.note_row.new.waiting c.self.inside.counts c.take.new.self c.len.result
    c.self.invariant.placed c.self.invariant.begun c.self.invariant.waits c.self.invariant.counted end (omega (arith, few))
    (c.note_row.ensures.items ∙ ap (λ l. places_next row l c.self.inside.waiting c.len.result) c.reserve-2.ensures.items)
    (c.note_row.ensures.waiting ∙ ap (λ l. waiting_next row l c.self.inside.waiting) c.reserve-2.ensures.items)
    (c.take.ensures ∙ ap (λ sort. counts_with sort c.self.inside.counts) c.sort_of.ensures)

pub returns-clause-kept : goal.returns-clause-kept
returns-clause-kept c =
    let rows = c.self.inside.rows.items in
    let row = row_of c.args.row in
    let all : c.push_reserved.new.self.items ≡ rows ++ c.in_ok-kept.kept ∷ [] = c.push_reserved.ensures.items ∙ ap (λ l. l ++ c.in_ok-kept.kept ∷ []) c.reserve.ensures.items in
    rows-more c.self.inside.messages c.laid.new.messages c.in_ok-kept.ensures.on rows c.in_ok-kept.kept row c.push_reserved.new.self.items
    c.self.invariant.laid c.in_ok-kept.ensures.laid c.in_ok-kept.ensures.row all
    ∙ ap (λ l. l ++ row ∷ []) c.self.view_is
