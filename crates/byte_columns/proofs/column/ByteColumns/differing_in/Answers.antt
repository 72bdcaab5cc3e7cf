use Rattle.std.proofs.Common.{◌-◌, ℕ, take, drop, ap, ◌∙◌, arith}
use Rattle.byte_columns.specs.Columns.{differing}
use Rattle.byte_columns.specs.Lines.{line}
use Rattle.byte_columns.proofs.LinePlaces.{differing-few, line-is}
use Rattle.byte_columns.proofs.column.ByteColumns.differing_in.Goals as goal

pub returns-clause-value : goal.returns-clause-value
returns-clause-value c =
    let columns = c.args.self.now in
    let first = c.line_range-range.ensures.first in
    c.differing.ensures
    ∙ ap (λ (n : ℕ). differing (take (c.line_range-range.result.end - n) (drop n columns))) first
    ∙ ap differing (line-is columns c.args.number c.line_range-range.result.end c.requires (omega (arith, first, c.line_range-range.ensures.end)))

pub returns-clause-few : goal.returns-clause-few
returns-clause-few c =
    let columns = c.args.self.now in
    let first = c.line_range-range.ensures.first in
    let value = c.differing.ensures
    ∙ ap (λ (n : ℕ). differing (take (c.line_range-range.result.end - n) (drop n columns))) first
    ∙ ap differing (line-is columns c.args.number c.line_range-range.result.end c.requires (omega (arith, first, c.line_range-range.ensures.end))) in
    let few = differing-few (line columns c.args.number) in
    omega (arith, value, few, first, c.line_range-range.ensures.end, c.line_range-range.ensures.length)
