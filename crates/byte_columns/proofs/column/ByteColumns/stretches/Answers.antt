-- The stretches from the first line on are all.
use Rattle.std.proofs.Common.{◌≡◌, ◌-◌, ap, arith}
use Rattle.byte_columns.specs.Lines.{line_count, stretches_from}
use Rattle.byte_columns.proofs.column.ByteColumns.stretches.Goals as goal

pub returns : goal.returns
returns c =
    let all : line_count c.args.self.now - 0 ≡ line_count c.args.self.now = omega arith in
    ap (stretches_from c.args.self.now 0) all
