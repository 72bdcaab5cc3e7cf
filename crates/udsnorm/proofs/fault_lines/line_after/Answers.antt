use Rattle.std.proofs.Common.{◌≤◌, length, arith}
use Rattle.std.specs.Prelude.{codes}
use Rattle.std.specs.Fmt.{decimal}
use Rattle.std.proofs.lemmas.Fmt.{length-decimal-le}
use Rattle.udsnorm.proofs.LineParts.{two_numbers_fit}
use Rattle.udsnorm.proofs.fault_lines.line_after.Goals as goal

pub line_of-requires : goal.line_of-requires
line_of-requires c =
    let line : length (decimal c.in-BadLine.line) ≤ 20 = length-decimal-le 20 c.in-BadLine.line (omega arith) (omega arith) (omega arith) in
    let column : length (decimal c.from.result) ≤ 10 = length-decimal-le 10 c.from.result (omega arith) (omega arith) (omega arith) in
    two_numbers_fit c.args.log.now (codes "line ") (decimal c.in-BadLine.line) (codes " column ") (decimal c.from.result) (codes ": not a log line\n") c.requires line column (omega arith)

pub line_of-requires-in-Oversize : goal.line_of-requires-in-Oversize
line_of-requires-in-Oversize c =
    let line : length (decimal c.in-Oversize.line) ≤ 20 = length-decimal-le 20 c.in-Oversize.line (omega arith) (omega arith) (omega arith) in
    let announced : length (decimal c.from-in-Oversize.result) ≤ 10 = length-decimal-le 10 c.from-in-Oversize.result (omega arith) (omega arith) (omega arith) in
    two_numbers_fit c.args.log.now (codes "line ") (decimal c.in-Oversize.line) (codes ": ") (decimal c.from-in-Oversize.result) (codes " bytes announced, the limit is 1048575\n") c.requires line announced (omega arith)
