-- A line is shown where none is folded from it on.
use Rattle.std.proofs.Common.{sym, ◌∙◌, arith}
use Rattle.byte_columns.proofs.NextStretches.{left-folded, left-shown}
use Rattle.byte_columns.proofs.column.ByteColumns.stretch_from.Goals as goal

pub returns-then-count-eq0-clause-first : goal.returns-then-count-eq0-clause-first
returns-then-count-eq0-clause-first c =
    left-shown c.args.self.now c.args.number c.requires.inside (sym c.folded-count.ensures.value ∙ c.if-count-eq0.true)

pub returns-else-count-eq0-clause-first : goal.returns-else-count-eq0-clause-first
returns-else-count-eq0-clause-first c =
    left-folded c.args.self.now c.args.number c.folded-count.result c.folded-count.ensures.value (omega (arith, c.if-count-eq0.false))
