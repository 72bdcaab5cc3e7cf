-- The first column is said, and then those behind it.
use Rattle.pair_words.proofs.Cells.{first-cell, no-cell}
use Rattle.pair_words.proofs.column_cells.say_cells.Goals as goal

pub returns-then-from-to : goal.returns-then-from-to
returns-then-from-to g c =
    first-cell g.S.TextSink.says g.met.S.TextSink.onward c.args.own.log c.args.own.columns.now c.args.own.to
    c.differs-differs.result c.byte_of.result c.args.own.from c.column-column.result c.args.out.now c.say.new.out c.say_cells_behind.new.out
    c.if-from-to.true c.column-column.ensures c.differs-differs.ensures c.byte_of.ensures c.say.ensures c.say_cells_behind.ensures

pub returns-else-from-to : goal.returns-else-from-to
returns-else-from-to g c =
    no-cell g.S.TextSink.says g.met.S.TextSink.onward c.args.own.log c.args.own.columns.now c.args.own.to c.args.own.from c.args.out.now
    c.if-from-to.false (g.met.S.TextSink.nothing c.args.out.now)
