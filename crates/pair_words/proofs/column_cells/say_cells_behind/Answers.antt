-- Each column adds what the log has in it, and the last mark ends behind them.
use Rattle.std.proofs.Common.{arith, refl}
use Rattle.text_parts.proofs.Promises.{none-said}
use Rattle.pair_words.proofs.Cells.{turn-cell, turn-last}
use Rattle.pair_words.proofs.column_cells.say_cells_behind.Goals as goal

pub columns-init : goal.columns-init
columns-init g c = none-said g.S.TextSink.says c.args.out.now _ _ (g.met.S.TextSink.nothing c.args.out.now) refl

pub columns-preserved : goal.columns-preserved
columns-preserved g c =
    turn-cell g.S.TextSink.says g.met.S.TextSink.onward c.args.own.log c.args.own.columns.now c.args.own.to c.args.out.now _
    c.columns.marked c.differs-differs.result c.byte_of.result c.columns.at c.column-column.result c.columns.out c.say.new.out
    c.columns-test.true c.column-column.ensures c.differs-differs.ensures c.byte_of.ensures c.columns.invariant c.say.ensures

pub returns : goal.returns
returns g c =
    turn-last g.S.TextSink.says g.met.S.TextSink.onward c.args.own.log c.args.own.columns.now c.args.own.to c.args.out.now _
    c.columns.marked c.columns.at c.columns.out _ (omega arith) c.columns.invariant c.say-2.ensures
