-- Each column adds its letter, or a blank, where the log has no byte in it.
use Rattle.std.proofs.Common.{ℕ, Option, refl, subst}
use Rattle.text_parts.proofs.Promises.{none-said}
use Rattle.pair_words.specs.ColumnLines.{letter_or_gap}
use Rattle.pair_words.proofs.Cells.{letters-end, turn-letter}
use Rattle.pair_words.proofs.column_cells.say_letters.Goals as goal

pub columns-init : goal.columns-init
columns-init g c = none-said g.S.TextSink.says c.args.out.now _ _ (g.met.S.TextSink.nothing c.args.out.now) refl

pub columns-preserved : goal.columns-preserved
columns-preserved g c =
    turn-letter g.S.TextSink.says g.met.S.TextSink.onward c.args.own.log c.args.own.columns.now c.args.own.to c.args.out.now _
    c.columns.at c.column.result c.columns.out c.say_letter.new.out c.columns-test.true c.column.ensures c.columns.invariant
    (subst (λ (byte : Option ℕ). g.S.TextSink.says c.columns.out (letter_or_gap byte) c.say_letter.new.out) c.byte_of.ensures c.say_letter.ensures)

pub returns : goal.returns
returns g c =
    letters-end g.S.TextSink.says g.met.S.TextSink.onward c.args.own.log c.args.own.columns.now c.args.own.to c.args.out.now _
    c.columns.at c.columns.out c.columns-test.false c.columns.invariant
