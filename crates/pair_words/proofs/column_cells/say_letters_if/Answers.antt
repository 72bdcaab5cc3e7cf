-- Where there are letters, they stand in grey.
use Rattle.std.proofs.Common.{◌-◌, Bool, drop, subst, sym, take}
use Rattle.pair_words.specs.ColumnLines.{grey_columns}
use Rattle.pair_words.proofs.column_cells.say_letters_if.Goals as goal

pub returns-then-with_letters : goal.returns-then-with_letters
returns-then-with_letters g c =
    let onward = g.met.S.TextSink.onward in
    let log = c.args.own.log in
    let here = take (c.args.own.to - c.args.own.from) (drop c.args.own.from c.args.own.columns.now) in
    subst (λ (is : Bool). g.S.TextSink.says c.args.out.now (grey_columns is log here) c.say-then-with_letters.new.out) (sym c.if-with_letters.true)
    (onward _ _ _ _ _ (onward _ _ _ _ _ c.say.ensures c.say_letters.ensures) c.say-then-with_letters.ensures)
