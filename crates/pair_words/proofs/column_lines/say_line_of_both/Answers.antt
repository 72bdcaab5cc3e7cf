-- A line that differs is said as each log has it.
use Rattle.std.proofs.Common.{◌≡◌, ◌++◌, Bool, arith, true, subst, sym}
use Rattle.std.specs.Prelude.{if◌then◌else◌}
use Rattle.std.proofs.lemmas.Bool.{lt-ltb}
use Rattle.byte_columns.specs.Columns.{differing}
use Rattle.byte_columns.specs.Lines.{line, line_differs}
use Rattle.pair_words.specs.ColumnLines.{line_of}
use Rattle.pair_words.specs.declared.column_words.LineOwner.{LineOwner}
use Rattle.pair_words.specs.declared.column_words.LineOwner.TheVariants.{Of, OfBoth}
use Rattle.pair_words.specs.declared.log.PairLog.{PairLog}
use Rattle.pair_words.specs.declared.log.PairLog.TheVariants.{A, B}
use Rattle.pair_words.proofs.column_lines.say_line_of_both.Goals as goal

pub returns-then-differing_in-gt0 : goal.returns-then-differing_in-gt0
returns-then-differing_in-gt0 g c =
    let columns = c.args.columns.now in
    let number = c.args.number in
    let of = λ (whose : LineOwner) (log : PairLog). line_of c.args.with_letters whose log columns number in
    let is : line_differs columns number ≡ true = lt-ltb 0 (differing (line columns number)) (omega (arith, c.differing_in.ensures.value, c.if-differing_in-gt0.true)) in
    subst (λ (is : Bool). g.S.TextSink.says c.args.out.now (if is then of (Of A) A ++ of (Of B) B else of OfBoth A) c.say_line_of-then-differing_in-gt0.new.out) (sym is)
    (g.met.S.TextSink.onward _ _ _ _ _ c.say_line_of.ensures c.say_line_of-then-differing_in-gt0.ensures)
