-- The columns are those of both messages, by which log the first one is of.
use Rattle.std.proofs.Common.{◌≡◌, ℕ, Bool, false, List, subst, sym, ◌∙◌}
use Rattle.std.specs.Prelude.{if◌then◌else◌}
use Rattle.shown_bytes.specs.Data.{data_text}
use Rattle.pair_words.specs.ColumnLines.{lines_text}
use Rattle.trace_pair.specs.ItemRows.{are_masked}
use Rattle.pair_words.specs.declared.column_lines.ShownLogs.TheVariants.{Only}
use Rattle.trace_pair.proofs.chart_bytes.say_beside.Goals as goal

pub returns-else-are_masked : goal.returns-else-are_masked
returns-else-are_masked g c =
    let rules = c.args.rules.now in
    let message = c.args.message.now in
    let none : are_masked c.args.rules.now c.args.message.now c.args.other.now ≡ false = sym c.are_masked.ensures ∙ c.if-are_masked.false in
    subst (λ (text : List ℕ). g.S.TextSink.says c.args.out.now text c.say_columns.new.out)
    (λ i. if sym none i then data_text rules message else lines_text (Only c.args.log) (c.have_word.ensures i) (c.beside_of-columns.ensures i)) c.say_columns.ensures
