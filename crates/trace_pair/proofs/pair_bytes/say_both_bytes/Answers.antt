-- The columns are those of both messages.
use Rattle.std.proofs.Common.{◌≡◌, ℕ, ◌++◌, false, List, codes, subst, sym, ◌∙◌}
use Rattle.std.specs.Prelude.{if◌then◌else◌}
use Rattle.pair_words.specs.ColumnLines.{lines_text}
use Rattle.trace_pair.specs.ItemRows.{are_masked, message_line}
use Rattle.pair_words.specs.declared.column_lines.ShownLogs.TheVariants.{Both}
use Rattle.pair_words.specs.declared.log.PairLog.TheVariants.{A, B}
use Rattle.trace_pair.proofs.pair_bytes.say_both_bytes.Goals as goal

pub returns-else-are_masked : goal.returns-else-are_masked
returns-else-are_masked g c =
    let rules = c.args.rules.now in
    let one = c.args.one.now in
    let other = c.args.other.now in
    let none : are_masked c.args.rules.now c.args.one.now c.args.other.now ≡ false = sym c.are_masked.ensures ∙ c.if-are_masked.false in
    subst (λ (text : List ℕ). g.S.TextSink.says c.args.out.now text c.say_columns.new.out)
    (λ i. if sym none i then codes "<div class=\"hx out\">" ++ message_line rules A one ++ message_line rules B other ++ codes "</div>"
    else lines_text Both (c.have_word.ensures i) (c.of-columns.ensures i)) c.say_columns.ensures
