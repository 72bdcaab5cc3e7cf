-- Where a row is not shown and stands in no fold, one begins with it.
use Rattle.std.proofs.Common.{◌≡◌, ℕ, ◌∷◌, ◌++◌, Bool, false, List, [], ap, arith, subst, sym, ◌∙◌}
use Rattle.std.specs.Prelude.{nat_lt, if◌then◌else◌}
use Rattle.std.proofs.lemmas.Bool.{le-ltb}
use Rattle.shown_rows.specs.Folds.{folded, is_shown}
use Rattle.trace_pair.specs.ItemTables.{fold_text}
use Rattle.trace_pair.specs.proving.Standings.{fold_at, seen_text, table_end}
use Rattle.trace_pair.proofs.item_tables.say_row_or_fold.Goals as goal

pub returns-else-is_shown : goal.returns-else-is_shown
returns-else-is_shown g c = λ row later first.
    let one = c.args.sessions.left.now in
    let other = c.args.sessions.right.now in
    let all = c.args.all in
    let at = c.args.at in
    let fold = λ (count : ℕ). table_end at.table ++ fold_text one other (fold_at at count) in
    let by = λ (within is : Bool). if within then [] else if is then seen_text one other all at row later else fold (folded (row ∷ later)) in
    let free : nat_lt 0 c.args.at.folded ≡ false = le-ltb 0 c.args.at.folded (omega arith) in
    let hidden : is_shown c.args.at.still_shown (row ∷ later) ≡ false =
    ap (is_shown c.args.at.still_shown) (sym first) ∙ sym c.is_shown.ensures ∙ c.if-is_shown.false in
    let many : c.folded.result ≡ folded (row ∷ later) = c.folded.ensures.value ∙ ap folded first in
    subst (λ (text : List ℕ). g.S.TextSink.says c.args.out.now text c.say_fold.new.out)
    (ap fold many ∙ (λ i. by (sym free i) (sym hidden i)))
    (g.met.S.TextSink.onward _ _ _ _ _ c.say.ensures c.say_fold.ensures)
