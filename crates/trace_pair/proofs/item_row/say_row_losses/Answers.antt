-- What is missing is that of the item, where the row has one.
use Rattle.std.proofs.Common.{◌≡◌, ℕ, Bool, true, List, [], sym, subst, ◌∙◌}
use Rattle.std.specs.Prelude.{if◌then◌else◌}
use Rattle.pair_words.specs.Logs.{has_item}
use Rattle.trace_pair.specs.Losses.{losses_of, losses_text}
use Rattle.trace_pair.proofs.item_row.say_row_losses.Goals as goal

pub returns-then-has_item : goal.returns-then-has_item
returns-then-has_item g c =
    let log = c.args.log in
    let rows = c.args.session.now.rows in
    let has : has_item c.args.log c.args.place.kind ≡ true = sym c.has_item.ensures ∙ c.if-has_item.true in
    let by = λ (has : Bool) (place : ℕ). if has then losses_text log (losses_of rows place) else [] in
    subst (λ (text : List ℕ). g.S.TextSink.says c.args.out.now text c.say_losses.new.out) (λ i. by (sym has i) (c.place_in.ensures i)) c.say_losses.ensures
