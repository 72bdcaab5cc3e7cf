-- A message has bytes alone where the definition tests for it.
use Rattle.std.proofs.Common.{◌≡◌, ℕ, ◌++◌, Bool, true, List, ap, subst, sym, ◌∙◌}
use Rattle.std.specs.Prelude.{if◌then◌else◌, slice_get}
use Rattle.byte_columns.specs.Columns.{differing}
use Rattle.pair_words.specs.ByteWords.{alone_words, first_words, has_alone, others_words}
use Rattle.pair_words.specs.declared.log.PairLog.TheVariants.{A, B}
use Rattle.pair_words.proofs.byte_words.say_where.Goals as goal

pub returns-then-has_alone : goal.returns-then-has_alone
returns-then-has_alone g c =
    let xs = c.args.left.now in
    let ys = c.args.right.now in
    let columns = c.args.columns.now in
    let rules = c.args.rules.now in
    let by = λ (one other : Bool) (count place : ℕ). if one then alone_words rules A count place xs
    else if other then alone_words rules B count place ys
    else first_words rules xs ys place (slice_get columns place) ++ others_words count in
    let one : has_alone c.args.left.now c.args.right.now (differing c.args.columns.now) ≡ true =
    ap (has_alone c.args.left.now c.args.right.now) (sym c.count_differing-count.ensures) ∙ sym c.has_alone.ensures ∙ c.if-has_alone.true in
    subst (λ (text : List ℕ). g.S.TextSink.says c.args.out.now text c.say.new.out)
    (λ i. by (sym one i) (has_alone ys xs (differing columns)) (c.count_differing-count.ensures i) (c.first_differing-place.ensures i)) c.say.ensures
