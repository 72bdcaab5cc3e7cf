-- The numbers of a row are those that its kind has.
use Rattle.std.proofs.Common.{◌≡◌, ℕ, Bool, List, ◌++◌, codes, refl, subst}
use Rattle.uds_difference.specs.declared.row.Row.{Row}
use Rattle.uds_difference.specs.declared.row.Row.TheVariants.{Same, Changed, OnlyLeft, OnlyRight}
use Rattle.trace_pair.specs.ItemRows.{number_if, numbers}
use Rattle.pair_words.specs.Logs.{has_item}
use Rattle.pair_words.specs.declared.log.PairLog.TheVariants.{A, B}
use Rattle.trace_pair.proofs.item_row.NumbersPart.say.Goals as goal

abbrev numbers-by : Bool → Bool → ℕ → ℕ → List ℕ
numbers-by left right i j = codes "<th scope=\"row\">" ++ number_if left i ++ codes "<td>" ++ number_if right j ++ codes "<td>"

by-kind : (kind : Row) (i j : ℕ) → numbers-by (has_item A kind) (has_item B kind) i j ≡ numbers kind i j
by-kind Same i j = refl
by-kind Changed i j = refl
by-kind OnlyLeft i j = refl
by-kind OnlyRight i j = refl

pub returns : goal.returns
returns g c =
    subst (λ (text : List ℕ). g.S.TextSink.says c.args.out.now text c.say.new.out) (by-kind c.args.self.0.kind c.args.self.0.left c.args.self.0.right)
    (rw (c.has_item.ensures, c.has_item-2.ensures) at c.say.ensures)
