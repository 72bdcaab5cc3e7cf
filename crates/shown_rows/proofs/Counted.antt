-- The rows of two sessions have all items of each.
use Rattle.std.proofs.Common.{◌≡◌, ◌+◌, List, [], ◌∷◌, length, arith, refl}
use Rattle.uds_exchange.specs.Meaning.{ItemValue}
use Rattle.uds_difference.specs.Rows.{AreBeside, rows_of}
use Rattle.uds_difference.specs.declared.row.Row.{Row}
use Rattle.uds_difference.specs.declared.row.Row.TheVariants.{Same, Changed, OnlyLeft, OnlyRight}
use Rattle.uds_difference.proofs.Promises.{rows_are_beside}
use Rattle.shown_rows.specs.Laws.{CountsAddUp}
use Rattle.shown_rows.specs.Rows.{count_of}

-- the rows of both lists, as they are counted
record AreCounted (rows : List Row) (xs ys : List ItemValue) : Type 0 where
  left : count_of Same rows + count_of Changed rows + count_of OnlyLeft rows ≡ length xs
  right : count_of Same rows + count_of Changed rows + count_of OnlyRight rows ≡ length ys

counted : (rows : List Row) (xs ys : List ItemValue) → AreBeside rows xs ys → AreCounted rows xs ys
counted [] [] [] h = record { left = refl; right = refl }
counted (Same ∷ rows) (x ∷ xs) (y ∷ ys) h =
    let more = counted rows xs ys h.1 in
    let one = more.left in
    let other = more.right in
    record { left = omega arith; right = omega arith }
counted (Changed ∷ rows) (x ∷ xs) (y ∷ ys) h =
    let more = counted rows xs ys h.2 in
    let one = more.left in
    let other = more.right in
    record { left = omega arith; right = omega arith }
counted (OnlyLeft ∷ rows) (x ∷ xs) ys h =
    let more = counted rows xs ys h in
    let one = more.left in
    let other = more.right in
    record { left = omega arith; right = omega arith }
counted (OnlyRight ∷ rows) xs (y ∷ ys) h =
    let more = counted rows xs ys h in
    let one = more.left in
    let other = more.right in
    record { left = omega arith; right = omega arith }
counted _ _ _ h = absurd h

pub counts_add_up : CountsAddUp
counts_add_up xs ys = let all = counted (rows_of xs ys) xs ys (rows_are_beside xs ys) in (all.left, all.right)
