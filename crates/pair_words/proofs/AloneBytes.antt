-- The bytes that one message has alone are put into the other one.
use Rattle.std.proofs.Common.{◌≡◌, ℕ, ◌-◌, ◌<◌, Bool, true, false, List, length, ap, ◌∙◌, arith}
use Rattle.std.specs.Prelude.{◌==◌, nat_lt, if◌then◌else◌}
use Rattle.std.specs.List.{position_or_len}
use Rattle.std.proofs.lemmas.Bool.{and_left, and_parts, eqb-true, le-ltb, ltb-true}
use Rattle.byte_columns.specs.Columns.{beside, differing, differs}
use Rattle.byte_columns.proofs.Promises.{only_put_in}
use Rattle.uds_rules.specs.Rule.{RuleValue}
use Rattle.pair_words.specs.declared.log.PairLog.TheVariants.{A, B}
use Rattle.pair_words.specs.ByteLaws.{AloneBytesArePutIn, TellsPutIn}
use Rattle.pair_words.specs.ByteWords.{alone_words, both_words, has_alone, where_words}

module _ (rules : List RuleValue) (xs ys : List ℕ) where
  abbrev count : ℕ
  count = differing (beside xs ys)

  abbrev place : ℕ
  place = position_or_len differs (beside xs ys)

  -- what is said, by which message has bytes alone
  abbrev said : Bool → Bool → List ℕ
  said one other = if one then alone_words rules A count place xs else if other then alone_words rules B count place ys else both_words rules xs ys (beside xs ys)

  left-alone : has_alone xs ys (differing (beside xs ys)) ≡ true → TellsPutIn rules A xs ys (where_words rules xs ys (beside xs ys))
  left-alone is =
      let parts = and_parts (nat_lt (length ys) (length xs)) (count == length xs - length ys) is in (
        place,
        count,
        ap (λ (one : Bool). said one (has_alone ys xs count)) is,
        (only_put_in xs ys).0 (ltb-true (length ys) (length xs) parts.0) (eqb-true count (length xs - length ys) parts.1),
      )

  right-alone : has_alone ys xs (differing (beside xs ys)) ≡ true → TellsPutIn rules B ys xs (where_words rules xs ys (beside xs ys))
  right-alone is =
      let parts = and_parts (nat_lt (length xs) (length ys)) (count == length ys - length xs) is in
      let longer : length xs < length ys = ltb-true (length xs) (length ys) parts.0 in
      let none : has_alone xs ys (differing (beside xs ys)) ≡ false =
      and_left (nat_lt (length ys) (length xs)) (count == length xs - length ys) (le-ltb (length ys) (length xs) (omega (arith, longer))) in (
        place,
        count,
        ap (λ (one : Bool). said one (has_alone ys xs count)) none ∙ ap (said false) is,
        (only_put_in xs ys).1 longer (eqb-true count (length ys - length xs) parts.1),
      )

pub alone_bytes_are_put_in : AloneBytesArePutIn
alone_bytes_are_put_in rules xs ys = (left-alone rules xs ys, right-alone rules xs ys)
