-- What holds of how two messages differ, in words: where it is told of bytes that one log has alone, all others are the
-- same.
use Rattle.std.specs.Prelude.{◌≡◌, ℕ, true, List}
use Rattle.byte_columns.specs.Columns.{beside, differing}
use Rattle.byte_columns.specs.Laws.{IsPutIn}
use Rattle.uds_rules.specs.Rule.{RuleValue}
use Rattle.pair_words.specs.declared.log.PairLog.{PairLog}
use Rattle.pair_words.specs.declared.log.PairLog.TheVariants.{A, B}
use Rattle.pair_words.specs.ByteWords.{alone_words, has_alone, where_words}

-- the words tell of bytes that a log has alone, and its message is that of the other one with these bytes put in
abbrev pub TellsPutIn : List RuleValue → PairLog → List ℕ → List ℕ → List ℕ → Type 0
TellsPutIn rules log own other words = (place : ℕ) × (count : ℕ) × (words ≡ alone_words rules log count place own) × IsPutIn own other place count

-- where one of two messages has bytes that the other one lacks, and no other column differs, the words tell which these
-- are
abbrev pub AloneBytesArePutIn : Type 0
AloneBytesArePutIn = (rules : List RuleValue) (xs ys : List ℕ)
    → (has_alone xs ys (differing (beside xs ys)) ≡ true → TellsPutIn rules A xs ys (where_words rules xs ys (beside xs ys)))
    × (has_alone ys xs (differing (beside xs ys)) ≡ true → TellsPutIn rules B ys xs (where_words rules xs ys (beside xs ys)))
