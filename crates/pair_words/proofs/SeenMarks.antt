-- What is seen of the columns of a line, and which of them have a mark.
use Rattle.std.proofs.Common.{◌≡◌, ℕ, ◌/◌, ◌%◌, ◌<◌, Bool, true, false, List, [], ◌∷◌, ◌++◌, codes, map, Option, Some, None, ap, ◌∙◌, arith, refl}
use Rattle.std.specs.Prelude.{◌==◌}
use Rattle.std.specs.List.{flat_map}
use Rattle.std.proofs.lemmas.Bool.Decides.{nat_tests}
use Rattle.can_log.specs.Digits.{digit, digits}
use Rattle.byte_columns.specs.declared.column.Column.{Column}
use Rattle.byte_columns.specs.Columns.{differs}
use Rattle.pair_words.specs.declared.log.PairLog.{PairLog}
use Rattle.pair_words.specs.ColumnLines.{byte_or_gap, cells_behind, mark_end, mark_start}
use Rattle.pair_words.specs.ColumnLaws.{MarksAreOfColumnsThatDiffer, SeenLetter, seen_from, seen_letter, seen_of}
use Rattle.pair_words.specs.Logs.{byte_of}

-- a digit begins no tag, and is no blank
no-tag : (d : ℕ) → d < 16 → (digit d == 60) ≡ false
no-tag d small = grind (arith, nat_tests)

no-blank : (d : ℕ) → d < 16 → (digit d == 32) ≡ false
no-blank d small = grind (arith, nat_tests)

-- a cell is seen as it is
cell-seen : (marked : Bool) (cell : Option ℕ) (rest : List ℕ)
    → seen_from marked false (byte_or_gap cell ++ rest) ≡ map (seen_letter marked) (byte_or_gap cell) ++ seen_from marked false rest
unfolding digits
cell-seen marked None rest = refl
cell-seen marked (Some b) rest =
    let high : b / 16 % 16 < 16 = omega arith in
    let low : b % 16 < 16 = omega arith in
    rw (no-tag (b / 16 % 16) high, no-blank (b / 16 % 16) high, no-tag (b % 16) low, no-blank (b % 16) low) refl

-- what stands between two cells opens and closes the mark of the second one
first-turned : (next : Bool) (cell : Option ℕ) (rest : List ℕ)
    → seen_from false false (mark_start false next ++ byte_or_gap cell ++ rest) ≡ seen_from next false (byte_or_gap cell ++ rest)
first-turned true cell rest = refl
first-turned false cell rest = refl

turned : (marked next : Bool) (cell : Option ℕ) (rest : List ℕ)
    → seen_from marked false (mark_end marked next ++ codes " " ++ mark_start marked next ++ byte_or_gap cell ++ rest) ≡ seen_from next false (byte_or_gap cell ++ rest)
turned true true cell rest = refl
turned true false cell rest = refl
turned false true cell rest = refl
turned false false cell rest = refl

ended : (marked : Bool) → seen_from marked false (mark_end marked false) ≡ []
ended true = refl
ended false = refl

behind-seen : (log : PairLog) (marked : Bool) (columns : List Column) → seen_from marked false (cells_behind log marked columns) ≡ flat_map (seen_of log) columns
behind-seen log marked [] = ended marked
behind-seen log marked (here ∷ later) =
    turned marked (differs here) (byte_of log here) (cells_behind log (differs here) later)
    ∙ cell-seen (differs here) (byte_of log here) (cells_behind log (differs here) later)
    ∙ ap (λ (l : List SeenLetter). seen_of log here ++ l) (behind-seen log (differs here) later)

pub marks_are_of_columns_that_differ : MarksAreOfColumnsThatDiffer
marks_are_of_columns_that_differ log [] = refl
marks_are_of_columns_that_differ log (here ∷ later) =
    first-turned (differs here) (byte_of log here) (cells_behind log (differs here) later)
    ∙ cell-seen (differs here) (byte_of log here) (cells_behind log (differs here) later)
    ∙ ap (λ (l : List SeenLetter). seen_of log here ++ l) (behind-seen log (differs here) later)
