-- The columns that count are those in which a log has a byte.
use Rattle.std.proofs.Common.{◌≡◌, ℕ, suc, ◌+◌, Bool, true, false, List, [], ◌∷◌, ◌++◌, codes, length}
use Rattle.std.proofs.Common.{Option, Some, None, option_to_list, ap, ◌∙◌, append_assoc, refl, arith}
use Rattle.std.specs.Prelude.{◌==◌, not, if◌then◌else◌, cond}
use Rattle.std.specs.List.{filter, flat_map, range_with_len}
use Rattle.byte_columns.specs.declared.column.Column.{Column}
use Rattle.byte_columns.specs.Columns.{differing}
use Rattle.byte_columns.specs.declared.stretches.Stretch.TheVariants.{Folded}
use Rattle.byte_columns.specs.Lines.{columns_from}
use Rattle.pair_words.specs.declared.column_lines.ShownLogs.{ShownLogs}
use Rattle.pair_words.specs.declared.column_lines.ShownLogs.TheVariants.{Both, Only}
use Rattle.pair_words.specs.declared.log.PairLog.{PairLog}
use Rattle.pair_words.specs.ColumnLines.{bytes_in, counted, fold_text, fold_words, has_byte, hidden_words, line_text, stretch_text, uncounted}
use Rattle.pair_words.specs.ColumnLaws.{EachByteIsCounted, fold_told, has_byte_of, lacks_byte_of, other_columns, own_columns}
use Rattle.pair_words.specs.Logs.{byte_of}

all-count : (columns : List Column) → counted Both columns ≡ columns
all-count [] = refl
all-count (here ∷ later) = ap (λ (l : List Column). here ∷ l) (all-count later)

-- a column in front of others, by what the log has there
in-front : (byte : Option ℕ) (here : Column) (one other : List Column) → one ≡ other
    → (if has_byte byte then here ∷ one else one) ≡ cond (length (option_to_list byte) == 1) (here ∷ other) other
in-front None here one other same = same
in-front (Some b) here one other same = ap (λ (l : List Column). here ∷ l) same

own-count : (log : PairLog) (columns : List Column) → counted (Only log) columns ≡ filter (has_byte_of log) columns
own-count log [] = refl
own-count log (here ∷ later) = in-front (byte_of log here) here (counted (Only log) later) (filter (has_byte_of log) later) (own-count log later)

counted-own : (shown : ShownLogs) (columns : List Column) → counted shown columns ≡ own_columns shown columns
counted-own Both columns = all-count columns
counted-own (Only log) columns = own-count log columns

one-more : (byte : Option ℕ) (here : Column) (rest : List Column) (bytes : List ℕ) → length rest ≡ length bytes
    → length (cond (length (option_to_list byte) == 1) (here ∷ rest) rest) ≡ length (option_to_list byte ++ bytes)
one-more None here rest bytes same = same
one-more (Some b) here rest bytes same = omega (arith, same)

as-many : (log : PairLog) (columns : List Column) → length (own_columns (Only log) columns) ≡ length (bytes_in log columns)
as-many log [] = refl
as-many log (here ∷ later) = one-more (byte_of log here) here (own_columns (Only log) later) (bytes_in log later) (as-many log later)

-- Of one log each column counts or does not.

one-of-both : (is : Bool) (here : Column) (own others : List Column) (count : ℕ) → length own + length others ≡ count
    → length (cond is (here ∷ own) own) + length (cond (not is) (here ∷ others) others) ≡ suc count
one-of-both true here own others count same = omega (arith, same)
one-of-both false here own others count same = omega (arith, same)

both-parts : (log : PairLog) (columns : List Column) → length (filter (has_byte_of log) columns) + length (filter (lacks_byte_of log) columns) ≡ length columns
both-parts log [] = omega arith
both-parts log (here ∷ later) =
    one-of-both (has_byte_of log here) here (filter (has_byte_of log) later) (filter (lacks_byte_of log) later) (length later) (both-parts log later)

others-are : (shown : ShownLogs) (columns : List Column) → uncounted shown columns ≡ length (other_columns shown columns)
others-are Both columns = let all = ap (λ (l : List Column). length l) (all-count columns) in omega (arith, all)
others-are (Only log) columns = let own = ap (λ (l : List Column). length l) (own-count log columns) in omega (arith, own, both-parts log columns)

-- What is told.

apart : (a b c d e : List ℕ) → a ++ b ++ c ++ d ++ e ≡ (a ++ b ++ c) ++ (d ++ e)
apart a b c d e = simp append_assoc

module _ (shown : ShownLogs) (lettered : Bool) (columns : List Column) (first count : ℕ) where
  abbrev folded_columns : List Column
  folded_columns = columns_from columns first count

  abbrev own_lines : List ℕ
  own_lines = flat_map (line_text shown lettered columns) (range_with_len first count)

  counts-told : fold_text shown folded_columns ≡ fold_told shown folded_columns
  counts-told =
      (λ i. fold_words shown (length (counted-own shown folded_columns i)) (differing (counted-own shown folded_columns i)) (others-are shown folded_columns i))

  fold-tells : stretch_text shown lettered columns (Folded first count)
      ≡ (codes "<details><summary>" ++ fold_told shown folded_columns ++ codes "</summary>") ++ (own_lines ++ codes "</details>")
  fold-tells =
      ap (λ (told : List ℕ). codes "<details><summary>" ++ told ++ codes "</summary>" ++ own_lines ++ codes "</details>") counts-told
      ∙ apart (codes "<details><summary>") (fold_told shown folded_columns) (codes "</summary>") own_lines (codes "</details>")

pub each_byte_is_counted : EachByteIsCounted
each_byte_is_counted columns = (
  λ shown. counted-own shown columns,
  λ log. as-many log columns,
  λ shown lettered first count. (own_lines shown lettered columns first count ++ codes "</details>", fold-tells shown lettered columns first count),
  λ shown. (λ i. hidden_words shown (length (counted-own shown columns i)) (differing (counted-own shown columns i)) (others-are shown columns i)),
)
