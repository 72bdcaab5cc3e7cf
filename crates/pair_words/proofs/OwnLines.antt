-- What stands in a line is what its logs have there.
use Rattle.std.proofs.Common.{◌≡◌, ℕ, ◌+◌, Bool, true, false, not, List, [], ◌∷◌, ◌++◌, codes, Option}
use Rattle.std.proofs.Common.{Some, None, option_to_list, ap, ap₂, ◌∙◌, append_assoc, arith, refl}
use Rattle.std.specs.Prelude.{if◌then◌else◌}
use Rattle.std.proofs.lemmas.Bool.{eqb-true, ltb-false}
use Rattle.byte_columns.specs.declared.column.Column.{Column}
use Rattle.byte_columns.specs.Columns.{differing, is_same_byte}
use Rattle.byte_columns.specs.Lines.{line, line_count, line_differs}
use Rattle.pair_words.specs.declared.column_words.LineOwner.{LineOwner}
use Rattle.pair_words.specs.declared.column_words.LineOwner.TheVariants.{Of, OfBoth, Untold}
use Rattle.pair_words.specs.declared.log.PairLog.{PairLog}
use Rattle.pair_words.specs.declared.log.PairLog.TheVariants.{A, B}
use Rattle.pair_words.specs.ColumnLines.{bytes_before, bytes_in, cells_text, letters_if, line_of, number_if, number_text, whose_text}
use Rattle.pair_words.specs.ColumnLaws.{EachLogHasItsLine, own_cells, own_line}
use Rattle.pair_words.specs.Logs.{other_log}

-- Columns of which none differs.

same-byte : (left right : Option ℕ) → is_same_byte left right ≡ true → option_to_list left ≡ option_to_list right
same-byte None None is = refl
same-byte (Some x) (Some y) is = ap (λ (n : ℕ). n ∷ []) (eqb-true x y is)
same-byte None (Some y) is = absurd cc
same-byte (Some x) None is = absurd cc

none-behind : (is : Bool) (count : ℕ) → (if not is then 1 else 0) + count ≡ 0 → (is ≡ true) × (count ≡ 0)
none-behind true count none = (refl, omega (arith, none))
none-behind false count none = absurd (omega (arith, none))

same-bytes : (columns : List Column) → differing columns ≡ 0 → bytes_in A columns ≡ bytes_in B columns
same-bytes [] none = refl
same-bytes (here ∷ later) none =
    let parts = none-behind (is_same_byte here.left here.right) (differing later) none in
    ap₂ (λ (l r : List ℕ). l ++ r) (same-byte here.left here.right parts.0) (same-bytes later parts.1)

-- A line, in parts.

cells-are : (bytes : List ℕ) (log : PairLog) (columns : List Column) → cells_text bytes log columns ≡ own_cells bytes log columns
cells-are [] log columns = refl
cells-are (byte ∷ bytes) log columns = refl

in-parts : (a b c who d cells e letters f : List ℕ)
    → a ++ b ++ c ++ who ++ d ++ cells ++ e ++ letters ++ f ≡ (a ++ b ++ c) ++ ((who ++ d ++ cells ++ e) ++ (letters ++ f))
in-parts a b c who d cells e letters f = simp append_assoc

two-parts : (a one b c other d : List ℕ) → (a ++ (one ++ b)) ++ (c ++ (other ++ d)) ≡ a ++ ((one ++ ((b ++ c) ++ other)) ++ d)
two-parts a one b c other d = simp append_assoc

module _ (lettered : Bool) (whose : LineOwner) (log : PairLog) (columns : List Column) (number : ℕ) where
  abbrev here : List Column
  here = line columns number

  abbrev number_here : List ℕ
  number_here = number_text (line_count columns) whose (bytes_before log columns number) (bytes_before (other_log log) columns number)

  abbrev front : List ℕ
  front = codes "<p><i>" ++ number_if number_here (bytes_in log here) ++ codes "</i> "

  abbrev behind : List ℕ
  behind = letters_if lettered (bytes_in log here) log here ++ codes "</p>"

  in-line : line_of lettered whose log columns number ≡ front ++ (own_line whose log here ++ behind)
  in-line =
      ap (λ (l : List ℕ). codes "<p><i>" ++ number_if number_here (bytes_in log here) ++ codes "</i> " ++ whose_text whose ++ codes "<code>" ++ l ++ codes "</code>"
      ++ letters_if lettered (bytes_in log here) log here ++ codes "</p>")
      (cells-are (bytes_in log here) log here)
      ∙ in-parts (codes "<p><i>") (number_if number_here (bytes_in log here)) (codes "</i> ") (whose_text whose) (codes "<code>")
      (own_cells (bytes_in log here) log here) (codes "</code>") (letters_if lettered (bytes_in log here) log here) (codes "</p>")

-- one of two texts
first-of : (is : Bool) (one other : List ℕ) → is ≡ true → (if is then one else other) ≡ one
first-of true one other is = refl
first-of false one other is = absurd cc

other-of : (is : Bool) (one other : List ℕ) → is ≡ false → (if is then one else other) ≡ other
other-of true one other is = absurd cc
other-of false one other is = refl

module _ (lettered : Bool) (columns : List Column) (number : ℕ) where
  abbrev twice : List ℕ
  twice = line_of lettered (Of A) A columns number ++ line_of lettered (Of B) B columns number

  abbrev once : List ℕ
  once = line_of lettered OfBoth A columns number

  both-stand : twice ≡ front lettered (Of A) A columns number
      ++ ((own_line (Of A) A (line columns number) ++ ((behind lettered (Of A) A columns number ++ front lettered (Of B) B columns number) ++ own_line (Of B) B (line columns number)))
      ++ behind lettered (Of B) B columns number)
  both-stand =
      ap₂ (λ (l r : List ℕ). l ++ r) (in-line lettered (Of A) A columns number) (in-line lettered (Of B) B columns number)
      ∙ two-parts (front lettered (Of A) A columns number) (own_line (Of A) A (line columns number)) (behind lettered (Of A) A columns number)
      (front lettered (Of B) B columns number) (own_line (Of B) B (line columns number)) (behind lettered (Of B) B columns number)

  none-differs : line_differs columns number ≡ false → differing (line columns number) ≡ 0
  none-differs same = let few = ltb-false 0 (differing (line columns number)) same in omega (arith, few)

pub each_log_has_its_line : EachLogHasItsLine
each_log_has_its_line lettered columns number = (
  λ same. (
    same-bytes (line columns number) (none-differs lettered columns number same),
    (
      front lettered OfBoth A columns number,
      behind lettered OfBoth A columns number,
      other-of (line_differs columns number) (twice lettered columns number) (once lettered columns number) same ∙ in-line lettered OfBoth A columns number,
    ),
  ),
  λ differ. (
    behind lettered (Of A) A columns number ++ front lettered (Of B) B columns number,
    (
      front lettered (Of A) A columns number,
      behind lettered (Of B) B columns number,
      first-of (line_differs columns number) (twice lettered columns number) (once lettered columns number) differ ∙ both-stand lettered columns number,
    ),
  ),
  λ log. (front lettered Untold log columns number, behind lettered Untold log columns number, in-line lettered Untold log columns number),
)
