-- The numbers of lines, shown or folded.
use Rattle.std.proofs.Common.{◌≡◌, ℕ, zero, suc, ◌+◌, Bool, true, false, List, [], ◌∷◌, ◌++◌, ap, sym, ◌∙◌, refl}
use Rattle.std.specs.Prelude.{if◌then◌else◌}
use Rattle.std.specs.List.{flat_map, range_with_len}
use Rattle.byte_columns.specs.declared.column.Column.{Column}
use Rattle.byte_columns.specs.declared.stretches.Stretch.{Stretch}
use Rattle.byte_columns.specs.declared.stretches.Stretch.TheVariants.{Shown, Folded}
use Rattle.byte_columns.specs.Laws.{LinesStandOnce, numbers_of}
use Rattle.byte_columns.specs.Lines.{is_shown, line_count, stretches_from, with_folded}

-- the first stretch begins with the first line
abbrev pub BeginsWith : ℕ → List Stretch → Type 0
BeginsWith number (Folded first count ∷ later) = first ≡ number
BeginsWith number (Shown first ∷ later) = first ≡ number
BeginsWith number [] = Unit {0}

folded-begins : (number : ℕ) (later : List Stretch) → BeginsWith number (with_folded number later)
folded-begins number [] = refl
folded-begins number (Shown first ∷ later) = refl
folded-begins number (Folded first count ∷ later) = refl

pub begins : (columns : List Column) (number count : ℕ) → BeginsWith number (stretches_from columns number count)
begins columns number zero = tt
begins columns number (suc count) = by (is_shown columns number)
  where
    by : (is : Bool) → BeginsWith number (if is then Shown number ∷ stretches_from columns (number + 1) count else with_folded number (stretches_from columns (number + 1) count))
    by true = refl
    by false = folded-begins number (stretches_from columns (number + 1) count)

-- one more line in front
one-more : (number : ℕ) (later : List Stretch) → BeginsWith (number + 1) later
    → flat_map numbers_of (with_folded number later) ≡ number ∷ flat_map numbers_of later
one-more number [] b = refl
one-more number (Shown first ∷ later) b = refl
one-more number (Folded first count ∷ later) b =
    ap (λ (n : ℕ). number ∷ (range_with_len n count ++ flat_map numbers_of later)) (sym b)

once-more : (columns : List Column) (number count : ℕ) (is : Bool) → flat_map numbers_of (stretches_from columns (number + 1) count) ≡ range_with_len (number + 1) count
    → flat_map numbers_of (if is then Shown number ∷ stretches_from columns (number + 1) count else with_folded number (stretches_from columns (number + 1) count))
    ≡ number ∷ range_with_len (number + 1) count
once-more columns number count true rest = ap (λ (l : List ℕ). number ∷ l) rest
once-more columns number count false rest =
    one-more number (stretches_from columns (number + 1) count) (begins columns (number + 1) count) ∙ ap (λ (l : List ℕ). number ∷ l) rest

once : (columns : List Column) (number count : ℕ) → flat_map numbers_of (stretches_from columns number count) ≡ range_with_len number count
once columns number zero = refl
once columns number (suc count) = once-more columns number count (is_shown columns number) (once columns (number + 1) count)

pub lines_stand_once : LinesStandOnce
lines_stand_once columns = once columns 0 (line_count columns)
