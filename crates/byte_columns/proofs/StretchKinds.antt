-- The lines of a stretch are of one kind.
use Rattle.std.proofs.Common.{◌≡◌, ℕ, zero, suc, ◌+◌, ◌≤◌, ◌<◌, Bool, true, false, List, [], ◌∷◌, arith, ap, sym, subst, ◌∙◌, refl, inl, inr}
use Rattle.std.specs.Prelude.{if◌then◌else◌}
use Rattle.std.proofs.lemmas.Bool.{cases_lt}
use Rattle.byte_columns.specs.declared.column.Column.{Column}
use Rattle.byte_columns.specs.declared.stretches.Stretch.{Stretch}
use Rattle.byte_columns.specs.declared.stretches.Stretch.TheVariants.{Shown, Folded}
use Rattle.byte_columns.specs.Laws.{AreApart, AreOfOneKind, StretchesAreOfOneKind}
use Rattle.byte_columns.specs.Lines.{is_shown, line_count, stretches_from, with_folded}
use Rattle.byte_columns.proofs.LineNumbers.{BeginsWith, begins}

-- how many are folded together does not matter to what stands behind
same-apart : (first count other more : ℕ) (later : List Stretch) → AreApart (Folded first count) later → AreApart (Folded other more) later
same-apart first count other more [] apart = tt
same-apart first count other more (Shown number ∷ later) apart = tt
same-apart first count other more (Folded number next ∷ later) apart = absurd apart

module _ (columns : List Column) (number : ℕ) (below : number < line_count columns) (is : is_shown columns number ≡ false) where
  same-number : (line : ℕ) → line ≡ number → is_shown columns line ≡ false
  same-number line e = ap (is_shown columns) e ∙ is

  -- one more line that is folded
  one-folded : (later : List Stretch) → BeginsWith (number + 1) later → AreOfOneKind columns later → AreOfOneKind columns (with_folded number later)
  one-folded [] begin are = ((omega arith, omega (arith, below), λ line from behind. same-number line (omega arith)), tt, tt)
  one-folded (Shown first ∷ later) begin are = ((omega arith, omega (arith, below), λ line from behind. same-number line (omega arith)), tt, are)
  one-folded (Folded first count ∷ later) begin are = (
    (
      omega arith,
      omega (arith, begin, are.0.1),
      λ line from behind. elim (cases_lt line first) [
        | inl before ↦ same-number line (omega (arith, begin))
        | inr past ↦ are.0.2 line past (omega (arith, begin))
      ],
    ),
    same-apart first count number (suc count) later are.1,
    are.2,
  )

  by-folded : (count : ℕ) (later : List Stretch) → later ≡ stretches_from columns (number + 1) count → AreOfOneKind columns later
      → AreOfOneKind columns (with_folded number later)
  by-folded count later e are = one-folded later (subst (BeginsWith (number + 1)) (sym e) (begins columns (number + 1) count)) are

kinds : (columns : List Column) (number count : ℕ) → number + count ≤ line_count columns → AreOfOneKind columns (stretches_from columns number count)
kinds columns number zero fits = tt
kinds columns number (suc count) fits =
    kinds-by columns number count (omega (arith, fits)) (is_shown columns number) refl (kinds columns (number + 1) count (omega (arith, fits)))
  where
    kinds-by : (columns : List Column) (number count : ℕ) → number < line_count columns → (is : Bool) → is_shown columns number ≡ is
        → AreOfOneKind columns (stretches_from columns (number + 1) count)
        → AreOfOneKind columns (if is then Shown number ∷ stretches_from columns (number + 1) count else with_folded number (stretches_from columns (number + 1) count))
    kinds-by columns number count below true is rest = ((below, is), tt, rest)
    kinds-by columns number count below false is rest = by-folded columns number below is count (stretches_from columns (number + 1) count) refl rest

pub stretches_are_of_one_kind : StretchesAreOfOneKind
stretches_are_of_one_kind columns = kinds columns 0 (line_count columns) (omega arith)
