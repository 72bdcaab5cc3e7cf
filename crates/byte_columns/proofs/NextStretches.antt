-- The stretches of lines, one after another.
use Rattle.std.proofs.Common.{◌≡◌, ℕ, zero, suc, ◌+◌, ◌-◌, ◌<◌, Bool, true, false, List, ◌∷◌, ap, ap₂, sym, subst, ◌∙◌, arith, refl}
use Rattle.byte_columns.specs.declared.column.Column.{Column}
use Rattle.byte_columns.specs.declared.stretches.Stretch.TheVariants.{Shown, Folded}
use Rattle.byte_columns.specs.Lines.{folded_from, is_shown, line_count, stretches_from, with_folded}
use Rattle.byte_columns.specs.proving.Stretches.{stretches_left}

-- what stretches are behind so many lines that are folded from a number on, where some are
abbrev pub Walked : List Column → ℕ → ℕ → ℕ → Type 0
Walked columns number more zero = (line : ℕ) → with_folded line (stretches_from columns number more) ≡ Folded line 1 ∷ stretches_from columns number more
Walked columns number more (suc count) =
    stretches_from columns number more ≡ Folded number (suc count) ∷ stretches_from columns (number + suc count) (more - suc count)

shown-first : (columns : List Column) (number more : ℕ) → is_shown columns number ≡ true
    → stretches_from columns number (suc more) ≡ Shown number ∷ stretches_from columns (number + 1) more
shown-first columns number more is = rw is refl

folded-first : (columns : List Column) (number more : ℕ) → is_shown columns number ≡ false
    → stretches_from columns number (suc more) ≡ with_folded number (stretches_from columns (number + 1) more)
folded-first columns number more is = rw is refl

none-folded : (columns : List Column) (number more : ℕ) → is_shown columns number ≡ true → folded_from columns number (suc more) ≡ 0
none-folded columns number more is = rw is refl

one-folded : (columns : List Column) (number more : ℕ) → is_shown columns number ≡ false → folded_from columns number (suc more) ≡ suc (folded_from columns (number + 1) more)
one-folded columns number more is = let sum : 1 + folded_from columns (number + 1) more ≡ suc (folded_from columns (number + 1) more) = omega arith in rw is sum

-- a line that is folded, in front of so many
fold-behind : (columns : List Column) (number more count : ℕ) → is_shown columns number ≡ false → Walked columns (number + 1) more count
    → Walked columns number (suc more) (suc count)
fold-behind columns number more zero is walked =
    let less : more ≡ suc more - 1 = omega arith in
    folded-first columns number more is ∙ walked number ∙ ap (λ (n : ℕ). Folded number 1 ∷ stretches_from columns (number + 1) n) less
fold-behind columns number more (suc count) is walked =
    let place : number + 1 + suc count ≡ number + suc (suc count) = omega arith in
    let less : more - suc count ≡ suc more - suc (suc count) = omega arith in
    folded-first columns number more is ∙ ap (with_folded number) walked
    ∙ ap₂ (λ (n m : ℕ). Folded number (suc (suc count)) ∷ stretches_from columns n m) place less

walked : (columns : List Column) (number more : ℕ) → Walked columns number more (folded_from columns number more)
walked columns number zero = λ line. refl
walked columns number (suc more) = walked-by columns number more (is_shown columns number) refl (walked columns (number + 1) more)
  where
    shown-behind : (columns : List Column) (number more : ℕ) → is_shown columns number ≡ true → (line : ℕ)
        → with_folded line (stretches_from columns number (suc more)) ≡ Folded line 1 ∷ stretches_from columns number (suc more)
    shown-behind columns number more is line = rw is refl

    walked-by : (columns : List Column) (number more : ℕ) (is : Bool) → is_shown columns number ≡ is → Walked columns (number + 1) more (folded_from columns (number + 1) more)
        → Walked columns number (suc more) (folded_from columns number (suc more))
    walked-by columns number more true is behind = subst (Walked columns number (suc more)) (sym (none-folded columns number more is)) (shown-behind columns number more is)
    walked-by columns number more false is behind = subst (Walked columns number (suc more)) (sym (one-folded columns number more is)) (fold-behind columns number more _ is behind)

some-walked : (columns : List Column) (number more count : ℕ) → Walked columns number more count → 0 < count
    → stretches_from columns number more ≡ Folded number count ∷ stretches_from columns (number + count) (more - count)
some-walked columns number more zero is some = absurd (omega arith)
some-walked columns number more (suc count) is some = is

-- a line is shown where none is folded from it on
shown-by : (columns : List Column) (number more : ℕ) (is : Bool) → is_shown columns number ≡ is → folded_from columns number (suc more) ≡ 0
    → is_shown columns number ≡ true
shown-by columns number more true is none = is
shown-by columns number more false is none =
    let some : folded_from columns number (suc more) ≡ suc (folded_from columns (number + 1) more) = one-folded columns number more is in
    absurd (omega arith)

-- ---- the stretches from a line on

pub left-shown : (columns : List Column) (number : ℕ) → number < line_count columns → folded_from columns number (line_count columns - number) ≡ 0
    → stretches_left columns number ≡ Shown number ∷ stretches_left columns (number + 1)
left-shown columns number below none =
    let more = line_count columns - (number + 1) in
    let next : line_count columns - number ≡ suc (line_count columns - (number + 1)) = omega arith in
    let is = shown-by columns number more (is_shown columns number) refl (sym (ap (folded_from columns number) next) ∙ none) in
    ap (stretches_from columns number) next ∙ shown-first columns number more is

pub left-folded : (columns : List Column) (number count : ℕ) → count ≡ folded_from columns number (line_count columns - number) → 0 < count
    → stretches_left columns number ≡ Folded number count ∷ stretches_left columns (number + count)
left-folded columns number count is some =
    let more = line_count columns - number in
    let sum : line_count columns - number - count ≡ line_count columns - (number + count) = omega arith in
    some-walked columns number more count (subst (Walked columns number more) (sym is) (walked columns number more)) some
    ∙ ap (λ (n : ℕ). Folded number count ∷ stretches_from columns (number + count) n) sum
