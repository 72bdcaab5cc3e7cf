-- The lines of items, one after another.
use Rattle.std.proofs.Common.{◌≡◌, ℕ, ◌+◌, List, [], ◌∷◌, ◌++◌, length, take, arith, ap, ap₂, sym, refl, ◌∙◌}
use Rattle.std.proofs.Common.{append_assoc, append-nil, length-take, Some}
use Rattle.std.specs.Prelude.{slice_get}
use Rattle.std.proofs.lemmas.List.{take_more}
use Rattle.std.proofs.lemmas.Option.{slice_get_within, get_or_from_slice_get}
use Rattle.uds_exchange.specs.Meaning.{ItemValue}
use Rattle.uds_rules.specs.Rule.{RuleValue}
use Rattle.trace_text.specs.declared.item_style.ItemStyle.{ItemStyle}
use Rattle.trace_text.specs.declared.item_style.Numbering.TheVariants.{Hidden}
use Rattle.trace_text.specs.declared.notation.Notation.{Notation}
use Rattle.trace_text.specs.declared.notation.Notation.TheVariants.{Text, Json}
use Rattle.trace_text.specs.Laws.{UnnumberedListsJoin}
use Rattle.trace_text.specs.ItemLines.{item_line, written_line, list_text, list_text_from}

module _ (rules : List RuleValue) (style : ItemStyle) where
  -- the lines of two lists of items
  pub lines-append : (number : ℕ) (xs ys : List ItemValue)
      → list_text_from rules style number (xs ++ ys) ≡ list_text_from rules style number xs ++ list_text_from rules style (number + length xs) ys
  lines-append number [] ys = let none : number + 0 ≡ number = omega arith in rw none refl
  lines-append number (x ∷ xs) ys =
      let next : number + 1 + length xs ≡ number + length (x ∷ xs) = omega arith in
      ap (λ l. item_line rules style number x ++ l) (lines-append (number + 1) xs ys
      ∙ ap (λ n. list_text_from rules style (number + 1) xs ++ list_text_from rules style n ys) next)
      ∙ sym (append_assoc (item_line rules style number x) (list_text_from rules style (number + 1) xs)
      (list_text_from rules style (number + length (x ∷ xs)) ys))

  -- the text of the first items and one more
  pub more_lines : (items : List ItemValue) (i : ℕ) (item : ItemValue) → slice_get items i ≡ Some item
      → list_text rules style (take (i + 1) items) ≡ list_text rules style (take i items) ++ item_line rules style (i + 1) item
  more_lines items i item is =
      let within = slice_get_within items i item is in
      let front : take (i + 1) items ≡ take i items ++ item ∷ [] =
      take_more items i item within ∙ ap (λ x. take i items ++ x ∷ []) (get_or_from_slice_get items i item item is) in
      let number : 1 + length (take i items) ≡ i + 1 = omega (arith, length-take {A = ItemValue}) in
      ap (list_text rules style) front ∙ lines-append 1 (take i items) (item ∷ [])
      ∙ ap (λ l. list_text rules style (take i items) ++ l) (append-nil _ ∙ ap (λ n. item_line rules style n item) number)

-- without numbers the lines are the same whatever number comes first
abbrev pub unnumbered_style : Notation → ItemStyle
unnumbered_style notation = record { numbering = Hidden; notation = notation }

one_line : (rules : List RuleValue) (notation : Notation) (number other : ℕ) (item : ItemValue)
    → written_line rules notation Hidden number item ≡ written_line rules notation Hidden other item
one_line rules Text number other item = refl
one_line rules Json number other item = refl

unnumbered : (rules : List RuleValue) (notation : Notation) (number other : ℕ) (items : List ItemValue)
    → list_text_from rules (unnumbered_style notation) number items ≡ list_text_from rules (unnumbered_style notation) other items
unnumbered rules notation number other [] = refl
unnumbered rules notation number other (item ∷ later) =
    ap₂ (λ l rest. l ++ rest) (one_line rules notation number other item) (unnumbered rules notation (number + 1) (other + 1) later)

pub unnumbered_lists_join : UnnumberedListsJoin
unnumbered_lists_join rules notation xs ys =
    let style = unnumbered_style notation in
    lines-append rules style 1 xs ys ∙ ap (λ l. list_text rules style xs ++ l) (unnumbered rules notation (1 + length xs) 1 ys)
