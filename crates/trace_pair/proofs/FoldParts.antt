-- The parts of a long fold, one after another.
use Rattle.std.proofs.Common.{◌≡◌, ℕ, suc, ◌+◌, ◌-◌, ◌/◌, ◌≤◌, ◌<◌, min, List, ◌++◌, ap, sym, ◌∙◌, arith, inl, inr}
use Rattle.std.specs.List.{flat_map}
use Rattle.std.proofs.lemmas.Bool.{cases_lt}
use Rattle.text_parts.proofs.Promises.{IsLeft, same-rest, said-whole, say-more}
use Rattle.trace_pair.specs.declared.folds.Fold.{Fold}
use Rattle.trace_pair.specs.RowStretches.{parts_of}

-- how many tables are left behind a full one
pub tables-more : (more : ℕ) → 0 < more → (more + 199) / 200 ≡ suc ((more - 200 + 199) / 200)
tables-more more some = omega arith

-- what is left of a fold, of which so many items were said
abbrev pub fold_behind : Fold → ℕ → Fold
fold_behind fold said = record { left = fold.left + said; right = fold.right + said; count = fold.count - said }

-- what was said of it: so many items
abbrev pub part_at : Fold → ℕ → ℕ → Fold
part_at fold said count = record { left = fold.left + said; right = fold.right + said; count = count }

module _ {S : Type 0} (says : S → List ℕ → S → Type 0) (onward : (s m t : S) (a b : List ℕ) → says s a m → says m b t → says s (a ++ b) t)
    (text : Fold → List ℕ) (fold : Fold) (old : S) (whole : List ℕ) where
  -- the texts of so many parts, of what is left
  abbrev rest_text : ℕ → ℕ → ℕ → ℕ → List ℕ
  rest_text more left right count = flat_map text (parts_of more (record { left = left; right = right; count = count }))

  abbrev pub Parts : ℕ → S → Type 0
  Parts said now = IsLeft says old (rest_text ((fold.count - said + 199) / 200) (fold.left + said) (fold.right + said) (fold.count - said)) whole now

  -- the parts behind one that has so many items
  parts-later : (said part : ℕ) → said < fold.count → part ≡ min (fold.count - said) 200
      → rest_text ((fold.count - said - 200 + 199) / 200) (fold.left + said + 200) (fold.right + said + 200) (fold.count - said - 200)
      ≡ rest_text ((fold.count - (said + part) + 199) / 200) (fold.left + (said + part)) (fold.right + (said + part)) (fold.count - (said + part))
  parts-later said part below is = elim (cases_lt 200 (fold.count - said)) [
    | inl long ↦
        let full : part ≡ 200 = omega arith in
        let a : fold.left + said + 200 ≡ fold.left + (said + part) = omega arith in
        let b : fold.right + said + 200 ≡ fold.right + (said + part) = omega arith in
        let d : fold.count - said - 200 ≡ fold.count - (said + part) = omega arith in
        (λ i. rest_text ((d i + 199) / 200) (a i) (b i) (d i))
    | inr short ↦
        let none : (fold.count - said - 200 + 199) / 200 ≡ 0 = omega arith in
        let end : (fold.count - (said + part) + 199) / 200 ≡ 0 = omega arith in
        ap (λ (n : ℕ). rest_text n (fold.left + said + 200) (fold.right + said + 200) (fold.count - said - 200)) none
        ∙ sym (ap (λ (n : ℕ). rest_text n (fold.left + (said + part)) (fold.right + (said + part)) (fold.count - (said + part))) end)
  ]

  -- one more part is said
  pub turn-part : (said part : ℕ) (now new : S) → said < fold.count → part ≡ min (fold.count - said) 200 → Parts said now
      → says now (text (part_at fold said part)) new → Parts (said + part) new
  turn-part said part now new below is left_of it =
      let own : min 200 (fold.count - said) ≡ part = omega arith in
      let later = rest_text ((fold.count - said - 200 + 199) / 200) (fold.left + said + 200) (fold.right + said + 200) (fold.count - said - 200) in
      same-rest says old new _ _ whole (parts-later said part below is)
      (say-more says onward old now new (text (part_at fold said part)) later whole
      (same-rest says old now _ _ whole
      (ap (λ (n : ℕ). rest_text n (fold.left + said) (fold.right + said) (fold.count - said)) (tables-more (fold.count - said) (omega arith))
      ∙ ap (λ (n : ℕ). text (part_at fold said n) ++ later) own)
      left_of) it)

  -- and that are all
  pub turn-end : (said : ℕ) (now : S) → fold.count ≤ said → Parts said now → says old whole now
  turn-end said now over left_of =
      let none : (fold.count - said + 199) / 200 ≡ 0 = omega arith in
      said-whole says old now whole (same-rest says old now _ _ whole (ap (λ (n : ℕ). rest_text n (fold.left + said) (fold.right + said) (fold.count - said)) none) left_of)
