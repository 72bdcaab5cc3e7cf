-- The units of a profile in their order, up to the first with which something is wrong.
use Rattle.std.proofs.Common.{◌≡◌, ℕ, ◌+◌, ◌<◌, ◌≤◌, ◌⊎◌, true, false, List, [], ◌∷◌, ◌++◌, length, map, codes, nat_le, nat_lt, leb-false, Option, Some, None, Result, Ok, Err, inl, inr, refl, ap, sym, ◌∙◌, subst, append-nil, append_assoc, arith}
use Rattle.std.proofs.lemmas.Bool.{cases_Bool}
use Rattle.std.proofs.lemmas.List.{length-append}
use Rattle.toml.specs.Data.{Items, no_items, item, Members, as_table}
use Rattle.profile.specs.Laws.{IsUnit, AreUnits, IsFirstWrong, FirstWrongUnitIsTold, tables_behind, tables_of, wrong_behind}
use Rattle.profile.specs.ProfileRules.{items_at, item_count}
use Rattle.profile.specs.UnitWrong.{UnitWrongValue}
use Rattle.profile.specs.Units.{UnitValue, unit_said, wrong_beside, unless_beside, unit_behind, table_behind, units_behind, profile_units}
use Rattle.profile.specs.Wrong.{WrongValue, in_unit, many_units}
use Rattle.profile.proofs.LegalUnits.{unit_legal, beside, all_behind, apart_behind}

-- the units of tables, behind what was read so far
abbrev tables_read : List Members → Result (List UnitValue) WrongValue → Result (List UnitValue) WrongValue
tables_read [] read = read
tables_read (table ∷ tables) read = tables_read tables (table_behind (Some table) read)

one_table : (table : Option Members) (tables : List Members) (read : Result (List UnitValue) WrongValue)
    → tables_read tables (table_behind table read) ≡ tables_read (tables_behind table tables) read
one_table None tables read = refl
one_table (Some table) tables read = refl

-- are those of the array that has them
are_tables : (items : Items) (read : Result (List UnitValue) WrongValue) → units_behind items read ≡ tables_read (tables_of items) read
are_tables no_items read = refl
are_tables (item element rest) read = are_tables rest (table_behind (as_table element) read) ∙ one_table (as_table element) (tables_of rest) read

tables_stop : (tables : List Members) (wrong : WrongValue) → tables_read tables (Err wrong) ≡ Err wrong
tables_stop [] wrong = refl
tables_stop (table ∷ tables) wrong = tables_stop tables wrong

-- what a table says behind earlier units: there are 64, or this is wrong, or it is added
abbrev IsPlaced : List UnitValue → Result UnitValue UnitWrongValue → Type 0
IsPlaced before read =
    (unit_behind before read ≡ Err many_units)
    ⊎ (((wrong : UnitWrongValue) × (wrong_behind before read ≡ Some wrong) × (unit_behind before read ≡ Err (in_unit (length before + 1) wrong)))
    ⊎ ((one : UnitValue) × (read ≡ Ok one) × (length before < 64) × (wrong_beside before one ≡ None) × (unit_behind before read ≡ Ok (before ++ one ∷ []))))

right_placed : (before : List UnitValue) (one : UnitValue) (wrong : Option UnitWrongValue) → wrong_beside before one ≡ wrong → IsPlaced before (Ok one)
right_placed before one (Some wrong) is = inr (inl (wrong, is, rw is refl))
right_placed before one None is =
    elim (cases_Bool (nat_le 64 (length before))) [
      | inl many ↦ inl (rw is (rw many refl))
      | inr few ↦ inr (inr (one, refl, leb-false 64 (length before) few, is, rw is (rw few refl)))
    ]

placed : (before : List UnitValue) (read : Result UnitValue UnitWrongValue) → IsPlaced before read
placed before (Err wrong) = inr (inl (wrong, refl, refl))
placed before (Ok one) = right_placed before one (wrong_beside before one) refl

-- lists that end with one more
end_mapped : {A B : Type 0} (f : A → B) (xs : List A) (x : A) → map f (xs ++ x ∷ []) ≡ map f xs ++ f x ∷ []
end_mapped f [] x = refl
end_mapped f (y ∷ xs) x = ap (λ l. f y ∷ l) (end_mapped f xs x)

abbrev said_by : List UnitValue → List (Result UnitValue UnitWrongValue)
said_by units = map Ok units

one_more : (front : List Members) (table : Members) (before : List UnitValue) (one : UnitValue) → said_by before ≡ map unit_said front → unit_said table ≡ Ok one
    → said_by (before ++ one ∷ []) ≡ map unit_said (front ++ table ∷ [])
one_more front table before one right is =
    end_mapped Ok before one ∙ ap (λ l. l ++ Ok one ∷ []) right ∙ ap (λ said. map unit_said front ++ said ∷ []) (sym is) ∙ sym (end_mapped unit_said front table)

more_units : (table : Members) (before : List UnitValue) (one : UnitValue) → AreUnits before → unit_said table ≡ Ok one → length before < 64 → wrong_beside before one ≡ None
    → AreUnits (before ++ one ∷ [])
more_units table before one are is few right = record {
  most = (let more = length-append before (one ∷ []) in omega (arith, more, few));
  each = all_behind IsUnit before one are.each (unit_legal table one is);
  apart = apart_behind before one are.apart (beside before one right);
}

-- ---- all are right

not_right : (wrong : WrongValue) (tables : List Members) (units : List UnitValue) → tables_read tables (Err wrong) ≡ Ok units → ⊥
not_right wrong tables units is = none_read (sym (tables_stop tables wrong) ∙ is) where
  none_read : {wrong : WrongValue} {units : List UnitValue} → ◌≡◌ {A = Result (List UnitValue) WrongValue} (Err wrong) (Ok units) → ⊥
  none_read is = cc is

-- the units that are read, or others
abbrev read_or : List UnitValue → Result (List UnitValue) WrongValue → List UnitValue
read_or other (Ok units) = units
read_or other (Err wrong) = other

tables_ordered : (tables front : List Members) (before units : List UnitValue) → said_by before ≡ map unit_said front → tables_read tables (Ok before) ≡ Ok units
    → said_by units ≡ map unit_said (front ++ tables)
tables_ordered [] front before units right is = ap said_by (sym (ap (read_or units) is)) ∙ right ∙ ap (map unit_said) (sym (append-nil front))
tables_ordered (table ∷ tables) front before units right is =
    elim (placed before (unit_said table)) [
      | inl many ↦ absurd (not_right many_units tables units (ap (tables_read tables) (sym many) ∙ is))
      | inr other ↦ elim other [
        | inl wrong ↦ absurd (not_right _ tables units (ap (tables_read tables) (sym wrong.2) ∙ is))
        | inr added ↦
            tables_ordered tables (front ++ table ∷ []) (before ++ added.0 ∷ []) units (one_more front table before added.0 right added.1) (ap (tables_read tables) (sym added.4) ∙ is)
            ∙ ap (map unit_said) (append_assoc front (table ∷ []) tables)
      ]
    ]

pub units_ordered : (document : Members) (units : List UnitValue) → profile_units document ≡ Ok units
    → said_by units ≡ map unit_said (tables_of (items_at (codes "unit") document))
units_ordered document units is =
    let items = items_at (codes "unit") document in
    elim (cases_Bool (nat_lt 64 (item_count items))) [
      | inl many ↦ absurd (not_right many_units [] units (rw many at is))
      | inr few ↦ tables_ordered (tables_of items) [] [] units refl (sym (are_tables items (Ok [])) ∙ rw few at is)
    ]

-- ---- one is wrong

-- number and fault of a unit that is told, or others
abbrev told_or : ℕ × UnitWrongValue → Result (List UnitValue) WrongValue → ℕ × UnitWrongValue
told_or other (Err (in_unit number wrong)) = (number, wrong)
told_or other read = other

not_many : (number : ℕ) (wrong : UnitWrongValue) → ◌≡◌ {A = Result (List UnitValue) WrongValue} (Err many_units) (Err (in_unit number wrong)) → ⊥
not_many number wrong is = cc is

tables_wrong : (tables front : List Members) (before : List UnitValue) (number : ℕ) (wrong : UnitWrongValue) → said_by before ≡ map unit_said front → AreUnits before
    → tables_read tables (Ok before) ≡ Err (in_unit number wrong) → IsFirstWrong (front ++ tables) number wrong
tables_wrong [] front before number wrong right are is = absurd (cc is)
tables_wrong (table ∷ tables) front before number wrong right are is =
    elim (placed before (unit_said table)) [
      | inl many ↦ absurd (not_many number wrong (sym (tables_stop tables many_units) ∙ ap (tables_read tables) (sym many) ∙ is))
      | inr other ↦ elim other [
        | inl found ↦
            (let told = ap (told_or (number, wrong)) (sym (tables_stop tables _) ∙ ap (tables_read tables) (sym found.2) ∙ is) in
            record {
              before = before;
              front = front;
              table = table;
              rest = tables;
              in_order = refl;
              right = right;
              place = sym (ap (λ told. told.0) told);
              units = are;
              is = found.1 ∙ ap (λ (told : ℕ × UnitWrongValue). Some told.1) told;
            })
        | inr added ↦
            subst (λ tables. IsFirstWrong tables number wrong) (append_assoc front (table ∷ []) tables)
            (tables_wrong tables (front ++ table ∷ []) (before ++ added.0 ∷ []) number wrong (one_more front table before added.0 right added.1)
            (more_units table before added.0 are added.1 added.2 added.3) (ap (tables_read tables) (sym added.4) ∙ is))
      ]
    ]

pub first_wrong_unit_is_told : FirstWrongUnitIsTold
first_wrong_unit_is_told document number wrong is =
    let items = items_at (codes "unit") document in
    elim (cases_Bool (nat_lt 64 (item_count items))) [
      | inl many ↦ absurd (not_many number wrong (rw many at is))
      | inr few ↦ tables_wrong (tables_of items) [] [] number wrong refl (record { most = omega arith; each = tt; apart = tt }) (sym (are_tables items (Ok [])) ∙ rw few at is)
    ]
