-- What stands at a key of a table in which no key is wrong.
use Rattle.std.proofs.Common.{◌≡◌, ℕ, List, Option, Some, None, refl, ap, sym, ◌∙◌, subst}
use Rattle.std.specs.Prelude.{⊤}
use Rattle.std.specs.Cmp.Lexicographic.{slice_cmp}
use Rattle.std.specs.Option.{option_or}
use Rattle.std.specs.Ordering.{nat_cmp, is_eq, match_ordering}
use Rattle.std.specs.declared.cmp.Ordering.{Ordering}
use Rattle.std.specs.declared.cmp.Ordering.TheVariants.{Less, Equal, Greater}
use Rattle.std.proofs.lemmas.Option.{none-some, same_Some}
use Rattle.std.proofs.lemmas.Map.Text.{is_eq-slice_cmp}
use Rattle.std.proofs.lemmas.Slice.Eq.{bytes_eq-Decides}
use Rattle.toml.specs.Data.{Data, Members, no_members, member, get_member}
use Rattle.profile.specs.Keys.{wrong_key, wrong_keys}
use Rattle.profile.specs.UnitKeys.{wrong_unit_key, wrong_unit_keys}

-- what holds of each key and its value
abbrev AllMembers : (List ℕ → Data → Type 0) → Members → Type 0
AllMembers P no_members = ⊤
AllMembers P (member key value rest) = P key value × AllMembers P rest

in_order : (P : List ℕ → Data → Type 0) (key other : List ℕ) (first value : Data) (behind : Option Data) (order : Ordering)
    → slice_cmp nat_cmp key other ≡ order → P other first → (behind ≡ Some value → P key value)
    → match_ordering order behind (Some first) behind ≡ Some value → P key value
in_order P key other first value behind Less same here later is = later is
in_order P key other first value behind Equal same here later is =
    let keys : key ≡ other = (bytes_eq-Decides key other).0 (sym (is_eq-slice_cmp key other) ∙ ap is_eq same) in
    subst (λ value. P key value) (same_Some _ _ is) (subst (λ key. P key first) (sym keys) here)
in_order P key other first value behind Greater same here later is = later is

-- holds of the value that is found at a key
at_key : (P : List ℕ → Data → Type 0) (key : List ℕ) (table : Members) (value : Data) → AllMembers P table
    → get_member key table ≡ Some value → P key value
at_key P key no_members value all is = absurd (none-some _ is)
at_key P key (member other first rest) value all is =
    in_order P key other first value (get_member key rest) (slice_cmp nat_cmp key other) refl all.0 (at_key P key rest value all.1) is

pub both_none : {A : Type 0} (a b : Option A) → option_or a b ≡ None → (a ≡ None) × (b ≡ None)
both_none None b is = (refl, is)
both_none (Some x) b is = absurd (none-some _ (sym is))

right_keys : (document : Members) → wrong_keys document ≡ None → AllMembers (λ key value. wrong_key key value ≡ None) document
right_keys no_members is = tt
right_keys (member key value rest) is =
    let parts = both_none (wrong_key key value) (wrong_keys rest) is in
    (parts.0, right_keys rest parts.1)

right_unit_keys : (table : Members) → wrong_unit_keys table ≡ None → AllMembers (λ key value. wrong_unit_key key value ≡ None) table
right_unit_keys no_members is = tt
right_unit_keys (member key value rest) is =
    let parts = both_none (wrong_unit_key key value) (wrong_unit_keys rest) is in
    (parts.0, right_unit_keys rest parts.1)

-- so nothing is wrong with what is found
pub right_key : (key : List ℕ) (document : Members) (value : Data) → wrong_keys document ≡ None → get_member key document ≡ Some value
    → wrong_key key value ≡ None
right_key key document value none is = at_key (λ key value. wrong_key key value ≡ None) key document value (right_keys document none) is

pub right_unit_key : (key : List ℕ) (table : Members) (value : Data) → wrong_unit_keys table ≡ None → get_member key table ≡ Some value
    → wrong_unit_key key value ≡ None
right_unit_key key table value none is = at_key (λ key value. wrong_unit_key key value ≡ None) key table value (right_unit_keys table none) is
