-- Rules and units behind one another.
use Prim.Native.Nat.{zero, suc}
use Rattle.std.proofs.Common.{◌≡◌, ℕ, ◌≤◌, List, [], ◌∷◌, length, Option, Some, None, Err, refl, ap, ◌∙◌, arith}
use Rattle.toml.specs.Data.{Items, no_items, item, Members, as_str, as_table, get_item}
use Rattle.toml.specs.View.{items_view}
use Rattle.toml.specs.declared.value.Value.{Value}
use Rattle.profile.specs.Wrong.{WrongValue}
use Rattle.profile.specs.ProfileRules.{item_behind, items_behind, item_count}
use Rattle.profile.specs.Units.{table_behind, units_behind}
use Rattle.profile.specs.declared.wrong.RuleKey.{RuleKey}

-- no element stands behind the values
pub none_behind : (values : List Value) (place : ℕ) → length values ≤ place → get_item place (items_view values) ≡ None
none_behind [] place behind = refl
none_behind (value ∷ values) zero behind = absurd (omega arith)
none_behind (value ∷ values) (suc place) behind = none_behind values place (omega arith)

-- behind what is wrong nothing is read
item_stops : (key : RuleKey) (text : Option (List ℕ)) (wrong : WrongValue) → item_behind key text (Err wrong) ≡ Err wrong
item_stops key None wrong = refl
item_stops key (Some text) wrong = refl

pub stops : (key : RuleKey) (items : Items) (wrong : WrongValue) → items_behind key items (Err wrong) ≡ Err wrong
stops key no_items wrong = refl
stops key (item element rest) wrong = ap (items_behind key rest) (item_stops key (as_str element) wrong) ∙ stops key rest wrong

-- as many elements are counted as there are values
pub count_is : (values : List Value) → item_count (items_view values) ≡ length values
count_is [] = refl
count_is (value ∷ values) = (let rest = count_is values in omega (arith, rest))

table_stops : (table : Option Members) (wrong : WrongValue) → table_behind table (Err wrong) ≡ Err wrong
table_stops None wrong = refl
table_stops (Some table) wrong = refl

pub units_stop : (items : Items) (wrong : WrongValue) → units_behind items (Err wrong) ≡ Err wrong
units_stop no_items wrong = refl
units_stop (item element rest) wrong = ap (units_behind rest) (table_stops (as_table element) wrong) ∙ units_stop rest wrong
