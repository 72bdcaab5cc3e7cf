-- The rules of a profile: legal ones, in order.
use Rattle.std.proofs.Common.{◌≡◌, ℕ, ◌+◌, ◌<◌, ◌&&◌, Bool, true, false, List, [], ◌∷◌, ◌++◌, length, map, codes, nat_le, nat_lt, leb-false, Option, Some, None, Result, Ok, Err, inl, inr, refl, ap, sym, ◌∙◌, subst, append-nil, append_assoc}
use Rattle.std.specs.Prelude.{option_and_then, is_some}
use Rattle.std.proofs.lemmas.Bool.{and_parts, cases_Bool, false≢true}
use Rattle.std.proofs.lemmas.Option.{none-some}
use Rattle.toml.specs.Data.{Data, Items, no_items, item, Members, as_str, as_array, get_member}
use Rattle.uds_rules.specs.Answers.{CanAdd}
use Rattle.uds_rules.specs.Legal.{IsRule, AreRules, clash_in}
use Rattle.uds_rules.specs.Rule.{RuleValue}
use Rattle.uds_rules.specs.declared.rule.RuleFault.{RuleFault}
use Rattle.uds_rules.proofs.Promises.{spelled_drop_is_rule, spelled_mask_is_rule, none_are_rules, added_are_rules}
use Rattle.profile.specs.Keys.{rule_in, fault_of, bad_item, first_bad, are_strings, wrong_rules, wrong_key, wrong_keys}
use Rattle.profile.specs.ProfileRules.{unless_shared, rule_behind, spelled_behind, item_behind, items_behind, items_or_none, items_at, item_count, profile_rules}
use Rattle.profile.specs.Wrong.{WrongValue}
use Rattle.profile.specs.Laws.{spelled_in, each_spelled}
use Rattle.profile.specs.declared.wrong.RuleKey.{RuleKey}
use Rattle.profile.specs.declared.wrong.RuleKey.TheVariants as rule_key
use Rattle.profile.proofs.Behind.{stops}
use Rattle.profile.proofs.RightKeys.{both_none, right_key}

-- the rules that are read, or others
abbrev read_or : List RuleValue → Result (List RuleValue) WrongValue → List RuleValue
read_or other (Ok rules) = rules
read_or other (Err wrong) = other

not_read : (wrong : WrongValue) (rules : List RuleValue) → Err wrong ≡ Ok rules → ⊥
not_read wrong rules is = cc is

-- ---- one rule behind others

pub can_be_added : (earlier : List RuleValue) (rule : RuleValue) (rules : List RuleValue) (clash : Option ℕ) → clash_in earlier rule.prefix ≡ clash
    → length earlier < 64 → unless_shared clash earlier rule ≡ Ok rules → CanAdd earlier rule × (rules ≡ earlier ++ rule ∷ [])
can_be_added earlier rule rules None apart few is = (record { few = few; apart = apart }, sym (ap (read_or rules) is))
can_be_added earlier rule rules (Some place) apart few is = absurd (not_read _ rules is)

pub rule_added : (earlier : List RuleValue) (rule : RuleValue) (rules : List RuleValue) → rule_behind earlier rule ≡ Ok rules
    → CanAdd earlier rule × (rules ≡ earlier ++ rule ∷ [])
rule_added earlier rule rules is =
    elim (cases_Bool (nat_le 64 (length earlier))) [
      | inl many ↦ absurd (not_read _ rules (rw many at is))
      | inr few ↦ can_be_added earlier rule rules (clash_in earlier rule.prefix) refl (leb-false 64 (length earlier) few) (rw few at is)
    ]

-- where all of an array is read, what stands before it was
read_before : (key : RuleKey) (rest : Items) (before : Result (List RuleValue) WrongValue) (rules : List RuleValue) → items_behind key rest before ≡ Ok rules
    → (earlier : List RuleValue) × (before ≡ Ok earlier)
read_before key rest (Ok earlier) rules is = (earlier, refl)
read_before key rest (Err wrong) rules is = absurd (not_read wrong rules (sym (stops key rest wrong) ∙ is))

-- ---- legal ones

pub spelled_is : (key : RuleKey) (text : List ℕ) (rule : RuleValue) → rule_in key text ≡ Ok rule → IsRule rule
spelled_is rule_key.Drop text rule is = spelled_drop_is_rule text rule is
spelled_is rule_key.Mask text rule is = spelled_mask_is_rule text rule is

one_legal : (key : RuleKey) (text : List ℕ) (earlier rules : List RuleValue) (read : Result RuleValue RuleFault) → AreRules earlier → rule_in key text ≡ read
    → spelled_behind (Ok earlier) read ≡ Ok rules → AreRules rules
one_legal key text earlier rules (Err fault) are of_text is = subst AreRules (ap (read_or rules) is) are
one_legal key text earlier rules (Ok rule) are of_text is =
    let added = rule_added earlier rule rules is in
    subst AreRules (sym added.1) (added_are_rules earlier rule are (spelled_is key text rule of_text) added.0)

item_legal : (key : RuleKey) (text : Option (List ℕ)) (earlier rules : List RuleValue) → AreRules earlier → item_behind key text (Ok earlier) ≡ Ok rules → AreRules rules
item_legal key None earlier rules are is = subst AreRules (ap (read_or rules) is) are
item_legal key (Some text) earlier rules are is = one_legal key text earlier rules (rule_in key text) are refl is

pub items_legal : (key : RuleKey) (items : Items) (earlier rules : List RuleValue) → AreRules earlier → items_behind key items (Ok earlier) ≡ Ok rules → AreRules rules
items_legal key no_items earlier rules are is = subst AreRules (ap (read_or rules) is) are
items_legal key (item element rest) earlier rules are is =
    let one = read_before key rest (item_behind key (as_str element) (Ok earlier)) rules is in
    items_legal key rest one.0 rules (item_legal key (as_str element) earlier one.0 are one.1) (ap (items_behind key rest) (sym one.1) ∙ is)

-- ---- in order

-- texts, each of which spells a rule
pub record AreRight (key : RuleKey) (items : Items) : Type 0 where
  pub strings : are_strings items ≡ true
  pub each : first_bad key items ≡ None

text_spelled : (key : RuleKey) (text : List ℕ) (earlier : List RuleValue) (read : Result RuleValue RuleFault) → rule_in key text ≡ read → fault_of key text read ≡ None
    → (rule : RuleValue) × (spelled_in key (Some text) ≡ Some rule) × (item_behind key (Some text) (Ok earlier) ≡ rule_behind earlier rule)
text_spelled key text earlier (Ok rule) of_text right = (rule, rw of_text refl, rw of_text refl)
text_spelled key text earlier (Err fault) of_text right = absurd (none-some _ (sym right))

pub one_spelled : (key : RuleKey) (text : Option (List ℕ)) (earlier : List RuleValue) → is_some text ≡ true → bad_item key text ≡ None
    → (rule : RuleValue) × (spelled_in key text ≡ Some rule) × (item_behind key text (Ok earlier) ≡ rule_behind earlier rule)
one_spelled key None earlier some right = absurd (false≢true some)
one_spelled key (Some text) earlier some right = text_spelled key text earlier (rule_in key text) refl right

pub some_behind : (earlier : List RuleValue) (rule : RuleValue) (rest : List (Option RuleValue)) → map Some (earlier ++ rule ∷ []) ++ rest ≡ map Some earlier ++ Some rule ∷ rest
some_behind [] rule rest = refl
some_behind (one ∷ earlier) rule rest = ap (λ l. Some one ∷ l) (some_behind earlier rule rest)

pub items_spelled : (key : RuleKey) (items : Items) (earlier rules : List RuleValue) → are_strings items ≡ true → first_bad key items ≡ None
    → items_behind key items (Ok earlier) ≡ Ok rules → map Some rules ≡ map Some earlier ++ each_spelled key items
items_spelled key no_items earlier rules strings each is = ap (map Some) (sym (ap (read_or rules) is)) ∙ sym (append-nil (map Some earlier))
items_spelled key (item element rest) earlier rules strings each is =
    let texts = and_parts (is_some (as_str element)) (are_strings rest) strings in
    let right = both_none (bad_item key (as_str element)) (first_bad key rest) each in
    let spelled = one_spelled key (as_str element) earlier texts.0 right.0 in
    let read = read_before key rest (item_behind key (as_str element) (Ok earlier)) rules is in
    let added = rule_added earlier spelled.0 read.0 (sym spelled.2 ∙ read.1) in
    items_spelled key rest read.0 rules texts.1 right.1 (ap (items_behind key rest) (sym read.1) ∙ is)
    ∙ ap (λ more. map Some more ++ each_spelled key rest) added.1
    ∙ some_behind earlier spelled.0 (each_spelled key rest)
    ∙ ap (λ one. map Some earlier ++ one ∷ each_spelled key rest) (sym spelled.1)

right_rules : (key : RuleKey) (array : Option Items) → wrong_rules key array ≡ None → AreRight key (items_or_none array)
right_rules key None is = absurd (none-some _ (sym is))
right_rules key (Some items) is =
    elim (cases_Bool (are_strings items)) [
      | inl strings ↦ record { strings = strings; each = rw strings at is }
      | inr other ↦ absurd (none-some _ (sym (rw other at is)))
    ]

-- what stands at a key of rules
pub rules_at : (key : RuleKey) (name : List ℕ) (document : Members) → ((value : Data) → wrong_key name value ≡ wrong_rules key (as_array value))
    → wrong_keys document ≡ None → AreRight key (items_at name document)
rules_at key name document named none = by_value (get_member name document) refl where
  by_value : (found : Option Data) → get_member name document ≡ found → AreRight key (items_or_none (option_and_then as_array found))
  by_value None is = record { strings = refl; each = refl }
  by_value (Some value) is = right_rules key (as_array value) (sym (named value) ∙ right_key name document value none is)

-- ---- the rules of a profile

-- they are drops, and then masks
both_read : (document : Members) (rules : List RuleValue) → profile_rules document ≡ Ok rules
    → (drops : List RuleValue) × (items_behind rule_key.Drop (items_at (codes "drop") document) (Ok []) ≡ Ok drops)
    × (items_behind rule_key.Mask (items_at (codes "mask") document) (Ok drops) ≡ Ok rules)
both_read document rules is =
    elim (cases_Bool (nat_lt 64 (item_count (items_at (codes "drop") document) + item_count (items_at (codes "mask") document)))) [
      | inl many ↦ absurd (not_read _ rules (rw many at is))
      | inr few ↦
          (let masks = items_at (codes "mask") document in
          let whole : items_behind rule_key.Mask masks (items_behind rule_key.Drop (items_at (codes "drop") document) (Ok [])) ≡ Ok rules = rw few at is in
          let drops = read_before rule_key.Mask masks (items_behind rule_key.Drop (items_at (codes "drop") document) (Ok [])) rules whole in
          (drops.0, drops.1, ap (items_behind rule_key.Mask masks) (sym drops.1) ∙ whole))
    ]

pub rules_legal : (document : Members) (rules : List RuleValue) → profile_rules document ≡ Ok rules → AreRules rules
rules_legal document rules is =
    let read = both_read document rules is in
    items_legal rule_key.Mask (items_at (codes "mask") document) read.0 rules
    (items_legal rule_key.Drop (items_at (codes "drop") document) [] read.0 none_are_rules read.1) read.2

pub rules_ordered : (document : Members) (rules : List RuleValue) → wrong_keys document ≡ None → profile_rules document ≡ Ok rules
    → map Some rules ≡ each_spelled rule_key.Drop (items_at (codes "drop") document) ++ each_spelled rule_key.Mask (items_at (codes "mask") document)
rules_ordered document rules none is =
    let read = both_read document rules is in
    let drops = rules_at rule_key.Drop (codes "drop") document (λ value. refl) none in
    let masks = rules_at rule_key.Mask (codes "mask") document (λ value. refl) none in
    items_spelled rule_key.Mask (items_at (codes "mask") document) read.0 rules masks.strings masks.each read.2
    ∙ ap (λ front. front ++ each_spelled rule_key.Mask (items_at (codes "mask") document))
    (items_spelled rule_key.Drop (items_at (codes "drop") document) [] read.0 drops.strings drops.each read.1)
