-- The first two rules that speak of one message.
use Rattle.std.proofs.Common.{◌≡◌, ℕ, ◌+◌, ◌<◌, ◌⊎◌, true, false, List, [], ◌∷◌, ◌++◌, length, map, codes, nat_le, nat_lt, leb-false, Option, Some, None, Result, Ok, Err, inl, inr, refl, ap, sym, ◌∙◌, subst, append_assoc}
use Rattle.std.specs.Prelude.{is_some}
use Rattle.std.specs.Result.{result_ok}
use Rattle.std.proofs.lemmas.Bool.{and_parts, cases_Bool}
use Rattle.std.proofs.lemmas.Option.{none-some, same_Some}
use Rattle.toml.specs.Data.{Items, no_items, item, Members, as_str}
use Rattle.uds_rules.specs.Answers.{CanAdd}
use Rattle.uds_rules.specs.Legal.{IsRule, AreRules, clash_in}
use Rattle.uds_rules.specs.Rule.{RuleValue}
use Rattle.uds_rules.specs.declared.rule.RuleFault.{RuleFault}
use Rattle.uds_rules.proofs.Promises.{none_are_rules, added_are_rules}
use Rattle.profile.specs.Keys.{rule_in, bad_item, first_bad, are_strings}
use Rattle.profile.specs.Laws.{spelled_in, each_spelled, all_spelled, IsFirstClash, FirstClashIsTold}
use Rattle.profile.specs.ProfileRules.{rule_behind, item_behind, items_behind, items_at, item_count, unless_shared}
use Rattle.profile.specs.Wrong.{WrongValue, many_rules, shared}
use Rattle.profile.specs.declared.wrong.RuleKey.{RuleKey}
use Rattle.profile.specs.declared.wrong.RuleKey.TheVariants as rule_key
use Rattle.profile.proofs.Behind.{stops}
use Rattle.profile.proofs.RightKeys.{both_none}
use Rattle.profile.proofs.OrderedRules.{spelled_is, one_spelled, some_behind, items_spelled, items_legal, rules_at}

-- the places of two rules that are told, or others
abbrev places_or : ℕ × ℕ → Result (List RuleValue) WrongValue → ℕ × ℕ
places_or other (Err (shared earlier later)) = (earlier, later)
places_or other read = other

-- what a text spells is a rule
read_legal : (key : RuleKey) (text : List ℕ) (read : Result RuleValue RuleFault) (rule : RuleValue) → rule_in key text ≡ read → result_ok read ≡ Some rule → IsRule rule
read_legal key text (Ok one) rule of_text is = subst IsRule (same_Some _ _ is) (spelled_is key text one of_text)
read_legal key text (Err fault) rule of_text is = absurd (none-some _ is)

spelled_legal : (key : RuleKey) (text : Option (List ℕ)) (rule : RuleValue) → spelled_in key text ≡ Some rule → IsRule rule
spelled_legal key None rule is = absurd (none-some _ is)
spelled_legal key (Some text) rule is = read_legal key text (rule_in key text) rule refl is

not_many : (first later : ℕ) → ◌≡◌ {A = Result (List RuleValue) WrongValue} (Err many_rules) (Err (shared first later)) → ⊥
not_many first later is = cc is

-- a rule behind earlier ones: there are 64, or it speaks of a message of one of them, or it is added
abbrev IsPlaced : List RuleValue → RuleValue → Type 0
IsPlaced earlier rule =
    (rule_behind earlier rule ≡ Err many_rules)
    ⊎ (((place : ℕ) × (clash_in earlier rule.prefix ≡ Some place) × (rule_behind earlier rule ≡ Err (shared place (length earlier))))
    ⊎ (CanAdd earlier rule × (rule_behind earlier rule ≡ Ok (earlier ++ rule ∷ []))))

few_placed : (earlier : List RuleValue) (rule : RuleValue) (clash : Option ℕ) → clash_in earlier rule.prefix ≡ clash → nat_le 64 (length earlier) ≡ false → IsPlaced earlier rule
few_placed earlier rule None apart few =
    inr (inr (record { few = leb-false 64 (length earlier) few; apart = apart }, rw (few, apart) refl))
few_placed earlier rule (Some place) shares few = inr (inl (place, shares, rw (few, shares) refl))

placed : (earlier : List RuleValue) (rule : RuleValue) → IsPlaced earlier rule
placed earlier rule =
    elim (cases_Bool (nat_le 64 (length earlier))) [
      | inl many ↦ inl (rw many refl)
      | inr few ↦ few_placed earlier rule (clash_in earlier rule.prefix) refl few
    ]

-- the rules of an array behind earlier ones
items_clash : (key : RuleKey) (items : Items) (earlier : List RuleValue) (first later : ℕ) → AreRules earlier → are_strings items ≡ true → first_bad key items ≡ None
    → items_behind key items (Ok earlier) ≡ Err (shared first later) → IsFirstClash (map Some earlier ++ each_spelled key items) first later
items_clash key no_items earlier first later are strings each is = absurd (cc is)
items_clash key (item element rest) earlier first later are strings each is =
    let texts = and_parts (is_some (as_str element)) (are_strings rest) strings in
    let right = both_none (bad_item key (as_str element)) (first_bad key rest) each in
    let spelled = one_spelled key (as_str element) earlier texts.0 right.0 in
    let rule = spelled.0 in
    let told : items_behind key rest (rule_behind earlier rule) ≡ Err (shared first later) = ap (items_behind key rest) (sym spelled.2) ∙ is in
    let listed : map Some earlier ++ Some rule ∷ each_spelled key rest ≡ map Some earlier ++ each_spelled key (item element rest) =
    ap (λ one. map Some earlier ++ one ∷ each_spelled key rest) (sym spelled.1) in
    subst (λ listed. IsFirstClash listed first later) listed
    (elim (placed earlier rule) [
      | inl many ↦ absurd (not_many first later (sym (stops key rest many_rules) ∙ ap (items_behind key rest) (sym many) ∙ told))
      | inr other ↦ elim other [
        | inl clash ↦
            (let places = ap (places_or (0, 0)) (sym (stops key rest _) ∙ ap (items_behind key rest) (sym clash.2) ∙ told) in
            record {
              before = earlier;
              rule = rule;
              behind = each_spelled key rest;
              in_order = refl;
              place = ap (λ places. places.1) places;
              apart = are;
              first = clash.1 ∙ ap (λ (places : ℕ × ℕ). Some places.0) places;
            })
        | inr can ↦
            subst (λ listed. IsFirstClash listed first later) (some_behind earlier rule (each_spelled key rest))
            (items_clash key rest (earlier ++ rule ∷ []) first later (added_are_rules earlier rule are (spelled_legal key (as_str element) rule spelled.1) can.0) texts.1 right.1
            (ap (items_behind key rest) (sym can.1) ∙ told))
      ]
    ])

-- more rules behind
more_behind : (spelled more : List (Option RuleValue)) (first later : ℕ) → IsFirstClash spelled first later → IsFirstClash (spelled ++ more) first later
more_behind spelled more first later is = record {
  before = is.before;
  rule = is.rule;
  behind = is.behind ++ more;
  in_order = ap (λ l. l ++ more) is.in_order ∙ append_assoc (map Some is.before) (Some is.rule ∷ is.behind) more;
  place = is.place;
  apart = is.apart;
  first = is.first;
}

-- masks behind drops
both_clash : (document : Members) (drops masks : Items) (first later : ℕ) (read : Result (List RuleValue) WrongValue)
    → are_strings drops ≡ true → first_bad rule_key.Drop drops ≡ None → are_strings masks ≡ true → first_bad rule_key.Mask masks ≡ None
    → items_behind rule_key.Drop drops (Ok []) ≡ read → items_behind rule_key.Mask masks read ≡ Err (shared first later)
    → IsFirstClash (each_spelled rule_key.Drop drops ++ each_spelled rule_key.Mask masks) first later
both_clash document drops masks first later (Ok rules) texts right more_texts more_right of_drops is =
    subst (λ listed. IsFirstClash (listed ++ each_spelled rule_key.Mask masks) first later) (items_spelled rule_key.Drop drops [] rules texts right of_drops)
    (items_clash rule_key.Mask masks rules first later (items_legal rule_key.Drop drops [] rules none_are_rules of_drops) more_texts more_right is)
both_clash document drops masks first later (Err wrong) texts right more_texts more_right of_drops is =
    more_behind (each_spelled rule_key.Drop drops) (each_spelled rule_key.Mask masks) first later
    (items_clash rule_key.Drop drops [] first later none_are_rules texts right (of_drops ∙ sym (stops rule_key.Mask masks wrong) ∙ is))

pub first_clash_is_told : FirstClashIsTold
first_clash_is_told document first later none is =
    let drops = rules_at rule_key.Drop (codes "drop") document (λ value. refl) none in
    let masks = rules_at rule_key.Mask (codes "mask") document (λ value. refl) none in
    elim (cases_Bool (nat_lt 64 (item_count (items_at (codes "drop") document) + item_count (items_at (codes "mask") document)))) [
      | inl many ↦ absurd (not_many first later (rw many at is))
      | inr few ↦ both_clash document (items_at (codes "drop") document) (items_at (codes "mask") document) first later _
          drops.strings drops.each masks.strings masks.each refl (rw few at is)
    ]
