-- What the rule of a message makes of it.
use Rattle.std.proofs.Common.{◌≡◌, ℕ, ◌+◌, ◌<◌, true, false, List, [], ◌∷◌, length, get_or, Option, Some, None, option_map, inl, inr, refl, ap, sym, ◌∙◌, subst, arith}
use Prim.Native.Nat.{suc}
use Rattle.std.specs.Prelude.{IfSome}
use Rattle.std.proofs.lemmas.Bool.{cases_Bool}
use Rattle.std.proofs.lemmas.Option.{none-some, same_Some}
use Rattle.uds_rules.specs.proving.Held.{unused}
use Rattle.uds_rules.specs.Rule.{RuleValue, speaks_of, made_by, made_of, mask_by, mask_of, masks, is_masked, rule_of}

-- a message without a rule stays as it is, and has no mask
pub none_made : (rules : List RuleValue) (message : List ℕ) → rule_of rules message ≡ None
    → (made_of rules message ≡ Some message) × (mask_of rules message ≡ None)
none_made [] message none = (refl, refl)
none_made (rule ∷ rules) message none =
    elim (cases_Bool (speaks_of rule message)) [
      | inl speaks ↦ absurd (none-some _ (sym (rw speaks at none)))
      | inr silent ↦ rw silent (none_made rules message (unmoved (rule_of rules message) (rw silent at none)))
    ] where
      unmoved : (place : Option ℕ) → option_map (λ (n : ℕ). n + 1) place ≡ None → place ≡ None
      unmoved None is = refl
      unmoved (Some n) is = absurd (none-some _ (sym is))

-- the rule of a message: it speaks of it, and what it makes is made of it
pub record IsRuleOf (rules : List RuleValue) (message : List ℕ) (rule : RuleValue) : Type 0 where
  pub speaks : speaks_of rule message ≡ true
  pub made : made_of rules message ≡ made_by rule.deed rule.prefix message
  pub masked : is_masked rules message ≡ masks rule.deed
  pub mask : mask_of rules message ≡ mask_by rule.deed rule.prefix

behind_one : (first : RuleValue) (rules : List RuleValue) (message : List ℕ) (rule : RuleValue) → speaks_of first message ≡ false → IsRuleOf rules message rule
    → IsRuleOf (first ∷ rules) message rule
behind_one first rules message rule silent is = record {
  speaks = is.speaks;
  made = rw silent is.made;
  masked = rw silent is.masked;
  mask = rw silent is.mask;
}

one_less : (found : Option ℕ) (place : ℕ) → option_map (λ (n : ℕ). n + 1) found ≡ Some place → (before : ℕ) × (found ≡ Some before) × (place ≡ suc before)
one_less None place is = absurd (none-some _ is)
one_less (Some before) place is = (let next : before + 1 ≡ place = same_Some (before + 1) place is in (before, refl, omega (arith, next)))

-- it stands at the place that is told
pub rule_there : (rules : List RuleValue) (message : List ℕ) (place : ℕ) (none : RuleValue) → rule_of rules message ≡ Some place
    → (place < length rules) × IsRuleOf rules message (get_or rules place none)
rule_there [] message place none is = absurd (none-some _ is)
rule_there (rule ∷ rules) message place none is =
    elim (cases_Bool (speaks_of rule message)) [
      | inl speaks ↦
          let first : 0 ≡ place = same_Some 0 place (rw speaks at is) in
          subst (λ n. (n < length (rule ∷ rules)) × IsRuleOf (rule ∷ rules) message (get_or (rule ∷ rules) n none)) first
          (omega arith, record { speaks = speaks; made = rw speaks refl; masked = rw speaks refl; mask = rw speaks refl })
      | inr silent ↦
          let past = one_less (rule_of rules message) place (rw silent at is) in
          let there = rule_there rules message past.0 none past.1 in
          let inside = there.0 in
          subst (λ n. (n < length (rule ∷ rules)) × IsRuleOf (rule ∷ rules) message (get_or (rule ∷ rules) n none)) (sym past.2)
          (omega (arith, inside), behind_one rule rules message (get_or rules past.0 none) silent there.1)
    ]

-- so within the rules
pub told_within : (rules : List RuleValue) (message : List ℕ) (found : Option ℕ) → found ≡ rule_of rules message → IfSome found (λ place. place < length rules)
told_within rules message None is = tt
told_within rules message (Some place) is = (rule_there rules message place unused (sym is)).0

-- and what lies there, by whatever list it is looked up, is the rule of the message
pub rule_found : (rules listed : List RuleValue) (message : List ℕ) (found : Option ℕ) (place : ℕ) (rule : RuleValue) → found ≡ rule_of rules message → found ≡ Some place
    → listed ≡ rules → rule ≡ get_or listed place rule → IsRuleOf rules message rule
rule_found rules listed message found place rule is told same lies =
    let there = (rule_there rules message place rule (sym is ∙ told)).1 in
    subst (IsRuleOf rules message) (sym (lies ∙ ap (λ (l : List RuleValue). get_or l place rule) same)) there
