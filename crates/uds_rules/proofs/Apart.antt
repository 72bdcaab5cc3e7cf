-- Prefixes that no message has both.
use Rattle.std.proofs.Common.{◌≡◌, ℕ, ◌==◌, ◌||◌, true, false, List, [], ◌∷◌, Option, inl, inr, refl, sym, ◌∙◌, subst}
use Rattle.std.specs.List.{AllByRecursion}
use Rattle.std.proofs.lemmas.Bool.{and_parts, eqb-true, eq-eqb, cases_Bool, false≢true}
use Rattle.uds_rules.specs.Rule.{RuleValue, begins_with, speaks_of, made_by, made_of}
use Rattle.uds_rules.specs.Legal.{are_apart, is_apart_from}
use Rattle.uds_rules.specs.Laws.{ApartSharesNoMessage, ClashSharesMessage, RuleSpeaksAlone}

-- of two beginnings of a message one begins with the other
comparable : (one other message : List ℕ) → begins_with one message ≡ true → begins_with other message ≡ true
    → (begins_with one other || begins_with other one) ≡ true
comparable [] other message of_one of_other = refl
comparable (byte ∷ one) [] message of_one of_other = refl
comparable (byte ∷ one) (head ∷ other) [] of_one of_other = absurd (false≢true of_one)
comparable (byte ∷ one) (head ∷ other) (first ∷ message) of_one of_other =
    let left = and_parts (byte == first) (begins_with one message) of_one in
    let right = and_parts (head == first) (begins_with other message) of_other in
    let same : byte ≡ head = eqb-true byte first left.0 ∙ sym (eqb-true head first right.0) in
    rw (eq-eqb byte head same, eq-eqb head byte (sym same)) (comparable one other message left.1 right.1)

pub apart_shares_no_message : ApartSharesNoMessage
apart_shares_no_message one other message apart of_one =
    elim (cases_Bool (begins_with other message)) [
      | inl of_other ↦ absurd (false≢true (rw (comparable one other message of_one of_other) at apart))
      | inr none ↦ none
    ]

-- a prefix begins with itself
of_itself : (prefix : List ℕ) → begins_with prefix prefix ≡ true
of_itself [] = refl
of_itself (byte ∷ prefix) = rw (eq-eqb byte byte refl) (of_itself prefix)

pub clash_shares_message : ClashSharesMessage
clash_shares_message one other clash =
    elim (cases_Bool (begins_with one other)) [
      | inl e ↦ (other, e, of_itself other)
      | inr none ↦
          elim (cases_Bool (begins_with other one)) [
            | inl e ↦ (one, of_itself one, e)
            | inr neither ↦ absurd (false≢true (sym (rw (none, neither) at clash)))
          ]
    ]

-- a rule that is not the one which speaks of the message
not_spoken : (rules : List RuleValue) (prefix message : List ℕ) → is_apart_from rules prefix ≡ true → begins_with prefix message ≡ true
    → AllByRecursion (λ rule. speaks_of rule message ≡ false) rules
not_spoken [] prefix message apart begins = tt
not_spoken (rule ∷ rules) prefix message apart begins =
    let parts = and_parts (are_apart rule.prefix prefix) (is_apart_from rules prefix) apart in
    (other_way rule.prefix prefix message parts.0 begins, not_spoken rules prefix message parts.1 begins) where
      other_way : (one other message : List ℕ) → are_apart one other ≡ true → begins_with other message ≡ true → begins_with one message ≡ false
      other_way one other message apart begins =
          elim (cases_Bool (begins_with one message)) [
            | inl of_one ↦ absurd (false≢true (sym (apart_shares_no_message one other message apart of_one) ∙ begins))
            | inr none ↦ none
          ]

-- each rule that speaks of a message makes what this makes of it
abbrev SpeaksAs : Option (List ℕ) → List ℕ → List RuleValue → Type 0
SpeaksAs made message rules = AllByRecursion (λ rule. speaks_of rule message ≡ true → made ≡ made_by rule.deed rule.prefix message) rules

none_speaks : (made : Option (List ℕ)) (message : List ℕ) (rules : List RuleValue) → AllByRecursion (λ rule. speaks_of rule message ≡ false) rules → SpeaksAs made message rules
none_speaks made message [] none = tt
none_speaks made message (rule ∷ rules) none = (λ speaks. absurd (false≢true (sym none.0 ∙ speaks)), none_speaks made message rules none.1)

pub rule_speaks_alone : RuleSpeaksAlone
rule_speaks_alone [] apart message = tt
rule_speaks_alone (rule ∷ rules) apart message =
    elim (cases_Bool (speaks_of rule message)) [
      | inl speaks ↦ (λ again. rw speaks refl, none_speaks (made_of (rule ∷ rules) message) message rules (not_spoken rules rule.prefix message apart.0 speaks))
      | inr silent ↦ (
        λ speaks. absurd (false≢true (sym silent ∙ speaks)),
        let past : made_of rules message ≡ made_of (rule ∷ rules) message = rw silent refl in
            subst (λ made. SpeaksAs made message rules) past (rule_speaks_alone rules apart.1 message),
      )
    ]
