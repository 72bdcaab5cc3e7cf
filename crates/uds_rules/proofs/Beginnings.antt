-- Messages that begin with the prefixes of rules.
use Rattle.std.proofs.Common.{◌≡◌, ℕ, ◌≤◌, ◌==◌, ◌&&◌, true, List, [], ◌∷◌, length, take, Option, inl, inr, refl, ap, sym, ◌∙◌, subst, arith}
use Rattle.std.proofs.lemmas.Bool.{and_parts, cases_Bool, eqb-true, false≢true}
use Rattle.std.specs.Prelude.{IfSome}
use Rattle.uds_rules.specs.declared.rule.Deed.{Deed}
use Rattle.uds_rules.specs.declared.rule.Deed.TheVariants as deed
use Rattle.uds_rules.specs.Mask.{MaskValue}
use Rattle.uds_rules.specs.Rule.{RuleValue, begins_with, speaks_of, mask_by, mask_of}

-- a message that begins with a prefix is as long, and has it in front
pub prefix_within : (prefix message : List ℕ) → begins_with prefix message ≡ true → length prefix ≤ length message
prefix_within [] message begins = omega arith
prefix_within (byte ∷ prefix) [] begins = absurd (false≢true begins)
prefix_within (byte ∷ prefix) (first ∷ message) begins =
    let rest = prefix_within prefix message (and_parts (byte == first) (begins_with prefix message) begins).1 in
    omega arith

pub prefix_in_front : (prefix message : List ℕ) → begins_with prefix message ≡ true → take (length prefix) message ≡ prefix
prefix_in_front [] message begins = refl
prefix_in_front (byte ∷ prefix) [] begins = absurd (false≢true begins)
prefix_in_front (byte ∷ prefix) (first ∷ message) begins =
    let parts = and_parts (byte == first) (begins_with prefix message) begins in
    ap (λ b. b ∷ take (length prefix) message) (sym (eqb-true byte first parts.0)) ∙ ap (λ l. byte ∷ l) (prefix_in_front prefix message parts.1)

-- so a mask begins within the messages that it is for
mask_within : (rules : List RuleValue) (message : List ℕ) → IfSome (mask_of rules message) (λ found. found.1 ≤ length message)
mask_within [] message = tt
mask_within (rule ∷ rules) message =
    elim (cases_Bool (speaks_of rule message)) [
      | inl speaks ↦ rw speaks (of_rule rule.deed (prefix_within rule.prefix message speaks))
      | inr silent ↦ rw silent (mask_within rules message)
    ] where
      of_rule : (this : Deed) → length rule.prefix ≤ length message → IfSome (mask_by this rule.prefix) (λ found. found.1 ≤ length message)
      of_rule deed.Drop within = tt
      of_rule (deed.Mask mask) within = within

pub found_within : (rules : List RuleValue) (message : List ℕ) (found : Option (MaskValue × ℕ)) → found ≡ mask_of rules message
    → IfSome found (λ found. found.1 ≤ length message)
found_within rules message found is = subst (λ found. IfSome found (λ found. found.1 ≤ length message)) (sym is) (mask_within rules message)
