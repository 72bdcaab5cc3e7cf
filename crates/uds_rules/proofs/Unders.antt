-- Lists of messages under rules.
use Rattle.std.proofs.Common.{◌≡◌, ℕ, ◌+◌, true, false, List, [], ◌∷◌, ◌++◌, length, drop, Option, Some, None, inl, inr, refl, ap, sym, ◌∙◌, subst, arith, if◌then◌else◌}
use Rattle.std.specs.Prelude.{nat_eq, is_none}
use Rattle.std.specs.List.{list_all}
use Rattle.std.specs.Cmp.Lexicographic.{pointwise, same_text}
use Rattle.std.proofs.lemmas.Grind.{flat_map-append}
use Rattle.std.proofs.lemmas.Bool.{and_parts, eq-eqb, cases_Bool, false≢true}
use Rattle.std.proofs.lemmas.Option.{none-some, same_Some}
use Rattle.std.proofs.lemmas.List.{length-append}
use Rattle.std.proofs.Math.Seq.{drop-append_seam}
use Rattle.direction.specs.Dir.{Message}
use Rattle.direction.specs.declared.Dir.{Dir}
use Rattle.uds_rules.specs.Mask.{masked}
use Rattle.uds_rules.specs.declared.rule.Deed.{Deed}
use Rattle.uds_rules.specs.declared.rule.Deed.TheVariants as deed
use Rattle.uds_rules.specs.Rule.{RuleValue, begins_with, speaks_of, made_by, made_of}
use Rattle.uds_rules.specs.Legal.{AreApart, is_apart_from, are_apart}
use Rattle.uds_rules.specs.Under.{sent_as, under_one, under}
use Rattle.uds_rules.specs.Laws.{UnderGoesOn, LeftOutGoesOn, LeftOutAreTheRest, NoRulesKeepAll, UnderTwice, WhatIsLeftStays, WhatStaysIsLeft, stays, is_made_of}
use Rattle.uds_rules.proofs.Masks.{masked_twice}
use Rattle.uds_rules.proofs.Apart.{apart_shares_no_message}

pub under_goes_on : UnderGoesOn
under_goes_on rules M N = flat_map-append (under_one rules) M N

pub left_out_goes_on : LeftOutGoesOn
left_out_goes_on rules [] N = omega arith
left_out_goes_on rules (message ∷ later) N = let rest = left_out_goes_on rules later N in omega arith

-- one message, of which this was made
left_or_out : (d : Dir) (made : Option (List ℕ)) → length (sent_as d made) + (if is_none made then 1 else 0) ≡ 1
left_or_out d None = refl
left_or_out d (Some shown) = refl

pub left_out_are_the_rest : LeftOutAreTheRest
left_out_are_the_rest rules [] = refl
left_out_are_the_rest rules (message ∷ later) =
    let one = left_or_out message.0 (made_of rules message.1) in
    let all = length-append (under_one rules message) (under rules later) in
    let rest = left_out_are_the_rest rules later in
    omega arith

pub no_rules_keep_all : NoRulesKeepAll
no_rules_keep_all [] = refl
no_rules_keep_all (message ∷ later) = ap (λ l. message ∷ l) (no_rules_keep_all later)

-- what has a prefix in front begins with it
in_front : (prefix bytes : List ℕ) → begins_with prefix (prefix ++ bytes) ≡ true
in_front [] bytes = refl
in_front (byte ∷ prefix) bytes = rw (eq-eqb byte byte refl) (in_front prefix bytes)

-- what is made of a message begins with the rule's prefix, and is made of it again
made_again : (this : Deed) (prefix message shown : List ℕ) → made_by this prefix message ≡ Some shown
    → (begins_with prefix shown ≡ true) × (made_by this prefix shown ≡ Some shown)
made_again deed.Drop prefix message shown is = absurd (none-some _ is)
made_again (deed.Mask mask) prefix message shown is =
    let behind : List ℕ = drop (length prefix) message in
    let again : made_by (deed.Mask mask) prefix (prefix ++ masked mask behind) ≡ Some (prefix ++ masked mask behind) =
    ap (λ bytes. Some (prefix ++ masked mask bytes)) (drop-append_seam prefix (masked mask behind)) ∙ ap (λ bytes. Some (prefix ++ bytes)) (masked_twice mask behind) in
    subst (λ shown. (begins_with prefix shown ≡ true) × (made_by (deed.Mask mask) prefix shown ≡ Some shown)) (same_Some _ _ is)
    (in_front prefix (masked mask behind), again)

-- rules that are apart from a prefix make nothing that begins with it of what doesn't
not_begun : (rules : List RuleValue) (prefix message shown : List ℕ) → is_apart_from rules prefix ≡ true → begins_with prefix message ≡ false
    → made_of rules message ≡ Some shown → begins_with prefix shown ≡ false
not_begun [] prefix message shown apart off is = subst (λ shown. begins_with prefix shown ≡ false) (same_Some _ _ is) off
not_begun (rule ∷ rules) prefix message shown apart off is =
    let parts = and_parts (are_apart rule.prefix prefix) (is_apart_from rules prefix) apart in
    elim (cases_Bool (speaks_of rule message)) [
      | inl speaks ↦
          (let again = made_again rule.deed rule.prefix message shown (rw speaks at is) in
          apart_shares_no_message rule.prefix prefix shown parts.0 again.0)
      | inr silent ↦ not_begun rules prefix message shown parts.1 off (rw silent at is)
    ]

-- so what rules make of a message is made of it again
made_twice : (rules : List RuleValue) (message shown : List ℕ) → AreApart rules → made_of rules message ≡ Some shown → made_of rules shown ≡ Some shown
made_twice [] message shown apart is = refl
made_twice (rule ∷ rules) message shown apart is =
    elim (cases_Bool (speaks_of rule message)) [
      | inl speaks ↦
          (let again = made_again rule.deed rule.prefix message shown (rw speaks at is) in
          rw again.0 again.1)
      | inr silent ↦
          (let past : made_of rules message ≡ Some shown = rw silent at is in
          rw (not_begun rules rule.prefix message shown apart.0 silent past) (made_twice rules message shown apart.1 past))
    ]

text_is_same : (bytes : List ℕ) → pointwise nat_eq bytes bytes ≡ true
text_is_same [] = refl
text_is_same (byte ∷ bytes) = rw (eq-eqb byte byte refl, text_is_same bytes) refl

-- one message, of which this was made, in front of others that stay
one_stays : (rules : List RuleValue) (d : Dir) (message : List ℕ) (made : Option (List ℕ)) (rest : List Message) → AreApart rules → made_of rules message ≡ made
    → list_all (stays rules) rest ≡ true → list_all (stays rules) (sent_as d made ++ rest) ≡ true
one_stays rules d message None rest apart is all = all
one_stays rules d message (Some shown) rest apart is all = rw (made_twice rules message shown apart is, text_is_same shown, all) refl

pub what_is_left_stays : WhatIsLeftStays
what_is_left_stays rules apart [] = refl
what_is_left_stays rules apart (message ∷ later) =
    one_stays rules message.0 message.1 (made_of rules message.1) (under rules later) apart refl (what_is_left_stays rules apart later)

made_as : (made : Option (List ℕ)) (message : List ℕ) → is_made_of made message ≡ true → made ≡ Some message
made_as None message is = absurd (false≢true is)
made_as (Some shown) message is = ap Some (same_text shown message (sym is))

pub what_stays_is_left : WhatStaysIsLeft
what_stays_is_left rules [] all = refl
what_stays_is_left rules (message ∷ later) all =
    let parts = and_parts (stays rules message) (list_all (stays rules) later) all in
    rw (made_as (made_of rules message.1) message.1 parts.0) (ap (λ l. message ∷ l) (what_stays_is_left rules later parts.1))

pub under_twice : UnderTwice
under_twice rules apart M = what_stays_is_left rules (under rules M) (what_is_left_stays rules apart M)
