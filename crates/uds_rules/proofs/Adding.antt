-- One rule more.
use Prim.Native.Nat.{zero, suc}
use Rattle.std.proofs.Common.{◌≡◌, ℕ, ◌+◌, ◌-◌, ◌<◌, ◌≤◌, ◌||◌, not, Bool, true, false, List, [], ◌∷◌, ◌++◌, length, take, drop, set, replicate, Option, Some, None, option_map, inl, inr, refl, ap, sym, ◌∙◌, subst, arith}
use Rattle.std.proofs.lemmas.Grind.{common_steps}
use Rattle.std.proofs.lemmas.Bool.{and_parts, cases_Bool}
use Rattle.std.proofs.lemmas.Option.{none-some}
use Rattle.std.proofs.lemmas.List.{drop-replicate}
use Rattle.std.specs.List.{AllByRecursion}
use Rattle.uds_rules.specs.Rule.{RuleValue, begins_with}
use Rattle.uds_rules.specs.Legal.{IsRule, AreApart, are_apart, is_apart_from, clash_in}
use Rattle.uds_rules.specs.proving.Held.{AreHeld, unused, noted_one, noted, first_places, held_count}

-- where none of some rules clashes with a prefix, all are apart from it
pub apart_without_clash : (rules : List RuleValue) (prefix : List ℕ) → clash_in rules prefix ≡ None → is_apart_from rules prefix ≡ true
apart_without_clash [] prefix none = refl
apart_without_clash (rule ∷ rules) prefix none =
    elim (cases_Bool (are_apart rule.prefix prefix)) [
      | inl apart ↦ rw apart (apart_without_clash rules prefix (unmoved (clash_in rules prefix) (rw apart at none)))
      | inr shared ↦ absurd (none-some _ (sym (rw shared at none)))
    ] where
      unmoved : (place : Option ℕ) → option_map (λ (n : ℕ). n + 1) place ≡ None → place ≡ None
      unmoved None is = refl
      unmoved (Some n) is = absurd (none-some _ (sym is))

-- two prefixes are apart whichever is named first
turned : (one other : List ℕ) → are_apart one other ≡ true → are_apart other one ≡ true
turned one other apart = ap not (swapped (begins_with other one) (begins_with one other)) ∙ apart where
  swapped : (a b : Bool) → (a || b) ≡ (b || a)
  swapped true true = refl
  swapped true false = refl
  swapped false true = refl
  swapped false false = refl

-- a rule behind others from which it is apart
apart_behind : (rules : List RuleValue) (rule : RuleValue) (prefix : List ℕ) → is_apart_from rules prefix ≡ true → are_apart rule.prefix prefix ≡ true
    → is_apart_from (rules ++ rule ∷ []) prefix ≡ true
apart_behind [] rule prefix all one = rw one refl
apart_behind (other ∷ rules) rule prefix all one =
    let parts = and_parts (are_apart other.prefix prefix) (is_apart_from rules prefix) all in
    rw (parts.0, apart_behind rules rule prefix parts.1 one) refl

pub all_apart : (rules : List RuleValue) (rule : RuleValue) → AreApart rules → is_apart_from rules rule.prefix ≡ true → AreApart (rules ++ rule ∷ [])
all_apart [] rule apart one = (refl, tt)
all_apart (other ∷ rules) rule apart one =
    let parts = and_parts (are_apart other.prefix rule.prefix) (is_apart_from rules rule.prefix) one in
    (apart_behind rules rule other.prefix apart.0 (turned other.prefix rule.prefix parts.0), all_apart rules rule apart.1 parts.1)

pub each_rule : (rules : List RuleValue) (rule : RuleValue) → AllByRecursion IsRule rules → IsRule rule → AllByRecursion IsRule (rules ++ rule ∷ [])
each_rule [] rule each one = (one, tt)
each_rule (other ∷ rules) rule each one = (each.0, each_rule rules rule each.1 one)

-- the rules of an array, with one more
pub added : (count : ℕ) (whole : List RuleValue) (rule : RuleValue) → count < length whole → take (count + 1) (set whole count rule) ≡ take count whole ++ rule ∷ []
added count whole rule below = grind (arith, common_steps)

one_less : (count : ℕ) (whole : List RuleValue) → drop (count + 1) whole ≡ drop 1 (drop count whole)
one_less zero whole = refl
one_less (suc count) [] = (let more : suc count + 1 ≡ suc (suc count) = omega arith in ap (λ n. drop n []) more)
one_less (suc count) (rule ∷ whole) = (let more : suc count + 1 ≡ suc (count + 1) = omega arith in ap (λ n. drop n (rule ∷ whole)) more ∙ one_less count whole)

-- one fewer stand behind them
fewer : (count : ℕ) (whole : List RuleValue) (rule : RuleValue) → count < 64 → drop count whole ≡ replicate (64 - count) unused
    → drop (count + 1) (set whole count rule) ≡ replicate (64 - (count + 1)) unused
fewer count whole rule few rest =
    let same : drop (count + 1) (set whole count rule) ≡ drop (count + 1) whole = grind (arith, common_steps) in
    let more : drop (count + 1) whole ≡ drop 1 (drop count whole) = one_less count whole in
    let less : (64 - count) - 1 ≡ 64 - (count + 1) = omega arith in
    same ∙ more ∙ ap (drop 1) rest ∙ drop-replicate 1 (64 - count) unused ∙ ap (λ n. replicate n unused) less

-- and the place of one more is noted
noted_behind : (table : List ℕ) (before : ℕ) (rules : List RuleValue) (rule : RuleValue)
    → noted table before (rules ++ rule ∷ []) ≡ noted_one (noted table before rules) ((before + length rules) + 1) rule
noted_behind table before [] rule = (let none : before + 1 ≡ (before + 0) + 1 = omega arith in ap (λ n. noted_one table n rule) none)
noted_behind table before (other ∷ rules) rule =
    let next : ((before + 1) + length rules) + 1 ≡ (before + suc (length rules)) + 1 = omega arith in
    noted_behind (noted_one table (before + 1) other) (before + 1) rules rule
    ∙ ap (λ n. noted_one (noted (noted_one table (before + 1) other) (before + 1) rules) n rule) next

all_noted : (rules : List RuleValue) (count : ℕ) (rule : RuleValue) → length rules ≡ count → first_places (rules ++ rule ∷ []) ≡ noted_one (first_places rules) (count + 1) rule
all_noted rules count rule long =
    let last : (0 + length rules) + 1 ≡ count + 1 = omega (arith, long) in
    noted_behind (replicate 256 0) 0 rules rule ∙ ap (λ n. noted_one (first_places rules) n rule) last

pub one_more_held : (count : ℕ) (whole : List RuleValue) (table : List ℕ) (rule : RuleValue) → AreHeld count whole table → count < 64 → IsRule rule
    → clash_in (take count whole) rule.prefix ≡ None → AreHeld (count + 1) (set whole count rule) (noted_one table (count + 1) rule)
one_more_held count whole table rule held few is none =
    let full = held.full in
    let more = added count whole rule (omega arith) in
    let apart = apart_without_clash (take count whole) rule.prefix none in
    record {
      most = omega arith;
      full = (let same : length (set whole count rule) ≡ length whole = grind (arith, common_steps) in same ∙ full);
      rest = fewer count whole rule few held.rest;
      places =
          ap (λ table. noted_one table (count + 1) rule) held.places
          ∙ sym (all_noted (take count whole) count rule (held_count count whole table held))
          ∙ ap first_places (sym more);
      rules = record {
        most = (let long : length (take (count + 1) (set whole count rule)) ≤ count + 1 = grind (arith, common_steps) in omega arith);
        each = subst (λ rules. AllByRecursion IsRule rules) (sym more) (each_rule (take count whole) rule held.rules.each is);
        apart = subst (λ rules. AreApart rules) (sym more) (all_apart (take count whole) rule held.rules.apart apart);
      };
    }
