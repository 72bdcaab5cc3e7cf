-- The counts of rules, with one message more.
use Prim.Native.Nat.{zero, suc}
use Rattle.std.proofs.Common.{◌≡◌, ◌≤◌, true, false, ℕ, ◌+◌, List, [], ◌∷◌, ◌++◌, length, take, drop, get_or, set}
use Rattle.std.proofs.Common.{replicate, Option, Some, None, option_map, inl, inr, arith, refl, ap, sym, ◌∙◌}
use Rattle.std.proofs.lemmas.Bool.{and_parts, cases_Bool, false≢true}
use Rattle.std.proofs.lemmas.Grind.{common_steps}
use Rattle.uds_exchange.specs.Judging.{one_more}
use Rattle.uds_rules.specs.Legal.{AreApart, are_apart, is_apart_from}
use Rattle.uds_rules.specs.Rule.{RuleValue, begins_with, is_spoken_of, rule_of, speaks_of}
use Rattle.uds_rules.proofs.Promises.{apart_shares_no_message, both_false}
use Rattle.trace_run.specs.Spoken.{spoken_counts}
use Rattle.trace_run.specs.proving.Speaking.{counts_more}

-- of no message no rule speaks
pub none_spoken : (rules : List RuleValue) → replicate (length rules) 0 ≡ spoken_counts rules []
none_spoken [] = refl
none_spoken (rule ∷ rules) = ap (λ counts. 0 ∷ counts) (none_spoken rules)

-- counts that are written back are all counts
long_more : (rules : List RuleValue) (message counts : List ℕ) → length (counts_more rules message counts) ≡ length counts
long_more [] message counts = refl
long_more (rule ∷ rules) message [] = refl
long_more (rule ∷ rules) message (count ∷ counts) = ap suc (long_more rules message counts)

pub refilled : (rules : List RuleValue) (message counts new : List ℕ) → new ≡ counts_more rules message counts
    → take (length counts) (new ++ drop (length new) counts) ≡ counts_more rules message counts
refilled rules message counts new is =
    let long : length new ≡ length counts = ap (λ (l : List ℕ). length l) is ∙ long_more rules message counts in
    let whole : take (length counts) (new ++ drop (length new) counts) ≡ new = grind (arith, common_steps) in
    whole ∙ is

-- no count grows of a message that no rule speaks of
pub unspoken_counts : (rules : List RuleValue) (message counts : List ℕ) → is_spoken_of rules message ≡ false
    → counts ≡ counts_more rules message counts
unspoken_counts [] message counts off = refl
unspoken_counts (rule ∷ rules) message [] off = refl
unspoken_counts (rule ∷ rules) message (count ∷ counts) off =
    let parts = both_false (speaks_of rule message) (is_spoken_of rules message) off in
    rw parts.0 (ap (λ l. count ∷ l) (unspoken_counts rules message counts parts.1))

-- a rule that is apart from others, and speaks of a message, is the only one
others_silent : (rules : List RuleValue) (prefix message : List ℕ) → is_apart_from rules prefix ≡ true
    → begins_with prefix message ≡ true → is_spoken_of rules message ≡ false
others_silent [] prefix message apart begins = refl
others_silent (other ∷ rules) prefix message apart begins =
    let parts = and_parts (are_apart other.prefix prefix) (is_apart_from rules prefix) apart in
    elim (cases_Bool (speaks_of other message)) [
      | inl speaks ↦ absurd (false≢true (sym (apart_shares_no_message other.prefix prefix message parts.0 speaks) ∙ begins))
      | inr silent ↦ rw silent (others_silent rules prefix message parts.1 begins)
    ]

-- one more at the place of the rule of a message, if it has one
abbrev pub counted_at : Option ℕ → List ℕ → List ℕ
counted_at None counts = counts
counted_at (Some place) counts = set counts place (one_more (get_or counts place 0))

-- so that is what counts of a message
pub counted_there : (rules : List RuleValue) → AreApart rules → (message counts : List ℕ)
    → counted_at (rule_of rules message) counts ≡ counts_more rules message counts
counted_there [] apart message counts = refl
counted_there (rule ∷ rules) apart message [] = no_counts (rule_of (rule ∷ rules) message) where
  no_counts : (found : Option ℕ) → counted_at found [] ≡ []
  no_counts None = refl
  no_counts (Some place) = refl
counted_there (rule ∷ rules) apart message (count ∷ counts) =
    elim (cases_Bool (speaks_of rule message)) [
      | inl speaks ↦ rw speaks (ap (λ l. one_more count ∷ l) (unspoken_counts rules message counts (others_silent rules rule.prefix message apart.0 speaks)))
      | inr silent ↦ rw silent (one_further (rule_of rules message) ∙ ap (λ l. count ∷ l) (counted_there rules apart.1 message counts))
    ] where
      one_further : (found : Option ℕ) → counted_at (option_map (λ place. place + 1) found) (count ∷ counts) ≡ count ∷ counted_at found counts
      one_further None = refl
      one_further (Some place) =
          let next : place + 1 ≡ suc place = omega arith in
          ap (λ n. set (count ∷ counts) n (one_more (get_or (count ∷ counts) n 0))) next

-- nothing counts at a place behind the counts
pub none_there : (counts : List ℕ) (place : ℕ) → length counts ≤ place → counts ≡ counted_at (Some place) counts
none_there [] place past = refl
none_there (count ∷ counts) zero past = absurd (omega (arith, past))
none_there (count ∷ counts) (suc place) past = ap (λ l. count ∷ l) (none_there counts place (omega (arith, past)))
