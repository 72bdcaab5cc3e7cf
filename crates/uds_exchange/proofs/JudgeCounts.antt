-- What a judge keeps with one more message, and what it says of that, is what the messages say.
use Rattle.std.proofs.Common.{◌≡◌, ℕ, ◌+◌, ◌<◌, ◌^◌, List, [], ◌∷◌, ◌++◌, length, arith, refl, sym, ◌∙◌, ap, length-append, option_map}
use Rattle.direction.specs.Dir.{Message}
use Rattle.uds_message.specs.Message.{sid}
use Rattle.uds_exchange.specs.Meaning.{is_tester_request, meaning, removed_messages}
use Rattle.uds_exchange.specs.Order.{held, open_request}
use Rattle.uds_exchange.specs.OneMessage.{step_of}
use Rattle.uds_exchange.specs.proving.Steps.{open_sid_after_step, held_after_step}
use Rattle.uds_exchange.specs.Judging.{step_after, number_by, number_after, IsOpenSid, HasCounted}
use Rattle.uds_exchange.specs.declared.judge.Judge.{Judge}
use Rattle.uds_exchange.specs.Exchanged.{is_tester_response, is_unit_non_response, sides_of}
use Rattle.uds_exchange.specs.proving.ItemNumbers.{item_count_after_step}
use Rattle.uds_exchange.specs.proving.Judging.{judge_after_step, noted, number_in}
use Rattle.uds_exchange.specs.declared.sides.Sides.{Sides}
use Rattle.uds_exchange.specs.declared.step.Step.{Step}
use Rattle.uds_exchange.specs.declared.step.Step.TheVariants as step
use Rattle.uds_exchange.proofs.HeldOfMore.{open-sid-next, held-next}
use Rattle.uds_exchange.proofs.ItemCounts.{items_grow, items_within_messages, few-held, left-out-by, removed-next, few-removed}
use Rattle.uds_exchange.proofs.ListTests.{any-push}

-- what is gathered of one more message
sides-next : (M : List Message) (x : Message) → noted x (sides_of M) ≡ sides_of (M ++ x ∷ [])
sides-next M x = rw (any-push is_tester_request M x, any-push is_tester_response M x, any-push is_unit_non_response M x) refl

next-by : (s : Step) (M : List Message) (x : Message) (judge : Judge) (seen : Sides) → length M < 2 ^ 62 → HasCounted M judge
    → option_map sid (open_request (M ++ x ∷ [])) ≡ open_sid_after_step s (option_map sid (open_request M))
    → held (M ++ x ∷ []) ≡ held_after_step s (held M) x → length (meaning (M ++ x ∷ [])) ≡ item_count_after_step s (length (meaning M))
    → length (removed_messages (M ++ x ∷ [])) ≡ length (removed_messages M) + left-out-by s
    → HasCounted (M ++ x ∷ []) (judge_after_step s (record judge { sides = seen }))
next-by (step.Request service) M x judge seen few counts opened held_now grown gone =
    let few_items = items_within_messages M in let is = counts.items in record {
      is_open = sym opened;
      items = omega arith;
      held_count = ap length (sym held_now);
      removed = omega (arith, counts.removed, gone);
    }
next-by step.Answer M x judge seen few counts opened held_now grown gone =
    record {
      is_open = sym opened;
      items = counts.items ∙ sym grown;
      held_count = ap length (sym held_now);
      removed = omega (arith, counts.removed, gone);
    }
next-by step.Removed M x judge seen few counts opened held_now grown gone =
    let few_removed = few-removed M in let removed_were = counts.removed in record {
      is_open = counts.is_open ∙ sym opened;
      items = counts.items ∙ sym grown;
      held_count = counts.held_count ∙ ap length (sym held_now);
      removed = omega arith;
    }
next-by step.Hold M x judge seen few counts opened held_now grown gone =
    let few_items = items_within_messages M in let few_held = few-held M in let items_were = counts.items in let held_were = counts.held_count in
    let more = length-append (held M) (x ∷ []) in let now = ap length held_now in record {
      is_open = counts.is_open ∙ sym opened;
      items = omega arith;
      held_count = omega arith;
      removed = omega (arith, counts.removed, gone);
    }
next-by step.Pass M x judge seen few counts opened held_now grown gone =
    let few_items = items_within_messages M in let is = counts.items in record {
      is_open = counts.is_open ∙ sym opened;
      items = omega arith;
      held_count = counts.held_count ∙ ap length (sym held_now);
      removed = omega (arith, counts.removed, gone);
    }

-- what is kept is judge_after_step by one more message
pub counts-next : (M : List Message) (x : Message) (judge now : Judge) (s : Step) (seen : Sides) → length M < 2 ^ 62 → HasCounted M judge
    → s ≡ step_of judge.open_sid x → now ≡ judge_after_step s (record judge { sides = seen }) → HasCounted (M ++ x ∷ []) now
counts-next M x judge now s seen few counts s_is now_is =
    let found : s ≡ step_after M x = s_is ∙ ap (λ o. step_of o x) counts.is_open in
    rw (now_is, found) (next-by (step_after M x) M x judge seen few counts (open-sid-next M x) (held-next M x) (items_grow M x) (removed-next M x))

sides-kept : (s : Step) (judge : Judge) (seen : Sides) → (judge_after_step s (record judge { sides = seen })).sides ≡ seen
sides-kept (step.Request service) judge seen = refl
sides-kept step.Answer judge seen = refl
sides-kept step.Removed judge seen = refl
sides-kept step.Hold judge seen = refl
sides-kept step.Pass judge seen = refl

-- and so is what tells exchanged sides
pub sides-found : (M : List Message) (x : Message) (judge now : Judge) (s : Step) (seen : Sides) → judge.sides ≡ sides_of M
    → seen ≡ noted x judge.sides
    → now ≡ judge_after_step s (record judge { sides = seen }) → now.sides ≡ sides_of (M ++ x ∷ [])
sides-found M x judge now s seen were seen_is now_is =
    ap (λ (j : Judge). j.sides) now_is ∙ sides-kept s judge seen ∙ seen_is ∙ ap (noted x) were ∙ sides-next M x

number-by : (s : Step) (M : List Message) (judge : Judge) (seen : Sides) → length M < 2 ^ 62 → HasCounted M judge
    → number_in s (record judge { sides = seen }) ≡ number_by s M
number-by (step.Request service) M judge seen few counts = let few_items = items_within_messages M in let is = counts.items in omega arith
number-by step.Answer M judge seen few counts = let items_are = counts.items in let held_are = counts.held_count in omega arith
number-by step.Removed M judge seen few counts = let items_are = counts.items in let held_are = counts.held_count in omega arith
number-by step.Hold M judge seen few counts = let few_items = items_within_messages M in let is = counts.items in omega arith
number-by step.Pass M judge seen few counts = let few_items = items_within_messages M in let is = counts.items in omega arith

-- what becomes of it
pub step-found : (M : List Message) (x : Message) (judge : Judge) (s : Step) → IsOpenSid M judge.open_sid → s ≡ step_of judge.open_sid x
    → s ≡ step_after M x
step-found M x judge s waits s_is = s_is ∙ ap (λ o. step_of o x) waits

-- which request waits then
waits-by : (s : Step) (judge : Judge) (seen : Sides) → (judge_after_step s (record judge { sides = seen })).open_sid
    ≡ open_sid_after_step s judge.open_sid
waits-by (step.Request service) judge seen = refl
waits-by step.Answer judge seen = refl
waits-by step.Removed judge seen = refl
waits-by step.Hold judge seen = refl
waits-by step.Pass judge seen = refl

pub waits-found : (M : List Message) (x : Message) (judge now : Judge) (s : Step) (seen : Sides) → IsOpenSid M judge.open_sid
    → s ≡ step_of judge.open_sid x
    → now ≡ judge_after_step s (record judge { sides = seen }) → IsOpenSid (M ++ x ∷ []) now.open_sid
waits-found M x judge now s seen waits s_is now_is =
    let found = step-found M x judge s waits s_is in
    ap (λ (j : Judge). j.open_sid) now_is
    ∙ waits-by s judge seen
    ∙ (λ i. open_sid_after_step (found i) (waits i))
    ∙ sym (open-sid-next M x)

-- and the number of its item
pub number-found : (M : List Message) (x : Message) (judge : Judge) (s : Step) (seen : Sides) (number : ℕ) → length M < 2 ^ 62 → HasCounted M judge
    → s ≡ step_of judge.open_sid x → number ≡ number_in s (record judge { sides = seen }) → number ≡ number_after M x
number-found M x judge s seen number few counts s_is is =
    is ∙ number-by s M judge seen few counts ∙ ap (λ t. number_by t M) (step-found M x judge s counts.is_open s_is)
