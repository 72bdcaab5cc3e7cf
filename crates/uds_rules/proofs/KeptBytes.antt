-- Bytes that no mask changes.
use Rattle.std.proofs.Common.{◌≡◌, ℕ, ◌==◌, ◌||◌, not, Bool, true, false, List, [], ◌∷◌, ◌++◌, length, take, drop, slice_get, Some, inl, inr, refl, ap, sym, ◌∙◌, if◌then◌else◌}
use Rattle.std.specs.List.{AllByRecursion}
use Rattle.std.proofs.lemmas.Bool.{and_parts, cases_Bool, eqb-true, false≢true}
use Rattle.std.proofs.lemmas.Option.{none-some, same_Some}
use Rattle.std.proofs.lemmas.List.{take-append-drop}
use Rattle.uds_message.specs.Message.{sid}
use Rattle.uds_message.specs.Tables.{has_sub_function}
use Rattle.uds_rules.specs.declared.rule.Deed.{Deed}
use Rattle.uds_rules.specs.declared.rule.Deed.TheVariants as deed
use Rattle.uds_rules.specs.Mask.{MaskValue, masked_bytes, masked}
use Rattle.uds_rules.specs.Rule.{RuleValue, begins_with, speaks_of, made_by, made_of}
use Rattle.uds_rules.specs.Legal.{IsRule, IsDeed, IsMask, is_maskable, keeps_first}
use Rattle.uds_rules.specs.KeptLaws.{SubFunctionStays, NegativeResponseStays, TesterPresentStays}
use Rattle.uds_rules.proofs.Beginnings.{prefix_in_front}

-- ---- the byte behind the first

-- the first byte behind a prefix, which is kept
first_kept : (first : ℕ) (places : List Bool) (cuts : Bool) (rest : List ℕ) → keeps_first places cuts ≡ true
    → slice_get (first ∷ masked_bytes places (if cuts then take (length places) rest else rest)) 1 ≡ slice_get (first ∷ rest) 1
first_kept first [] true rest keeps = absurd (false≢true keeps)
first_kept first [] false rest keeps = refl
first_kept first (true ∷ places) cuts rest keeps = absurd (false≢true keeps)
first_kept first (false ∷ places) true [] keeps = refl
first_kept first (false ∷ places) true (second ∷ rest) keeps = refl
first_kept first (false ∷ places) false [] keeps = refl
first_kept first (false ∷ places) false (second ∷ rest) keeps = refl

masked_second : (prefix : List ℕ) (mask : MaskValue) (rest : List ℕ) → IsMask prefix mask → has_sub_function (sid (prefix ++ rest)) ≡ true
    → slice_get (prefix ++ masked mask rest) 1 ≡ slice_get (prefix ++ rest) 1
masked_second [] mask rest is has = absurd (false≢true is.messages)
masked_second (first ∷ []) mask rest is has = first_kept first mask.places mask.cuts rest (rw has at is.sub_function)
masked_second (first ∷ second ∷ prefix) mask rest is has = refl

made_second : (this : Deed) (prefix message shown : List ℕ) → IsDeed prefix this → begins_with prefix message ≡ true → made_by this prefix message ≡ Some shown
    → has_sub_function (sid message) ≡ true → slice_get shown 1 ≡ slice_get message 1
made_second deed.Drop prefix message shown may begins is has = absurd (none-some _ is)
made_second (deed.Mask mask) prefix message shown may begins is has =
    let behind : List ℕ = drop (length prefix) message in
    let whole : prefix ++ behind ≡ message =
    ap (λ front. front ++ behind) (sym (prefix_in_front prefix message begins)) ∙ take-append-drop (length prefix) message in
    let second = masked_second prefix mask behind may (ap (λ message. has_sub_function (sid message)) whole ∙ has) in
    ap (λ shown. slice_get shown 1) (sym (same_Some _ _ is)) ∙ second ∙ ap (λ message. slice_get message 1) whole

second_stays : (rules : List RuleValue) (message shown : List ℕ) → AllByRecursion IsRule rules → made_of rules message ≡ Some shown
    → has_sub_function (sid message) ≡ true → slice_get shown 1 ≡ slice_get message 1
second_stays [] message shown each is has = ap (λ shown. slice_get shown 1) (sym (same_Some _ _ is))
second_stays (rule ∷ rules) message shown each is has =
    elim (cases_Bool (speaks_of rule message)) [
      | inl speaks ↦ made_second rule.deed rule.prefix message shown each.0.deed speaks (rw speaks at is) has
      | inr silent ↦ second_stays rules message shown each.1 (rw silent at is) has
    ]

pub sub_function_stays : SubFunctionStays
sub_function_stays rules are message shown is has = second_stays rules message shown are.each is has

-- ---- messages that are not masked

-- a mask speaks of no message of which later bytes tell what it is
not_masked : (prefix message : List ℕ) → is_maskable prefix ≡ true → begins_with prefix message ≡ true → is_maskable message ≡ false → ⊥
not_masked [] message may begins is = false≢true may
not_masked (byte ∷ prefix) [] may begins is = false≢true begins
not_masked (byte ∷ prefix) (first ∷ message) may begins is =
    let same : byte ≡ first = eqb-true byte first (and_parts (byte == first) (begins_with prefix message) begins).0 in
    false≢true (sym is ∙ ap (λ byte. is_maskable (byte ∷ message)) (sym same) ∙ may)

made_whole : (this : Deed) (prefix message shown : List ℕ) → IsDeed prefix this → begins_with prefix message ≡ true → made_by this prefix message ≡ Some shown
    → is_maskable message ≡ false → shown ≡ message
made_whole deed.Drop prefix message shown may begins is whole = absurd (none-some _ is)
made_whole (deed.Mask mask) prefix message shown may begins is whole = absurd (not_masked prefix message may.messages begins whole)

whole_stays : (rules : List RuleValue) (message shown : List ℕ) → AllByRecursion IsRule rules → made_of rules message ≡ Some shown
    → is_maskable message ≡ false → shown ≡ message
whole_stays [] message shown each is whole = sym (same_Some _ _ is)
whole_stays (rule ∷ rules) message shown each is whole =
    elim (cases_Bool (speaks_of rule message)) [
      | inl speaks ↦ made_whole rule.deed rule.prefix message shown each.0.deed speaks (rw speaks at is) whole
      | inr silent ↦ whole_stays rules message shown each.1 (rw silent at is) whole
    ]

-- its first byte is 3E or 7F
by_first : (message : List ℕ) → (sid message == 0x3E || sid message == 0x7F) ≡ true → is_maskable message ≡ false
by_first [] is = refl
by_first (first ∷ message) is = ap not is

or_right : (a b : Bool) → b ≡ true → (a || b) ≡ true
or_right true b is = refl
or_right false b is = is

pub negative_response_stays : NegativeResponseStays
negative_response_stays rules are message shown is negative =
    whole_stays rules message shown are.each is (by_first message (or_right (sid message == 0x3E) _ negative))

pub tester_present_stays : TesterPresentStays
tester_present_stays rules are message shown is alive =
    whole_stays rules message shown are.each is (by_first message (rw alive refl))
