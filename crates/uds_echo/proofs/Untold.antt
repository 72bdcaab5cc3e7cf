-- Which answers are never told.
use Prim.Native.Nat.{zero, suc}
use Rattle.std.proofs.Common.{◌≡◌, ℕ, ◌+◌, ◌-◌, ◌*◌, ◌/◌, ◌<◌, ◌≤◌, Bool, true, false, List, [], ◌∷◌, length, Option, Some, None, refl, ap, sym, subst, ◌∙◌, arith, ◌⊎◌, inl, inr}
use Rattle.std.specs.Prelude.{◌==◌, ◌&&◌, ◌||◌, not, nat_lt, slice_get, if◌then◌else◌}
use Rattle.std.specs.List.{list_all, list_any}
use Rattle.std.specs.Option.{option_map_or}
use Rattle.std.proofs.Math.Nat.{eq-or-lt_of_le}
use Rattle.std.proofs.Math.Bool.{and-false}
use Rattle.std.proofs.lemmas.Bool.{and_parts}
use Rattle.std.proofs.lemmas.Bool.Decides.{nat_tests}
use Rattle.uds_message.specs.Message.{service_answered, sid}
use Rattle.uds_message.specs.Tables.{Service, has_sub_function, service_row_in, services}
use Rattle.uds_rules.specs.Mask.{MaskValue}
use Rattle.uds_rules.specs.Rule.{mask_of}
use Rattle.uds_echo.specs.Left.{compared_at, differ, is_masked_at, number_of, seen_at}
use Rattle.uds_echo.specs.Repeated.{count_of_service, is_longer, repeated_count, repeats_byte, repeats_identifier}
use Rattle.uds_echo.specs.Echo.{answers_other, asked_count, differ_at, differ_within, is_none_of, is_other_than, repeats_others}
use Rattle.uds_echo.specs.Laws.{AskedIsNotTold, MaskedIsNotTold, NegativeIsNotTold, NoOtherServiceIsTold, RepeatedIsNotTold, echo_services}

-- ---- two bytes

equal_itself : (n : ℕ) → not (n == n) ≡ false
equal_itself n = grind (arith, nat_tests)

same : (one other : Option ℕ) → one ≡ other → differ one other ≡ false
same one other is = subst (λ known. differ one known ≡ false) is (itself one)
  where
    itself : (one : Option ℕ) → differ one one ≡ false
    itself None = refl
    itself (Some byte) = equal_itself byte

differ-none : (one : Option ℕ) → differ one None ≡ false
differ-none None = refl
differ-none (Some one) = refl

-- bytes that do not differ do not where one is masked
differ-masked : (masked masked' : Bool) (one other : Option ℕ) → differ one other ≡ false
    → differ (if masked then None else one) (if masked' then None else other) ≡ false
differ-masked true masked' one other alike = refl
differ-masked false true one other alike = differ-none one
differ-masked false false one other alike = alike

-- of a masked byte nothing is compared, and of another what is compared where none is masked
compared-masked : (has_sub : Bool) (bytes : List ℕ) (found : Option (MaskValue × ℕ)) (place : ℕ)
    → compared_at has_sub bytes found place ≡ (if is_masked_at found place then None else compared_at has_sub bytes None place)
compared-masked has_sub bytes found place = by_tests (place == 1 && has_sub) (is_masked_at found place) (slice_get bytes place)
  where
    by_tests : (test masked : Bool) (byte : Option ℕ)
        → (if test then number_of (if masked then None else byte) else (if masked then None else byte))
        ≡ (if masked then None else (if test then number_of byte else byte))
    by_tests true true byte = refl
    by_tests true false byte = refl
    by_tests false true byte = refl
    by_tests false false byte = refl

-- ---- choices

neither : (one other : Bool) → one ≡ false → other ≡ false → (one || other) ≡ false
neither one other is is' = rw (is, is') refl

it_is : (one other : ℕ) → (one == other) ≡ true → one ≡ other
it_is one other test = grind (arith, nat_tests)

chosen : {X : Type 0} (test : Bool) (one other : X) → test ≡ true → (if test then one else other) ≡ one
chosen test one other is = rw is refl

chosen_else : {X : Type 0} (test : Bool) (one other : X) → test ≡ false → (if test then one else other) ≡ other
chosen_else test one other is = rw is refl

-- a masked byte differs from none
differ-hidden : (one : Option ℕ) (masked : Bool) (other : Option ℕ) → masked ≡ true → differ one (if masked then None else other) ≡ false
differ-hidden one masked other is = rw is (differ-none one)

-- ---- places

module _ (request : List ℕ) (asked : Option (MaskValue × ℕ)) (answer : List ℕ) (told : Option (MaskValue × ℕ)) where
  none_within : (count : ℕ) → ((place : ℕ) → 1 ≤ place → place ≤ count → differ_at (has_sub_function (sid request)) request asked answer told place ≡ false)
      → differ_within (has_sub_function (sid request)) request asked answer told count ≡ false
  unfolding differ_within
  none_within zero none = refl
  none_within (suc count) none =
      rw (none_within count (λ place from to. none place from (omega (arith, to))), none (count + 1) (omega arith) (omega arith)) refl

  one_of : (count before : ℕ) → before < count → is_other_than request asked answer told before ≡ false
      → is_none_of request asked answer told count ≡ false
  unfolding is_none_of
  one_of zero before within alike = absurd (omega (arith, within))
  one_of (suc count) before within alike = by_place (eq-or-lt_of_le (omega (arith, within))) (λ earlier. one_of count before earlier alike)
    where
      by_place : (before ≡ count) ⊎ (before < count) → (before < count → is_none_of request asked answer told count ≡ false)
          → (is_none_of request asked answer told count && is_other_than request asked answer told count) ≡ false
      by_place (inl last) further =
          ap (λ b. is_none_of request asked answer told count && b) (ap (is_other_than request asked answer told) (sym last) ∙ alike)
          ∙ and-false (is_none_of request asked answer told count)
      by_place (inr earlier) further = ap (λ b. b && is_other_than request asked answer told count) (further earlier)

  -- what is answered is not other than what was asked where both bytes are the same
  no_other : (before : ℕ) → slice_get request (2 * before + 1) ≡ slice_get answer 1 → slice_get request (2 * before + 2) ≡ slice_get answer 2
      → is_other_than request asked answer told before ≡ false
  no_other before high low =
      neither _ _ (differ-masked (is_masked_at asked (2 * before + 1)) (is_masked_at told 1) (slice_get request (2 * before + 1)) (slice_get answer 1) (same _ _ high))
      (differ-masked (is_masked_at asked (2 * before + 2)) (is_masked_at told 2) (slice_get request (2 * before + 2)) (slice_get answer 2) (same _ _ low))

  -- the same where both bytes are masked
  no_other-masked : (before : ℕ) → is_masked_at told 1 ≡ true → is_masked_at told 2 ≡ true → is_other_than request asked answer told before ≡ false
  no_other-masked before high low =
      neither _ _ (differ-hidden (seen_at request asked (2 * before + 1)) (is_masked_at told 1) (slice_get answer 1) high)
      (differ-hidden (seen_at request asked (2 * before + 2)) (is_masked_at told 2) (slice_get answer 2) low)

  -- of ReadDataByIdentifier nothing is told where it answers one of the identifiers
  untold_identifier : sid request ≡ 0x22 → is_none_of request asked answer told (asked_count request) ≡ false
      → repeats_others request asked answer told ≡ false
  untold_identifier is alike = chosen (sid request == 0x22) _ _ (rw is refl) ∙ alike

  -- nothing is told where no place that is repeated differs
  untold : ((place : ℕ) → 1 ≤ place → place ≤ repeated_count request answer → differ_at (has_sub_function (sid request)) request asked answer told place ≡ false)
      → (sid request ≡ 0x22 → is_none_of request asked answer told (asked_count request) ≡ false)
      → repeats_others request asked answer told ≡ false
  untold differs other = by_service (sid request == 0x22) refl
    where
      by_service : (test : Bool) → (sid request == 0x22) ≡ test → repeats_others request asked answer told ≡ false
      by_service true is = untold_identifier (it_is (sid request) 0x22 is) (other (it_is (sid request) 0x22 is))
      by_service false is = chosen_else (sid request == 0x22) _ _ is ∙ none_within (repeated_count request answer) differs

-- ReadDataByIdentifier repeats the two bytes of a data identifier
count_of_identifiers : (request answer : List ℕ) → sid request ≡ 0x22 → repeated_count request answer ≡ 2
count_of_identifiers request answer is = rw is refl

two : (request answer : List ℕ) → sid request ≡ 0x22 → (place : ℕ) → place ≤ 2 → place ≤ repeated_count request answer
two request answer is place to = rw (count_of_identifiers request answer is) to

-- of two identifiers or more the first one is asked for
asks_once : (request answer : List ℕ) → sid request ≡ 0x22 → is_longer (repeated_count request answer) request ≡ true → 0 < asked_count request
asks_once request answer is long = enough (rw (count_of_identifiers request answer is) at long)
  where
    enough : nat_lt 2 (length request) ≡ true → 0 < (length request - 1) / 2
    enough test = grind (arith, nat_tests)

-- nothing is told unless all that is repeated is there
told_only : (service both other : Bool) → (both ≡ true → other ≡ false) → (service && (both && other)) ≡ false
told_only false both other alike = refl
told_only true false other alike = refl
told_only true true other alike = alike refl

front : (one other : Bool) → (one && other) ≡ true → one ≡ true
front true other both = refl
front false other both = both

pub repeated_is_not_told : RepeatedIsNotTold
unfolding answers_other
repeated_is_not_told rules request answer repeats =
    told_only _ _ _ (λ long. untold request asked answer told differs (λ is.
    one_of request asked answer told (asked_count request) 0 (asks_once request answer is (front _ _ long))
    (no_other request asked answer told 0 (byte is 1 (omega arith) (omega arith)) (byte is 2 (omega arith) (omega arith)))))
  where
    asked : Option (MaskValue × ℕ)
    asked = mask_of rules request

    told : Option (MaskValue × ℕ)
    told = mask_of rules answer

    differs : (place : ℕ) → 1 ≤ place → place ≤ repeated_count request answer → differ_at (has_sub_function (sid request)) request asked answer told place ≡ false
    differs place from to =
        rw (compared-masked (has_sub_function (sid request)) request asked place, compared-masked (has_sub_function (sid request)) answer told place)
        (differ-masked (is_masked_at asked place) (is_masked_at told place) _ _ (same _ _ (repeats place from to)))

    no_sub : sid request ≡ 0x22 → has_sub_function (sid request) ≡ false
    no_sub is = rw is refl

    plain : (bytes : List ℕ) (place : ℕ) → slice_get bytes place ≡ compared_at false bytes None place
    plain bytes place = sym (chosen_else (place == 1 && false) _ _ (and-false (place == 1)))

    repeats_plain : sid request ≡ 0x22 → (place : ℕ)
        → compared_at (has_sub_function (sid request)) request None place ≡ compared_at (has_sub_function (sid request)) answer None place
        → compared_at false request None place ≡ compared_at false answer None place
    repeats_plain is place both = rw (no_sub is) at both

    byte : sid request ≡ 0x22 → (place : ℕ) → 1 ≤ place → place ≤ 2 → slice_get request place ≡ slice_get answer place
    byte is place from to =
        plain request place ∙ repeats_plain is place (repeats place from (two request answer is place to)) ∙ sym (plain answer place)

pub asked_is_not_told : AskedIsNotTold
unfolding answers_other
asked_is_not_told rules request answer before is within high low =
    told_only _ _ _ (λ long. untold_identifier request asked answer told is
    (one_of request asked answer told (asked_count request) before within (no_other request asked answer told before high low)))
  where
    asked : Option (MaskValue × ℕ)
    asked = mask_of rules request

    told : Option (MaskValue × ℕ)
    told = mask_of rules answer

pub masked_is_not_told : MaskedIsNotTold
unfolding answers_other
masked_is_not_told rules request answer masked =
    told_only _ _ _ (λ long. untold request asked answer told differs (λ is.
    one_of request asked answer told (asked_count request) 0 (asks_once request answer is (front _ _ long))
    (no_other-masked request asked answer told 0 (hidden is 1 (omega arith) (omega arith)) (hidden is 2 (omega arith) (omega arith)))))
  where
    asked : Option (MaskValue × ℕ)
    asked = mask_of rules request

    told : Option (MaskValue × ℕ)
    told = mask_of rules answer

    differs : (place : ℕ) → 1 ≤ place → place ≤ repeated_count request answer → differ_at (has_sub_function (sid request)) request asked answer told place ≡ false
    differs place from to =
        rw (compared-masked (has_sub_function (sid request)) answer told place, masked place from to)
        (differ-none (compared_at (has_sub_function (sid request)) request asked place))

    hidden : sid request ≡ 0x22 → (place : ℕ) → 1 ≤ place → place ≤ 2 → is_masked_at told place ≡ true
    hidden is place from to = masked place from (two request answer is place to)

-- ---- other services

-- a service that is not among these is none of them
not_in : (service known : ℕ) → list_any (λ other. service == other) echo_services ≡ false
    → list_any (λ other. known == other) echo_services ≡ true → (service == known) ≡ false
not_in service known none has = by_test (service == known) refl
  where
    by_test : (test : Bool) → (service == known) ≡ test → test ≡ false
    by_test false is = refl
    by_test true is =
        sym has ∙ ap (λ one. list_any (λ other. one == other) echo_services) (sym (it_is service known is)) ∙ none

-- each service of some rows that has a sub-function is among them
abbrev are_echoed : List Service → Bool
are_echoed rows = list_all (λ row. not row.has_sub_function || list_any (λ other. row.sid == other) echo_services) rows

no_sub_in : (rows : List Service) → are_echoed rows ≡ true → (service : ℕ) → list_any (λ other. service == other) echo_services ≡ false
    → option_map_or (λ row. row.has_sub_function) (service_row_in rows service) false ≡ false
no_sub_in [] all service none = refl
no_sub_in (row ∷ rows) all service none = by_test (service == row.sid) refl (no_sub_in rows (rest_of all) service none)
  where
    first_of : are_echoed (row ∷ rows) ≡ true → (not row.has_sub_function || list_any (λ other. row.sid == other) echo_services) ≡ true
    first_of every = (and_parts (not row.has_sub_function || list_any (λ other. row.sid == other) echo_services) (are_echoed rows) every).0

    rest_of : are_echoed (row ∷ rows) ≡ true → are_echoed rows ≡ true
    rest_of every = (and_parts (not row.has_sub_function || list_any (λ other. row.sid == other) echo_services) (are_echoed rows) every).1

    has_none : (has listed : Bool) → (not has || listed) ≡ true → listed ≡ false → has ≡ false
    has_none false listed one unlisted = refl
    has_none true listed one unlisted = sym one ∙ unlisted

    by_test : (test : Bool) → (service == row.sid) ≡ test
        → option_map_or (λ row. row.has_sub_function) (service_row_in rows service) false ≡ false
        → option_map_or (λ row. row.has_sub_function) (if test then Some row else service_row_in rows service) false ≡ false
    by_test true is further =
        has_none row.has_sub_function (list_any (λ other. row.sid == other) echo_services) (first_of all)
        (ap (λ one. list_any (λ other. one == other) echo_services) (sym (it_is service row.sid is)) ∙ none)
    by_test false is further = further

count_of_other : (service : ℕ) → list_any (λ other. service == other) echo_services ≡ false → count_of_service service ≡ 0
count_of_other service none =
    chosen_else (has_sub_function service) 1 _ (no_sub_in services refl service none)
    ∙ chosen_else (repeats_identifier service) 2 _
    (neither _ _ (not_in service 0x22 none refl) (neither _ _ (not_in service 0x24 none refl)
    (neither _ _ (not_in service 0x2E none refl) (not_in service 0x2F none refl))))
    ∙ chosen_else (repeats_byte service) 1 0 (neither _ _ (not_in service 0x36 none refl) (not_in service 0x38 none refl))

nothing_repeated : (request answer : List ℕ) → list_any (λ other. sid request == other) echo_services ≡ false → repeated_count request answer ≡ 0
nothing_repeated request answer none =
    chosen_else (sid request == 0x2C) _ _ (not_in (sid request) 0x2C none refl)
    ∙ chosen_else (sid request == 0x31) _ _ (not_in (sid request) 0x31 none refl)
    ∙ count_of_other (sid request) none

untold_other : (request : List ℕ) (asked : Option (MaskValue × ℕ)) (answer : List ℕ) (told : Option (MaskValue × ℕ))
    → list_any (λ other. sid request == other) echo_services ≡ false → repeats_others request asked answer told ≡ false
unfolding differ_within
untold_other request asked answer told none =
    chosen_else (sid request == 0x22) _ _ (not_in (sid request) 0x22 none refl)
    ∙ ap (λ count. differ_within (has_sub_function (sid request)) request asked answer told count) (nothing_repeated request answer none)

pub no_other_service_is_told : NoOtherServiceIsTold
unfolding answers_other
no_other_service_is_told rules request answer none =
    told_only _ _ _ (λ long. untold_other request (mask_of rules request) answer (mask_of rules answer) none)

pub negative_is_not_told : NegativeIsNotTold
unfolding answers_other
negative_is_not_told rules request answer negative = by_service (service_answered (sid answer) == sid request) refl
  where
    rest : Bool
    rest =
        (is_longer (repeated_count request answer) request && is_longer (repeated_count request answer) answer)
        && repeats_others request (mask_of rules request) answer (mask_of rules answer)

    service : (service_answered (sid answer) == sid request) ≡ true → sid request ≡ 0x3F
    service is = sym (it_is _ _ is) ∙ ap service_answered (it_is (sid answer) 0x7F negative)

    unlisted : sid request ≡ 0x3F → list_any (λ other. sid request == other) echo_services ≡ false
    unlisted is = ap (λ one. list_any (λ other. one == other) echo_services) is

    by_service : (test : Bool) → (service_answered (sid answer) == sid request) ≡ test → (test && rest) ≡ false
    by_service false is = refl
    by_service true is =
        told_only true _ _ (λ long. untold_other request (mask_of rules request) answer (mask_of rules answer) (unlisted (service is)))
