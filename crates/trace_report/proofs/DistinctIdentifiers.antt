-- The identifiers of a page: each stands once, and each link of the verdict leads to one.
use Rattle.std.proofs.Common.{eq-eqb, eqb-true, ◌≡◌, ◌≤◌, ◌<◌, ◌^◌, ℕ, ◌+◌, Bool, true, List, [], ◌∷◌}
use Rattle.std.proofs.Common.{length, map, Some, IfSome, arith, refl, ap, sym, subst, ◌∙◌, inl, inr}
use Rattle.std.specs.Prelude.{⊤, ◌≢◌, ◌==◌, not, ◌&&◌, bytes_eq, slice_index_or, take}
use Rattle.std.specs.List.{AllByRecursion, list_all}
use Rattle.std.proofs.lemmas.Bool.{and_parts, cases_Bool}
use Rattle.std.proofs.lemmas.Fmt.{decimal_injective}
use Rattle.std.proofs.lemmas.Slice.Eq.{bytes_eq-Decides}
use Rattle.direction.specs.declared.Dir.TheVariants as dir
use Rattle.can_log.proofs.Promises.{AllByRecursion-tested, AllByRecursion-weaker}
use Rattle.isotp_receive.proofs.Promises.{messages_are_few}
use Rattle.isotp_receive.specs.declared.TheConstants.{MESSAGE_LIMIT}
use Rattle.isotp_receive.specs.Verdict.{messages}
use Rattle.uds_rules.proofs.Promises.{left_out_are_the_rest}
use Rattle.trace_log.specs.Messages.{messages_under}
use Rattle.trace_log.specs.Trace.{trace}
use Rattle.uds_exchange.proofs.Promises.{items_within_messages}
use Rattle.uds_exchange.specs.Meaning.{meaning}
use Rattle.trace_report.specs.Events.{rows_of}
use Rattle.trace_report.specs.Laws.{AreDistinct, IdentifiersStandOnce, LinksHaveTargets}
use Rattle.trace_report.specs.Linked.{HasEachTarget, IsAmong, fixed_identifiers, identifiers_in, targets_in}
use Rattle.trace_report.specs.Page.{all_rows}
use Rattle.trace_report.specs.Rows.{RowValue}
use Rattle.trace_report.specs.Sorts.{is_of, most_links, rank, sort_of, target_of, targets_of}
use Rattle.trace_report.specs.Targets.{identifier}
use Rattle.trace_report.specs.declared.targets.LinkTarget.{LinkTarget}
use Rattle.trace_report.specs.declared.targets.LinkTarget.TheVariants.{Item as of_item, Line as of_line, Side as of_side}
use Rattle.trace_report.specs.declared.sorts.Sort.{Sort}
use Rattle.trace_report.specs.declared.sorts.Sort.TheVariants as sort
use Rattle.trace_report.proofs.Distinct.{distinct-append, distinct-texts, each-of-first}
use Rattle.trace_report.proofs.LineOrder.{grown-few, trace-grows}
use Rattle.uds_rules.specs.Rule.{RuleValue}
use Rattle.trace_report.proofs.RowPlaces.{ArePlaced, IsWithin, Leads, led_to}
use Rattle.trace_report.proofs.RowTargets.{all-placed, rows-placed}
use Rattle.trace_report.proofs.WaitedAnswers.{slowest-lead}
use Rattle.trace_report.proofs.OtherAnswers.{others-lead}

-- Different places have different identifiers.

-- a place whose number has 64 bits
abbrev IsNumbered : LinkTarget → Type 0
IsNumbered (of_item number) = number < 2 ^ 64
IsNumbered (of_line number) = number < 2 ^ 64
IsNumbered (of_side d) = ⊤

abbrev head : List ℕ → ℕ
head [] = 0
head (c ∷ text) = c

abbrev behind : List ℕ → List ℕ
behind [] = []
behind (c ∷ text) = text

identified : (a b : LinkTarget) → IsNumbered a → IsNumbered b → a ≢ b → identifier a ≢ identifier b
identified (of_item m) (of_item n) low high other same = other (ap of_item (decimal_injective m n low high (ap behind same)))
identified (of_item m) (of_line n) low high other same = let heads : 105 ≡ 108 = ap head same in omega (arith, heads)
identified (of_item m) (of_side d) low high other same = let heads : 105 ≡ 101 = ap head same in omega (arith, heads)
identified (of_line m) (of_item n) low high other same = let heads : 108 ≡ 105 = ap head same in omega (arith, heads)
identified (of_line m) (of_line n) low high other same = other (ap of_line (decimal_injective m n low high (ap behind same)))
identified (of_line m) (of_side d) low high other same = let heads : 108 ≡ 101 = ap head same in omega (arith, heads)
identified (of_side d) (of_item n) low high other same = let heads : 101 ≡ 105 = ap head same in omega (arith, heads)
identified (of_side d) (of_line n) low high other same = let heads : 101 ≡ 108 = ap head same in omega (arith, heads)
identified (of_side dir.Tester) (of_side dir.Tester) low high other same = other refl
identified (of_side dir.Tester) (of_side dir.Unit) low high other same = let heads : 116 ≡ 117 = ap (λ text. head (behind text)) same in omega (arith, heads)
identified (of_side dir.Unit) (of_side dir.Tester) low high other same = let heads : 117 ≡ 116 = ap (λ text. head (behind text)) same in omega (arith, heads)
identified (of_side dir.Unit) (of_side dir.Unit) low high other same = other refl

-- The fixed ones are others.

differs : (text other : List ℕ) → not (bytes_eq text other) ≡ true → text ≢ other
differs text other test same = let equal : bytes_eq text other ≡ true = (bytes_eq-Decides text other).1 same in cc

-- none of these texts is that of a place
abbrev is_apart : LinkTarget → List ℕ → Bool
is_apart (of_item number) text = not (head text == 105)
is_apart (of_line number) text = not (head text == 108)
is_apart (of_side d) text = not (bytes_eq text (identifier (of_side d)))

first-differs : (first : ℕ) (text other : List ℕ) → not (head text == first) ≡ true → head other ≡ first → text ≢ other
first-differs first text other test is same =
    let equal : (head text == first) ≡ true = eq-eqb (head text) first (ap head same ∙ is) in cc

apart-from : (place : LinkTarget) (text : List ℕ) → is_apart place text ≡ true → text ≢ identifier place
apart-from (of_item number) text test = first-differs 105 text (identifier (of_item number)) test refl
apart-from (of_line number) text test = first-differs 108 text (identifier (of_line number)) test refl
apart-from (of_side d) text test = differs text (identifier (of_side d)) test

fixed-apart : (place : LinkTarget) → list_all (is_apart place) fixed_identifiers ≡ true
fixed-apart (of_item number) = refl
fixed-apart (of_line number) = refl
fixed-apart (of_side dir.Tester) = refl
fixed-apart (of_side dir.Unit) = refl

each-apart : (place : LinkTarget) → AllByRecursion (λ text. text ≢ identifier place) fixed_identifiers
each-apart place =
    AllByRecursion-weaker (λ text. is_apart place text ≡ true) (λ text. text ≢ identifier place) (apart-from place) fixed_identifiers
    (AllByRecursion-tested (is_apart place) fixed_identifiers (fixed-apart place))

one-apart : (text : List ℕ) (places : List LinkTarget) → ((place : LinkTarget) → text ≢ identifier place) → AllByRecursion (λ later. text ≢ later) (map identifier places)
one-apart text [] apart = tt
one-apart text (place ∷ places) apart = (apart place, one-apart text places apart)

all-apart : (texts : List (List ℕ)) (places : List LinkTarget) → ((place : LinkTarget) → AllByRecursion (λ text. text ≢ identifier place) texts)
    → AllByRecursion (λ text. AllByRecursion (λ later. text ≢ later) (map identifier places)) texts
all-apart [] places apart = tt
all-apart (text ∷ texts) places apart = (one-apart text places (λ place. (apart place).0), all-apart texts places (λ place. (apart place).1))

-- and each of them stands once
abbrev all_differ : List (List ℕ) → Bool
all_differ [] = true
all_differ (text ∷ texts) = list_all (λ later. not (bytes_eq text later)) texts && all_differ texts

differing : (texts : List (List ℕ)) → all_differ texts ≡ true → AreDistinct texts
differing [] test = tt
differing (text ∷ texts) test =
    let parts = and_parts (list_all (λ later. not (bytes_eq text later)) texts) (all_differ texts) test in (
      AllByRecursion-weaker (λ later. not (bytes_eq text later) ≡ true) (λ later. text ≢ later) (differs text) texts
          (AllByRecursion-tested (λ later. not (bytes_eq text later)) texts parts.0),
      differing texts parts.1,
    )

fixed-distinct : AreDistinct fixed_identifiers
fixed-distinct = differing fixed_identifiers refl

-- The identifiers of a page.

numbered : (items lines sides : ℕ) → items < 2 ^ 64 → lines ≤ 2 ^ 64 → (place : LinkTarget) → IsWithin items lines sides place → IsNumbered place
numbered items lines sides few some (of_item number) within = omega (arith, few, within)
numbered items lines sides few some (of_line number) within = omega (arith, some, within)
numbered items lines sides few some (of_side d) within = tt

stand-once : (items lines sides : ℕ) (rows : List RowValue) → items < 2 ^ 64 → lines ≤ 2 ^ 64 → ArePlaced items lines sides rows → AreDistinct (identifiers_in rows)
stand-once items lines sides rows few some are =
    let places = targets_in rows in
    distinct-append fixed_identifiers (map identifier places) fixed-distinct
    (distinct-texts IsNumbered identifier identified places
    (AllByRecursion-weaker (IsWithin items lines sides) IsNumbered (numbered items lines sides few some) places are.within) are.distinct)
    (all-apart fixed_identifiers places each-apart)

pub identifiers_stand_once : IdentifiersStandOnce
identifiers_stand_once settings meanings few =
    let T = trace settings meanings in
    let lines = 1 + length meanings in
    let grow = trace-grows settings 1 meanings in
    let placed = rows-placed settings.rules T 1 lines grow in
    let frames = grown-few 1 lines T grow in
    let sent = messages_are_few MESSAGE_LIMIT T in
    let left = left_out_are_the_rest settings.rules (messages MESSAGE_LIMIT T) in
    let told = items_within_messages (messages_under settings.rules MESSAGE_LIMIT T) in
    let items = length (meaning (messages_under settings.rules MESSAGE_LIMIT T)) in
    let low : items < 2 ^ 64 = omega (arith, frames, sent, left, told, few) in
    let some : lines ≤ 2 ^ 64 = omega (arith, few) in (
      stand-once items lines 2 (all_rows MESSAGE_LIMIT settings.rules T) low some (all-placed settings.rules T lines placed),
      stand-once items lines 0 (rows_of MESSAGE_LIMIT settings.rules T) low some placed,
    )

-- The links of a verdict.

abbrev sorts : List Sort
sorts =
    sort.Requests ∷ sort.Positives ∷ sort.Negatives ∷ sort.Pendings ∷ sort.KeepAlives ∷ sort.Strays ∷ sort.Unanswered ∷ sort.Silent
    ∷ sort.Dropped ∷ sort.Ended ∷ sort.Unfinished ∷ sort.ToAllUnits ∷ []

abbrev sort_at : ℕ → Sort
sort_at number = slice_index_or sorts number sort.Unfinished

ranked : (kind : Sort) → sort_at (rank kind) ≡ kind
ranked sort.Requests = refl
ranked sort.Positives = refl
ranked sort.Negatives = refl
ranked sort.Pendings = refl
ranked sort.KeepAlives = refl
ranked sort.Strays = refl
ranked sort.Unanswered = refl
ranked sort.ToAllUnits = refl
ranked sort.Silent = refl
ranked sort.Dropped = refl
ranked sort.Ended = refl
ranked sort.Unfinished = refl

same-sort : (kind other : Sort) → (rank kind == rank other) ≡ true → other ≡ kind
same-sort kind other same = sym (ranked other) ∙ ap sort_at (sym (eqb-true (rank kind) (rank other) same)) ∙ ranked kind

module _ (kind : Sort) (leads : (place : LinkTarget) → led_to kind place ≡ Some place) (places : List LinkTarget) where
  leads-there : (one : RowValue) → is_of kind one ≡ true → Leads places one → IsAmong (target_of one) places
  leads-there one is lead =
      subst (λ o. IfSome o (λ place. IsAmong place places)) (ap (λ s. led_to s (target_of one)) (same-sort kind (sort_of one) is) ∙ leads (target_of one)) lead

  each-leads : (rows : List RowValue) → AllByRecursion (Leads places) rows → AllByRecursion (λ (place : LinkTarget). IsAmong place places) (targets_of kind rows)
  each-leads [] lead = tt
  each-leads (one ∷ rows) lead =
      elim (cases_Bool (is_of kind one)) [
        | inl e ↦ rw e (leads-there one e lead.0, each-leads rows lead.1)
        | inr e ↦ rw e (each-leads rows lead.1)
      ]

  pub first-lead : (rows : List RowValue) → AllByRecursion (Leads places) rows → AllByRecursion (λ (place : LinkTarget). IsAmong place places) (take most_links (targets_of kind rows))
  first-lead rows lead = each-of-first (λ (place : LinkTarget). IsAmong place places) most_links (targets_of kind rows) (each-leads rows lead)

has-each : (rules : List RuleValue) (items lines sides : ℕ) (rows : List RowValue) → ArePlaced items lines sides rows → HasEachTarget rules rows
has-each rules items lines sides rows are = record {
  dropped = first-lead sort.Dropped (λ place. refl) (targets_in rows) rows are.lead;
  ended = first-lead sort.Ended (λ place. refl) (targets_in rows) rows are.lead;
  unfinished = first-lead sort.Unfinished (λ place. refl) (targets_in rows) rows are.lead;
  negatives = first-lead sort.Negatives (λ place. refl) (targets_in rows) rows are.lead;
  unanswered = first-lead sort.Unanswered (λ place. refl) (targets_in rows) rows are.lead;
  strays = first-lead sort.Strays (λ place. refl) (targets_in rows) rows are.lead;
  slowest = slowest-lead (targets_in rows) rows are.lead;
  others = others-lead rules (targets_in rows) rows are.lead;
}

pub links_have_targets : LinksHaveTargets
links_have_targets settings meanings =
    let T = trace settings meanings in
    let lines = 1 + length meanings in
    let items = length (meaning (messages_under settings.rules MESSAGE_LIMIT T)) in
    let placed = rows-placed settings.rules T 1 lines (trace-grows settings 1 meanings) in (
      has-each settings.rules items lines 2 (all_rows MESSAGE_LIMIT settings.rules T) (all-placed settings.rules T lines placed),
      has-each settings.rules items lines 0 (rows_of MESSAGE_LIMIT settings.rules T) placed,
    )
