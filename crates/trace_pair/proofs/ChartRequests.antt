-- Requests among rows: where the last one of the first rows stands, and that behind one no answer is looked for.
use Rattle.std.proofs.Common.{◌≡◌, ℕ, zero, suc, ◌≤◌, ◌<◌, Bool, true, false, List, [], ◌∷◌, ◌++◌}
use Rattle.std.proofs.Common.{length, take, drop, Option, Some, None, ap, sym, ◌∙◌, refl, arith, inl, inr}
use Rattle.std.specs.Prelude.{◌||◌, slice_get, if◌then◌else◌}
use Rattle.std.specs.List.{list_any}
use Rattle.std.proofs.lemmas.Bool.{cases_Bool, cases_lt}
use Rattle.trace_report.specs.Blocks.{begins_exchange}
use Rattle.trace_report.specs.Items.{RowMessageValue, answer_by, answer_in, message_in}
use Rattle.trace_report.specs.Roles.{is_answer_role, is_request_role}
use Rattle.trace_report.specs.Rows.{RowValue, message, no_answer, dropped, ended, unfinished}
use Rattle.trace_pair.specs.FirstDifference.{asks, before_request, last_request}
use Rattle.trace_pair.proofs.ChartPlaces.{first-asks, first-later, last-earlier, last-there}

-- what stands there among the first ones
pub get-taken : {X : Type 0} (count : ℕ) (xs : List X) (at : ℕ) → at < count → slice_get (take count xs) at ≡ slice_get xs at
get-taken zero xs at low = absurd (omega (arith, low))
get-taken (suc count) [] at low = refl
get-taken (suc count) (x ∷ xs) zero low = refl
get-taken (suc count) (x ∷ xs) (suc at) low = get-taken count xs at (omega (arith, low))

-- Answers before the next request.

-- behind a request no answer to one before it is looked for
asked-none : (sent : RowMessageValue) (later : Option RowMessageValue) → is_request_role sent.role ≡ true → answer_by (Some sent) later ≡ None
asked-none sent later there = ap (λ (b : Bool). if b then None else if is_answer_role sent.role then Some sent else later) there

-- by its row
asks-none : (row : RowValue) (later : Option RowMessageValue) → begins_exchange row ≡ true → answer_by (message_in row) later ≡ None
asks-none (message is d place bytes) later there = asked-none (record { role = is; dir = d; place = place; bytes = bytes }) later there
asks-none (no_answer number silence) later there = absurd (cc there)
asks-none (dropped place d linked why) later there = absurd (cc there)
asks-none (ended place end) later there = absurd (cc there)
asks-none (unfinished d line len) later there = absurd (cc there)

-- no answer is looked for from the next request on
pub none-answered : (rows : List RowValue) → answer_in (drop (before_request rows) rows) ≡ None
none-answered [] = refl
none-answered (row ∷ rows) = elim (cases_Bool (begins_exchange row)) [
  | inl there ↦ ap (λ (n : ℕ). answer_in (drop n (row ∷ rows))) (first-asks row rows there) ∙ asks-none row (answer_in rows) there
  | inr none ↦ ap (λ (n : ℕ). answer_in (drop n (row ∷ rows))) (first-later row rows none) ∙ none-answered rows
]

-- what follows without an answer changes none
pub answered-before : (xs ys : List RowValue) → answer_in ys ≡ None → answer_in (xs ++ ys) ≡ answer_in xs
answered-before [] ys none = none
answered-before (row ∷ xs) ys none = ap (answer_by (message_in row)) (answered-before xs ys none)

-- Requests.

-- the last request of the first rows is one
pub last-asks : (count : ℕ) (rows : List RowValue) → 0 < last_request count rows → asks (slice_get rows (last_request count rows)) ≡ true
last-asks zero rows some = absurd (omega (arith, some))
last-asks (suc count) rows some = elim (cases_Bool (asks (slice_get rows count))) [
  | inl there ↦ ap (λ (n : ℕ). asks (slice_get rows n)) (last-there count rows there) ∙ there
  | inr none ↦
      let earlier = last-earlier count rows none in
      ap (λ (n : ℕ). asks (slice_get rows n)) earlier ∙ last-asks count rows (omega (arith, some, earlier))
]

-- a request is one of the rows
pub asks-within : (rows : List RowValue) (at : ℕ) → asks (slice_get rows at) ≡ true → at < length rows
asks-within [] at there = absurd (cc there)
asks-within (row ∷ rows) zero there = omega arith
asks-within (row ∷ rows) (suc at) there = omega (arith, asks-within rows at there)

-- a request among the first rows stands at the last one, or before it
pub asks-before : (count at : ℕ) (rows : List RowValue) → asks (slice_get rows at) ≡ true → at < count → at ≤ last_request count rows
asks-before zero at rows there low = absurd (omega (arith, low))
asks-before (suc count) at rows there low = elim (cases_Bool (asks (slice_get rows count))) [
  | inl last ↦ omega (arith, low, last-there count rows last)
  | inr none ↦ elim (cases_lt at count) [
    | inl before ↦ omega (arith, last-earlier count rows none, asks-before count at rows there before)
    | inr past ↦
        let same : at ≡ count = omega (arith, low, past) in
        let clash : true ≡ false = sym there ∙ ap (λ (n : ℕ). asks (slice_get rows n)) same ∙ none in
        absurd (cc clash)
  ]
]

-- rows of which none is a request have none
pub none-asks : (rows : List RowValue) (count : ℕ) → ((at : ℕ) → at < count → asks (slice_get rows at) ≡ false) → list_any begins_exchange (take count rows) ≡ false
none-asks rows zero each = refl
none-asks [] (suc count) each = refl
none-asks (row ∷ rows) (suc count) each =
    let first = each 0 (omega arith) in
    let later = none-asks rows count (λ at low. each (suc at) (omega (arith, low))) in
    ap (λ (b : Bool). b || list_any begins_exchange (take count rows)) first ∙ later
