-- What the verdict of a report is made of, with one more row.
use Rattle.std.proofs.Common.{◌≡◌, ℕ, ◌<◌, ◌≤◌, ◌^◌, ◌-◌, ◌==◌, Bool, true, false, List, [], ◌∷◌, ◌++◌, length, take}
use Rattle.std.proofs.Common.{zero, suc, refl, ap, sym, ◌∙◌, append-nil, arith, suc-le-suc, le_trans, zero-le}
use Rattle.std.specs.Prelude.{if◌then◌else◌}
use Rattle.std.proofs.lemmas.Grind.{flat_map-append}
use Rattle.std.proofs.lemmas.List.{length-append}
use Rattle.uds_exchange.specs.Judging.{one_more}
use Rattle.trace_report.specs.Rows.{RowValue}
use Rattle.trace_report.specs.Sorts.{is_of, most_links, rank, sort_of, target_of, targets_of, counts_in, first_targets, tally_of}
use Rattle.trace_report.specs.declared.tally.SortCounts.{SortCounts}
use Rattle.trace_report.specs.declared.sorts.Sort.{Sort}
use Rattle.trace_report.specs.declared.sorts.Sort.TheVariants as sort
use Rattle.trace_report.specs.declared.tally.FirstTargets.{FirstTargets}
use Rattle.trace_report.specs.declared.targets.LinkTarget.{LinkTarget}
use Rattle.trace_report.specs.proving.Tallying.{counts_with, first_with}

-- the front of a list with one more element is known from its front
pub take_one_more : (n : ℕ) (xs : List LinkTarget) (x : LinkTarget) → take n (take n xs ++ x ∷ []) ≡ take n (xs ++ x ∷ [])
take_one_more zero xs x = refl
take_one_more (suc n) [] x = refl
take_one_more (suc n) (y ∷ xs) x = ap (λ rest. y ∷ rest) (take_one_more n xs x)

-- a list with one more element where the condition holds
abbrev added : Bool → LinkTarget → List LinkTarget → List LinkTarget
added true x xs = xs ++ x ∷ []
added false x xs = xs

append_if : (b : Bool) (x : LinkTarget) (xs : List LinkTarget) → xs ++ ((if b then x ∷ [] else []) ++ []) ≡ added b x xs
append_if true x xs = refl
append_if false x xs = append-nil xs

-- the targets of a sort with one more row
targets_next : (rows : List RowValue) (row : RowValue) (kind : Sort)
    → targets_of kind (rows ++ row ∷ []) ≡ added (is_of kind row) (target_of row) (targets_of kind rows)
targets_next rows row kind =
    flat_map-append (λ (r : RowValue). if is_of kind r then target_of r ∷ [] else []) rows (row ∷ [])
    ∙ append_if (is_of kind row) (target_of row) (targets_of kind rows)

-- no sort has more rows than there are
few_more : (b : Bool) (x : LinkTarget) (n : ℕ) (xs : List LinkTarget) → length xs ≤ n → length ((if b then x ∷ [] else []) ++ xs) ≤ suc n
few_more true x n xs few = omega arith
few_more false x n xs few = omega arith

few_targets : (kind : Sort) (rows : List RowValue) → length (targets_of kind rows) ≤ length rows
few_targets kind [] = zero-le
few_targets kind (row ∷ rest) = few_more (is_of kind row) (target_of row) (length rest) (targets_of kind rest) (few_targets kind rest)

-- the counts and the first targets by the targets of each sort
abbrev counts_by : (Sort → List LinkTarget) → SortCounts
counts_by targets = record {
  requests = length (targets sort.Requests);
  positives = length (targets sort.Positives);
  negatives = length (targets sort.Negatives);
  unanswered = length (targets sort.Unanswered);
  to_all_units = length (targets sort.ToAllUnits);
  silent = length (targets sort.Silent);
  pendings = length (targets sort.Pendings);
  keep_alives = length (targets sort.KeepAlives);
  strays = length (targets sort.Strays);
  dropped = length (targets sort.Dropped);
  ended = length (targets sort.Ended);
  unfinished = length (targets sort.Unfinished);
}

abbrev first_by : (Sort → List LinkTarget) → FirstTargets
first_by targets = record {
  dropped = record { items = take most_links (targets sort.Dropped) };
  ended = record { items = take most_links (targets sort.Ended) };
  unfinished = record { items = take most_links (targets sort.Unfinished) };
  negatives = record { items = take most_links (targets sort.Negatives) };
  unanswered = record { items = take most_links (targets sort.Unanswered) };
  strays = record { items = take most_links (targets sort.Strays) };
}

pub one_longer : (xs : List LinkTarget) (x : LinkTarget) → length xs < 2 ^ 64 - 1 → one_more (length xs) ≡ length (xs ++ x ∷ [])
one_longer xs x few = rw (length-append xs (x ∷ [])) (omega arith)

module _ (targets : Sort → List LinkTarget) (target : LinkTarget) where
  -- with one more target of a sort
  abbrev targets_with : Sort → Sort → List LinkTarget
  targets_with of kind = added (rank kind == rank of) target (targets kind)

  counts_more : (few : (kind : Sort) → length (targets kind) < 2 ^ 64 - 1) (of : Sort) → counts_with of (counts_by targets) ≡ counts_by (targets_with of)
  counts_more few sort.Requests = ap (λ n. record (counts_by targets) { requests = n }) (one_longer (targets sort.Requests) target (few sort.Requests))
  counts_more few sort.Positives = ap (λ n. record (counts_by targets) { positives = n }) (one_longer (targets sort.Positives) target (few sort.Positives))
  counts_more few sort.Negatives = ap (λ n. record (counts_by targets) { negatives = n }) (one_longer (targets sort.Negatives) target (few sort.Negatives))
  counts_more few sort.Pendings = ap (λ n. record (counts_by targets) { pendings = n }) (one_longer (targets sort.Pendings) target (few sort.Pendings))
  counts_more few sort.KeepAlives = ap (λ n. record (counts_by targets) { keep_alives = n }) (one_longer (targets sort.KeepAlives) target (few sort.KeepAlives))
  counts_more few sort.Strays = ap (λ n. record (counts_by targets) { strays = n }) (one_longer (targets sort.Strays) target (few sort.Strays))
  counts_more few sort.Unanswered = ap (λ n. record (counts_by targets) { unanswered = n }) (one_longer (targets sort.Unanswered) target (few sort.Unanswered))
  counts_more few sort.ToAllUnits = ap (λ n. record (counts_by targets) { to_all_units = n }) (one_longer (targets sort.ToAllUnits) target (few sort.ToAllUnits))
  counts_more few sort.Silent = ap (λ n. record (counts_by targets) { silent = n }) (one_longer (targets sort.Silent) target (few sort.Silent))
  counts_more few sort.Dropped = ap (λ n. record (counts_by targets) { dropped = n }) (one_longer (targets sort.Dropped) target (few sort.Dropped))
  counts_more few sort.Ended = ap (λ n. record (counts_by targets) { ended = n }) (one_longer (targets sort.Ended) target (few sort.Ended))
  counts_more few sort.Unfinished = ap (λ n. record (counts_by targets) { unfinished = n }) (one_longer (targets sort.Unfinished) target (few sort.Unfinished))

  first_more : (of : Sort) → first_with of target (first_by targets) ≡ first_by (targets_with of)
  first_more sort.Dropped = ap (λ l. record (first_by targets) { dropped = record { items = l } }) (take_one_more 10 (targets sort.Dropped) target)
  first_more sort.Ended = ap (λ l. record (first_by targets) { ended = record { items = l } }) (take_one_more 10 (targets sort.Ended) target)
  first_more sort.Unfinished = ap (λ l. record (first_by targets) { unfinished = record { items = l } }) (take_one_more 10 (targets sort.Unfinished) target)
  first_more sort.Negatives = ap (λ l. record (first_by targets) { negatives = record { items = l } }) (take_one_more 10 (targets sort.Negatives) target)
  first_more sort.Unanswered = ap (λ l. record (first_by targets) { unanswered = record { items = l } }) (take_one_more 10 (targets sort.Unanswered) target)
  first_more sort.Strays = ap (λ l. record (first_by targets) { strays = record { items = l } }) (take_one_more 10 (targets sort.Strays) target)
  first_more sort.Requests = refl
  first_more sort.Positives = refl
  first_more sort.Pendings = refl
  first_more sort.KeepAlives = refl
  first_more sort.ToAllUnits = refl
  first_more sort.Silent = refl

-- the counts are right with one more row
pub counts_next : (rows : List RowValue) (row : RowValue) → length rows < 2 ^ 64 - 1 → (counts : SortCounts)
    → counts ≡ counts_with (sort_of row) (counts_in rows) → counts ≡ counts_in (rows ++ row ∷ [])
counts_next rows row few counts are =
    let targets = λ (kind : Sort). targets_of kind rows in
    let few_each = λ (kind : Sort). le_trans (suc-le-suc (few_targets kind rows)) few in
    are ∙ counts_more targets (target_of row) few_each (sort_of row) ∙ (λ i. counts_by (λ kind. sym (targets_next rows row kind) i))

-- and so are the first targets
pub tally_next : (rows : List RowValue) (row : RowValue) → length rows < 2 ^ 64 - 1 → (counts : SortCounts) (first : FirstTargets)
    → counts ≡ counts_with (sort_of row) (counts_in rows) → first ≡ first_with (sort_of row) (target_of row) (first_targets rows)
    → record { counts = counts; first = first } ≡ tally_of (rows ++ row ∷ [])
tally_next rows row few counts first counts_are first_are =
    let targets = λ (kind : Sort). targets_of kind rows in
    let counted = counts_next rows row few counts counts_are in
    let linked = first_are ∙ first_more targets (target_of row) (sort_of row) ∙ (λ i. first_by (λ kind. sym (targets_next rows row kind) i)) in
    λ i. record { counts = counted i; first = linked i }
