-- What is said of two logs is what `compare` answers.
use Rattle.std.proofs.Common.{◌≡◌, ◌<◌, ℕ, zero, suc, List, [], ◌∷◌, Option, Some, None, take, arith, refl, ap, sym, subst, ◌∙◌, inl, inr, Ok}
use Rattle.std.specs.Prelude.{slice_get}
use Rattle.std.proofs.lemmas.Bool.{cases_lt}
use Rattle.std.proofs.lemmas.Option.{none-some}
use Rattle.can_log.proofs.Promises.{log_means_at_most_one}
use Rattle.isotp_receive.specs.declared.TheConstants.{MESSAGE_LIMIT}
use Rattle.trace_canon.specs.Sessions.{GivesSession}
use Rattle.trace_canon.specs.Compared.{difference}
use Rattle.trace_canon.specs.declared.collector.Session.{Session}
use Rattle.trace_canon.specs.declared.comparer.Comparison.{Comparison}
use Rattle.trace_canon.specs.declared.comparer.Comparison.TheVariants.{Same, Different}
use Rattle.trace_log.specs.Messages.{meaning_of_lines}
use Rattle.trace_log.specs.Settings.{Settings}
use Rattle.trace_log.specs.Trace.{trace}
use Rattle.uds_exchange.specs.Difference.{IsFirstDifference}
use Rattle.uds_exchange.specs.Meaning.{ItemValue}
use Rattle.uds_difference.specs.Laws.{first_change}
use Rattle.uds_difference.specs.Rows.{rows_of}
use Rattle.uds_difference.proofs.Promises.{first_change_is_first_difference}
use Rattle.trace_report.specs.Kept as Keeps
use Rattle.trace_report.specs.Laws.{ItemsAreTheMeaning}
use Rattle.trace_report.specs.Session.{SessionValue}
use Rattle.trace_pair.specs.Compared.{comparison_by, comparison_in}
use Rattle.trace_pair.specs.Laws.{AgreesWithCompare, ComparisonIsOfItems}
use Rattle.trace_pair.specs.Sessions.{values_in}

-- Two lists have one first difference.

kept : (xs : List ItemValue) (i j : ℕ) → i < j → slice_get (take j xs) i ≡ slice_get xs i
kept xs zero zero low = absurd (omega (arith, low))
kept xs (suc i) zero low = absurd (omega (arith, low))
kept [] zero (suc j) low = refl
kept [] (suc i) (suc j) low = refl
kept (x ∷ xs) zero (suc j) low = refl
kept (x ∷ xs) (suc i) (suc j) low = kept xs i j (omega (arith, low))

below : (xs ys : List ItemValue) (i j : ℕ) → i < j → take j xs ≡ take j ys → slice_get xs i ≡ slice_get ys i
below xs ys i j low same = sym (kept xs i j low) ∙ ap (λ (l : List ItemValue). slice_get l i) same ∙ kept ys i j low

one-difference : (xs ys : List ItemValue) (p q : Option ℕ) → IsFirstDifference xs ys p → IsFirstDifference xs ys q → p ≡ q
one-difference xs ys None None one other = refl
one-difference xs ys None (Some j) same there = absurd (there.1 (ap (λ (l : List ItemValue). slice_get l j) same))
one-difference xs ys (Some i) None there same = absurd (there.1 (ap (λ (l : List ItemValue). slice_get l i) same))
one-difference xs ys (Some i) (Some j) one other = elim (cases_lt i j) [
  | inl low ↦ absurd (one.1 (below xs ys i j low other.0))
  | inr high ↦ elim (cases_lt j i) [
    | inl low ↦ absurd (other.1 (below xs ys j i low one.0))
    | inr low ↦ ap (λ n. Some n) (let e : i ≡ j = omega (arith, high, low) in e)
  ]
]

same-comparison : (one other : Comparison) → difference one ≡ difference other → one ≡ other
same-comparison Same Same is = refl
same-comparison Same (Different place) is = absurd (none-some place is)
same-comparison (Different place) Same is = absurd (none-some place (sym is))
same-comparison (Different place) (Different other) is = ap (λ (p : Option ℕ). of p) is
  where
    of : Option ℕ → Comparison
    of None = Same
    of (Some n) = Different n

-- the place of the first difference, behind the comparison that it gives
its-place : (place : Option ℕ) → place ≡ difference (comparison_by place)
its-place None = refl
its-place (Some n) = refl

pub of-items : ComparisonIsOfItems
of-items two =
    let xs = values_in two.left in
    let ys = values_in two.right in
    subst (IsFirstDifference xs ys) (its-place (first_change (rows_of xs ys))) (first_change_is_first_difference xs ys)

module _ (are_the_meaning : ItemsAreTheMeaning) where
  -- the items of a log that is kept are those that `compare` has
  same-items : (settings : Settings) (log : List ℕ) (held : SessionValue) (session : Session) → Keeps.KeepsOne MESSAGE_LIMIT settings log (Ok held)
      → GivesSession MESSAGE_LIMIT settings log (Ok session) → values_in held ≡ session.meaning
  same-items settings log held session (meanings, read, is) accepted =
      let means = accepted.accepted.means in
      ap values_in is ∙ are_the_meaning settings.rules (trace settings meanings)
      ∙ ap (meaning_of_lines MESSAGE_LIMIT settings) (log_means_at_most_one log meanings means.meanings read.1 means.means) ∙ sym means.found

  pub agrees : AgreesWithCompare
  agrees settings one other held compared holds compares =
      let left = same-items settings one held.left compared.left holds.0 compares.0 in
      let right = same-items settings other held.right compared.right holds.1 compares.1 in
      let xs = values_in held.left in
      let ys = values_in held.right in
      let place = difference (comparison_in held) in
      let own : IsFirstDifference xs ys place = of-items held in
      same-comparison (comparison_in held) compared.comparison
      (one-difference compared.left.meaning compared.right.meaning place (difference compared.comparison)
      (subst (λ (items : List ItemValue). IsFirstDifference items compared.right.meaning place) left
      (subst (λ (items : List ItemValue). IsFirstDifference xs items place) right own))
      compares.2)
