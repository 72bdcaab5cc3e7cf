-- The first change of a list is said, where it has one.
use Rattle.std.proofs.Common.{◌≡◌, ℕ, List, [], ◌∷◌, length, Option, Some, None, arith, refl, subst, sym, ◌∙◌}
use Rattle.std.specs.Prelude.{slice_get}
use Rattle.std.proofs.lemmas.Option.{none-some, same_Some}
use Rattle.shown_rows.specs.declared.changes.Change.{Change}
use Rattle.shown_rows.specs.Changes.{changes}
use Rattle.trace_report.specs.Session.{SessionValue}
use Rattle.uds_difference.specs.declared.row.Row.{Row}
use Rattle.trace_pair.specs.FirstDifference.{first_if, first_change_text}
use Rattle.trace_pair.proofs.ChangeSteps.{none-before}
use Rattle.trace_pair.proofs.first.say_first.Goals as goal

module _ (left_name right_name : List ℕ) (left right : SessionValue) (rows : List Row) where
  some-first : (all : List Change) (here : Change) (count : ℕ) → Some here ≡ slice_get all 0 → count ≡ length all
      → first_change_text count left_name right_name left right rows here ≡ first_if left_name right_name left right rows all
  some-first [] here count is many = absurd (none-some here (sym is))
  some-first (first ∷ later) here count is many = λ i. first_change_text (many i) left_name right_name left right rows (same_Some here first is i)

  none-first : (all : List Change) → ◌≡◌ {A = Option Change} None (slice_get all 0) → [] ≡ first_if left_name right_name left right rows all
  none-first [] is = refl
  none-first (first ∷ later) is = absurd (none-some first is)

pub say_change-requires-clause-first : goal.say_change-requires-clause-first
say_change-requires-clause-first g c = none-before c.args.rows.now 0 c.in-Some.change c.in-Some.ensures.value c.in-Some.change.left (omega arith)

pub returns-in-Some : goal.returns-in-Some
returns-in-Some g c =
    subst (λ (text : List ℕ). g.S.TextSink.says c.args.out.now text c.say_change.new.out)
    (some-first c.args.left_name.now c.args.right_name.now c.args.sessions.left.now c.args.sessions.right.now c.args.rows.now (changes c.args.rows.now) c.in-Some.change c.count_changes.result
    c.in-Some.ensures.value c.count_changes.ensures)
    c.say_change.ensures

pub returns-in_default : goal.returns-in_default
returns-in_default g c =
    subst (λ (text : List ℕ). g.S.TextSink.says c.args.out.now text c.args.out.now)
    (none-first c.args.left_name.now c.args.right_name.now c.args.sessions.left.now c.args.sessions.right.now c.args.rows.now (changes c.args.rows.now)
    (sym c.in_default.is ∙ c.first_change.ensures.value))
    (g.met.S.TextSink.nothing c.args.out.now)
