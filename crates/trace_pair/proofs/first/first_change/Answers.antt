-- No change begins with a row before the one that is looked at.
use Rattle.std.proofs.Common.{◌+◌, ◌<◌, ◌^◌, List, Option, IfSome, length, drop, get_or, ap, subst, sym, ◌∙◌, arith, refl, rules}
use Rattle.std.specs.Prelude.{slice_get}
use Rattle.std.proofs.lemmas.List.{drop_all, drop_more, length-drop, take_rest}
use Rattle.uds_difference.specs.declared.row.Row.TheVariants.{Same}
use Rattle.shown_rows.specs.declared.changes.Change.{Change}
use Rattle.shown_rows.specs.Changes.{changes_from}
use Rattle.trace_pair.specs.ChangeWords.{IsSmall}
use Rattle.trace_pair.proofs.ChangeSteps.{is-small, one-begins, still-same}
use Rattle.trace_pair.proofs.first.first_change.Goals as goal

pub rows-init : goal.rows-init
rows-init c = record { left_small = omega arith; right_small = omega arith; so_far = refl }

pub returns-in-Some : goal.returns-in-Some
returns-in-Some c =
    let rows = c.args.rows.now in
    let k = c.rows.k in
    let first = drop_more rows k Same c.rows-test.true in
    let is = c.change_at.ensures (get_or rows k Same) (drop (k + 1) rows) (take_rest rows k ∙ first) in
    let few : length rows < 2 ^ 63 = search rules in
    record {
      value = sym (ap (λ (all : List Change). slice_get all 0)
          (c.rows.invariant.so_far
          ∙ one-begins Same c.rows.i c.rows.j _ _ (drop k rows) (drop (k + 1) rows) (get_or rows k Same) first c.change_at.result is refl refl c.in-Some.change c.in-Some.is));
      small = subst (λ (here : Option Change). IfSome here IsSmall) c.in-Some.is
          (is-small Same c.rows.i c.rows.j (get_or rows k Same) (drop (k + 1) rows) c.change_at.result is
          (omega (arith, few, c.rows.invariant.left_small, c.rows-test.true, length-drop (k + 1) rows)) (omega (arith, few, c.rows.invariant.right_small, c.rows-test.true, length-drop (k + 1) rows)));
    }

pub rows-preserved : goal.rows-preserved
rows-preserved c =
    let rows = c.args.rows.now in
    let k = c.rows.k in
    record {
      left_small = omega (arith, c.rows.invariant.left_small, c.left_in-i.ensures.one);
      right_small = omega (arith, c.rows.invariant.right_small, c.right_in-j.ensures.one);
      so_far = still-same rows k c.rows.i c.rows.j c.left_in-i.result c.right_in-j.result _ c.change_at.result c.rows-test.true
          (c.change_at.ensures (get_or rows k _) (drop (k + 1) rows) (take_rest rows k ∙ drop_more rows k _ c.rows-test.true)) c.in_default.is
          c.left_in-i.ensures.value c.right_in-j.ensures.value c.rows.invariant.so_far;
    }

pub returns-clause-value : goal.returns-clause-value
returns-clause-value c =
    sym (ap (λ (all : List Change). slice_get all 0)
    (c.rows.invariant.so_far ∙ ap (changes_from Same c.rows.i c.rows.j) (drop_all c.rows.k c.args.rows.now c.rows-test.false)))
