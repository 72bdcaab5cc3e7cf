-- Each row adds the change that begins with it, if one does.
use Rattle.std.proofs.Common.{◌≡◌, ◌+◌, ◌≤◌, Bool, true, false, List, [], Option, Some, None, length, drop, get_or, ap, sym, ◌∙◌, arith}
use Rattle.std.specs.Prelude.{◌||◌, if◌then◌else◌}
use Rattle.std.specs.List.{list_any}
use Rattle.std.proofs.lemmas.List.{drop_all, drop_more, take_rest}
use Rattle.shown_rows.specs.declared.changes.Change.{Change}
use Rattle.shown_rows.specs.Changes.{changes, changes_from}
use Rattle.trace_report.specs.Session.{SessionValue}
use Rattle.pair_words.specs.declared.log.PairLog.TheVariants.{A, B}
use Rattle.trace_pair.specs.Verdict.{is_lossy, lossy_count}
use Rattle.trace_pair.specs.proving.Changing.{count_if, lossy_if}
use Rattle.trace_pair.proofs.LossyChanges.{any-next, count-next, lossy-next}
use Rattle.trace_pair.proofs.lossy_changes.losses_at_changes.Goals as goal

-- no more of these changes are lossy than there are
lossy_within : (left right : SessionValue) (here : Option Change) → lossy_if left right here ≤ count_if here
lossy_within left right None = omega arith
lossy_within left right (Some it) = by (is_lossy A left it || is_lossy B right it)
  where
    by : (lossy : Bool) → (if lossy then 1 else 0) ≤ 1
    by true = omega arith
    by false = omega arith

one_at_most : (here : Option Change) → count_if here ≤ 1
one_at_most None = omega arith
one_at_most (Some it) = omega arith

-- what was found so far is all, where no change is left
no_more : (so_far : Bool) (test : Change → Bool) (rest : List Change) (whole : Bool) → rest ≡ [] → (so_far || list_any test rest) ≡ whole → so_far ≡ whole
no_more true test rest whole none is = is
no_more false test rest whole none is = sym (ap (list_any test) none) ∙ is

pub rows-init : goal.rows-init
rows-init c =
    let rows = c.args.rows.now in
    let left = c.args.sessions.left.now in
    let right = c.args.sessions.right.now in
    let none = c.none-line.ensures in
    record {
      left_small = omega arith;
      right_small = omega arith;
      few = omega (arith, none.all);
      fewer = omega (arith, none.lossy, none.all);
      lossy = omega (arith, none.lossy);
      all = omega (arith, none.all);
      left = ap (λ (b : Bool). b || list_any (is_lossy A left) (changes rows)) none.left;
      right = ap (λ (b : Bool). b || list_any (is_lossy B right) (changes rows)) none.right;
    }

pub rows-preserved : goal.rows-preserved
rows-preserved c =
    let rows = c.args.rows.now in
    let k = c.rows.k in
    let left = c.args.sessions.left.now in
    let right = c.args.sessions.right.now in
    let inv = c.rows.invariant in
    let here = c.change_at.result in
    let more = c.with_change-line.ensures in
    let first = drop_more rows k _ c.rows-test.true in
    let is = c.change_at.ensures (get_or rows k _) (drop (k + 1) rows) (take_rest rows k ∙ first) in
    let lossy_next = lossy-next left right c.rows.front c.rows.i c.rows.j c.left_in-i.result c.right_in-j.result (drop k rows) (drop (k + 1) rows) (get_or rows k _) first here is
    c.left_in-i.ensures.value c.right_in-j.ensures.value in
    let all_next = count-next left right c.rows.front c.rows.i c.rows.j c.left_in-i.result c.right_in-j.result (drop k rows) (drop (k + 1) rows) (get_or rows k _) first here is
    c.left_in-i.ensures.value c.right_in-j.ensures.value in
    record {
      left_small = omega (arith, inv.left_small, c.left_in-i.ensures.one);
      right_small = omega (arith, inv.right_small, c.right_in-j.ensures.one);
      few = omega (arith, inv.few, more.all, one_at_most here);
      fewer = omega (arith, inv.fewer, more.all, more.lossy, lossy_within left right here);
      lossy = omega (arith, inv.lossy, more.lossy, lossy_next);
      all = omega (arith, inv.all, more.all, all_next);
      left = any-next A left c.rows.front c.rows.i c.rows.j c.left_in-i.result c.right_in-j.result (drop k rows) (drop (k + 1) rows) (get_or rows k _) first here is
          c.left_in-i.ensures.value c.right_in-j.ensures.value c.rows.line.left c.with_change-line.result.left more.left ∙ inv.left;
      right = any-next B right c.rows.front c.rows.i c.rows.j c.left_in-i.result c.right_in-j.result (drop k rows) (drop (k + 1) rows) (get_or rows k _) first here is
          c.left_in-i.ensures.value c.right_in-j.ensures.value c.rows.line.right c.with_change-line.result.right more.right ∙ inv.right;
    }

pub returns : goal.returns
returns c =
    let left = c.args.sessions.left.now in
    let right = c.args.sessions.right.now in
    let inv = c.rows.invariant in
    let none = ap (changes_from c.rows.front c.rows.i c.rows.j) (drop_all c.rows.k c.args.rows.now c.rows-test.false) in
    let no_lossy = ap (lossy_count left right) none in
    let no_count = ap (λ (l : List Change). length l) none in
    record {
      lossy = omega (arith, inv.lossy, no_lossy);
      all = omega (arith, inv.all, no_count);
      left = no_more c.rows.line.left (is_lossy A left) _ _ none inv.left;
      right = no_more c.rows.line.right (is_lossy B right) _ _ none inv.right;
    }
