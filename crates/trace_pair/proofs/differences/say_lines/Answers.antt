-- Each row adds the line of the change that begins with it, if one does, until as many are said as are listed.
use Rattle.std.proofs.Common.{◌≡◌, ℕ, ◌+◌, ◌-◌, ◌≤◌, ◌<◌, ◌^◌, Option, Some, None, length, take, drop, get_or, ap, subst, sym, ◌∙◌, arith, rules}
use Rattle.std.proofs.lemmas.List.{drop_all, drop_more, length-drop, take_rest}
use Rattle.text_parts.proofs.Promises.{none-said, same-rest}
use Rattle.uds_difference.specs.declared.row.Row.TheVariants.{Same}
use Rattle.shown_rows.specs.declared.changes.Change.{Change}
use Rattle.shown_rows.specs.Changes.{changes, changes_from}
use Rattle.trace_pair.specs.Differences.{difference_lines}
use Rattle.trace_pair.specs.proving.Changing.{count_if}
use Rattle.trace_pair.proofs.ChangeSteps.{is-small}
use Rattle.trace_pair.proofs.ListedChanges.{turn-change, turn-last, turn-listed}
use Rattle.trace_pair.proofs.differences.say_lines.Goals as goal

one_at_most : (here : Option Change) → count_if here ≤ 1
one_at_most None = omega arith
one_at_most (Some it) = omega arith

pub rows-init : goal.rows-init
rows-init g c =
    let all : c.args.listed + 1 - 1 ≡ c.args.listed = omega arith in
    record {
      left_small = omega arith;
      right_small = omega arith;
      few = omega arith;
      left = none-said g.S.TextSink.says c.args.out.now _ _ (g.met.S.TextSink.nothing c.args.out.now)
          (ap (λ (n : ℕ). difference_lines c.args.sessions.left.now c.args.sessions.right.now c.args.listed 1 (take n (changes c.args.rows.now))) all);
    }

pub say_line_if-number-requires : goal.say_line_if-number-requires
say_line_if-number-requires g c =
    let rows = c.args.rows.now in
    let k = c.rows.k in
    let first = drop_more rows k Same c.rows-test.true in
    let few : length rows < 2 ^ 63 = search rules in
    record {
      number = omega (arith, few, c.rows.invariant.few, c.rows-test.true);
      change = is-small c.rows.front c.rows.i c.rows.j (get_or rows k Same) (drop (k + 1) rows) c.change_at-change.result
          (c.change_at-change.ensures (get_or rows k Same) (drop (k + 1) rows) (take_rest rows k ∙ first))
          (omega (arith, few, c.rows.invariant.left_small, c.rows-test.true, length-drop (k + 1) rows)) (omega (arith, few, c.rows.invariant.right_small, c.rows-test.true, length-drop (k + 1) rows));
    }

pub rows-preserved : goal.rows-preserved
rows-preserved g c =
    let says = g.S.TextSink.says in
    let one = c.args.sessions.left.now in
    let other = c.args.sessions.right.now in
    let listed = c.args.listed in
    let rows = c.args.rows.now in
    let k = c.rows.k in
    let inv = c.rows.invariant in
    let next = c.say_line_if-number.ensures.next in
    record {
      left_small = omega (arith, inv.left_small, c.left_in-i.ensures.one);
      right_small = omega (arith, inv.right_small, c.right_in-j.ensures.one);
      few = subst (λ (n : ℕ). n ≤ k + 1 + 1) (sym next) (omega (arith, inv.few, one_at_most c.change_at-change.result));
      left = same-rest says c.args.out.now c.say_line_if-number.new.out _ _ _
          (ap (λ (n : ℕ). difference_lines one other listed n (take (listed + 1 - n) (changes_from (get_or rows k Same) (c.rows.i + c.left_in-i.result) (c.rows.j + c.right_in-j.result) (drop (k + 1) rows)))) (sym next))
          (turn-change says g.met.S.TextSink.onward one other listed c.args.out.now _ c.rows.number c.rows.front c.rows.i c.rows.j c.left_in-i.result c.right_in-j.result (drop k rows) (drop (k + 1) rows)
          (get_or rows k Same) c.change_at-change.result c.rows.out c.say_line_if-number.new.out c.if-number-listed.false (drop_more rows k Same c.rows-test.true)
          (c.change_at-change.ensures (get_or rows k Same) (drop (k + 1) rows) (take_rest rows k ∙ drop_more rows k Same c.rows-test.true))
          c.left_in-i.ensures.value c.right_in-j.ensures.value inv.left c.say_line_if-number.ensures.text);
    }

pub returns-then-number-listed : goal.returns-then-number-listed
returns-then-number-listed g c =
    turn-listed g.S.TextSink.says g.met.S.TextSink.onward c.args.sessions.left.now c.args.sessions.right.now c.args.listed c.args.out.now _ c.rows.number _ c.rows.out
    c.if-number-listed.true c.rows.invariant.left

pub returns : goal.returns
returns g c =
    turn-last g.S.TextSink.says g.met.S.TextSink.onward c.args.sessions.left.now c.args.sessions.right.now c.args.listed c.args.out.now _ c.rows.number _ c.rows.out
    (ap (changes_from c.rows.front c.rows.i c.rows.j) (drop_all c.rows.k c.args.rows.now c.rows-test.false)) c.rows.invariant.left
