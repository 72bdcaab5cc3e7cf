-- Each row is said, or the fold that begins with it, behind those before it.
use Rattle.std.proofs.Common.{ℕ, List, ◌+◌, ◌≤◌, ◌<◌, ◌^◌, ◌∙◌, arith, rules, ap, subst, sym, length, drop, get_or}
use Rattle.std.proofs.lemmas.List.{drop_all, drop_more, take_rest}
use Rattle.text_parts.proofs.Promises.{none-said}
use Rattle.uds_difference.specs.declared.row.Row.TheVariants.{Same}
use Rattle.shown_rows.specs.Changes.{changes}
use Rattle.trace_pair.specs.declared.standing.Standing.{Standing}
use Rattle.trace_pair.specs.proving.Standings.{row_or_fold, rows_behind}
use Rattle.trace_pair.proofs.Standings.{blocks-small, changes-small, left-small, right-small, roomy}
use Rattle.trace_pair.proofs.Tables.{turn-row, turn-rows-end}
use Rattle.trace_pair.proofs.WalkedRows.{walked}
use Rattle.trace_pair.proofs.item_tables.say_rows.Goals as goal

pub rows-init : goal.rows-init
rows-init g c =
    let rows = c.args.rows.now in
    let start = c.at_start-at.ensures in
    record {
      left_small = omega (arith, ap (λ (at : Standing). at.left) start);
      right_small = omega (arith, ap (λ (at : Standing). at.right) start);
      changes_small = omega (arith, ap (λ (at : Standing). at.changes) start);
      blocks_small = omega (arith, ap (λ (at : Standing). at.blocks) start);
      left = none-said g.S.TextSink.says c.args.out.now _ _ (g.met.S.TextSink.nothing c.args.out.now)
          (ap (λ (at : Standing). rows_behind c.args.sessions.left.now c.args.sessions.right.now (length (changes rows)) at rows) start);
    }

pub say_row_or_fold-requires : goal.say_row_or_fold-requires
say_row_or_fold-requires g c =
    let rows = c.args.rows.now in
    let inv = c.rows.invariant in
    let few : length c.args.rows.now < 2 ^ 63 = search rules in
    roomy c.rows.at rows c.rows.k few c.rows-test.true inv.left_small inv.right_small inv.changes_small inv.blocks_small

pub behind-at-requires : goal.behind-at-requires
behind-at-requires g c =
    let rows = c.args.rows.now in
    let inv = c.rows.invariant in
    let few : length c.args.rows.now < 2 ^ 63 = search rules in
    roomy c.rows.at rows c.rows.k few c.rows-test.true inv.left_small inv.right_small inv.changes_small inv.blocks_small

pub rows-preserved : goal.rows-preserved
rows-preserved g c =
    let one = c.args.sessions.left.now in
    let other = c.args.sessions.right.now in
    let rows = c.args.rows.now in
    let k = c.rows.k in
    let at = c.rows.at in
    let row = get_or rows k Same in
    let later = drop (k + 1) rows in
    let inv = c.rows.invariant in
    let first = drop_more rows k Same c.rows-test.true in
    let rest = take_rest rows k ∙ first in
    let next = c.behind-at.ensures (get_or rows k Same) (drop (k + 1) rows) rest in
    record {
      left_small = subst (λ (now : Standing). now.left ≤ k + 1) (sym next) (left-small at row later k inv.left_small);
      right_small = subst (λ (now : Standing). now.right ≤ k + 1) (sym next) (right-small at row later k inv.right_small);
      changes_small = subst (λ (now : Standing). now.changes ≤ k + 1) (sym next) (changes-small at row later k inv.changes_small);
      blocks_small = subst (λ (now : Standing). now.blocks ≤ k + 1) (sym next) (blocks-small at row later k inv.blocks_small);
      left = turn-row g.S.TextSink.says g.met.S.TextSink.onward one other c.args.out.now _
          (length (changes rows)) at c.behind-at.result (drop k rows) (drop (k + 1) rows) (get_or rows k Same) c.rows.out _ first inv.left
          (subst (λ (all : ℕ). g.S.TextSink.says c.rows.out (row_or_fold one other all at (get_or rows k Same) (drop (k + 1) rows)) c.say_row_or_fold.new.out) c.count_changes-all.ensures
          (c.say_row_or_fold.ensures (get_or rows k Same) (drop (k + 1) rows) rest))
          next;
    }

pub returns : goal.returns
returns g c =
    let rows = c.args.rows.now in
    subst (λ (text : List ℕ). g.S.TextSink.says c.args.out.now text c.say.new.out) (walked c.args.sessions.left.now c.args.sessions.right.now c.args.rows.now)
    (turn-rows-end g.S.TextSink.says g.met.S.TextSink.onward c.args.sessions.left.now c.args.sessions.right.now c.args.out.now _
    (length (changes rows)) c.rows.at (drop c.rows.k rows) c.rows.out _ (drop_all c.rows.k rows c.rows-test.false) c.rows.invariant.left c.say.ensures)
