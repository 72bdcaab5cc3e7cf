-- The changes that are left behind a row are those of the rows behind it.
use Rattle.std.proofs.Common.{◌≡◌, ◌+◌, ◌<◌, ◌^◌, length}
use Rattle.shown_rows.specs.Changes.{changes_from}
use Rattle.shown_rows.proofs.changes.ChangesIterator.next.Given as goal

abbrev pub invariant-rows : goal.invariant-rows
invariant-rows l = record {
  left_small : l.self-inside.left + length l.self-inside.rows.now < 2 ^ 63;
  right_small : l.self-inside.right + length l.self-inside.rows.now < 2 ^ 63;
  same : changes_from l.self-inside.front l.self-inside.left l.self-inside.right l.self-inside.rows.now ≡ l.fn.self;
}

abbrev pub decreases-rows : goal.decreases-rows
decreases-rows l = length l.self-inside.rows.now
