use Rattle.std.proofs.Common.{◌≡◌, ◌≤◌, take}
use Rattle.byte_columns.specs.Columns.{differing, paired}
use Rattle.byte_columns.proofs.pairs.count_differing.Given as goal

abbrev pub invariant-bytes : goal.invariant-bytes
invariant-bytes l = record { so_far : l.count ≡ differing (take l.k (paired l.left l.right)); few : l.count ≤ l.k }
