-- Whoever is the first so far, and then of what is left, is the first of all.
use Rattle.std.proofs.Common.{◌≡◌, None}
use Rattle.std.specs.List.{IsDistinct}
use Rattle.std.specs.Map.{keys_of, lookup}
use Rattle.can_log.specs.declared.frame.Id.{Id}
use Rattle.uds_find.specs.Credit.{is_same}
use Rattle.uds_find.specs.proving.Steps.{first_among}
use Rattle.uds_find.proofs.lines.first_candidates.Given as goal

abbrev pub invariant-pairs : goal.invariant-pairs
invariant-pairs l = record {
  first : (unit : Id) → first_among l.functional.keys unit (lookup (is_same unit) l.candidates.entries) l.pair-iterator
      ≡ first_among l.functional.keys unit None l.credits.entries;
  once : IsDistinct is_same (keys_of l.candidates.entries);
}
