use Rattle.std.proofs.Common.{◌+◌, ◌≤◌, ◌++◌, List, ℕ, length, Option}
use Rattle.can_log.specs.declared.frame.Stamped.{Stamped}
use Rattle.can_log.specs.WholeLog.{StandsAfter}
use Rattle.trace_log.proofs.Pieces.{HasRead}
use Rattle.trace_log.proofs.lines.take_lines.Given as goal

abbrev pub invariant-lines : goal.invariant-lines
invariant-lines g l = record {
  room : l.scanner.taken + length l.rest ≤ l.initial.scanner.taken + length l.piece;
  read : (start : g.row.T.Denot × g.row.T-Device.Denot) (bytes : List ℕ) (meanings : List (Option Stamped)) → StandsAfter bytes meanings l.initial.scanner
      → g.T.LineTaker.took start meanings (l.initial.taker, l.initial.device) → HasRead g.T.LineTaker.took start meanings (bytes ++ l.piece) l.rest l.scanner (l.taker, l.device);
  kept : (start : g.row.T.Denot × g.row.T-Device.Denot) (bytes : List ℕ) (meanings first : List (Option Stamped)) → StandsAfter bytes meanings l.initial.scanner
      → g.T.LineTaker.took start meanings (l.initial.taker, l.initial.device) → g.T.LineTaker.sure start first (l.initial.taker, l.initial.device)
      → g.T.LineTaker.sure start first (l.taker, l.device);
}

abbrev pub decreases-lines : goal.decreases-lines
decreases-lines g l = length l.rest
