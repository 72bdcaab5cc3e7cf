use Rattle.std.proofs.Common.{◌≡◌, ◌+◌, ◌≤◌, length, [], true}
use Rattle.std.specs.Io.KnownBytes.{IsAtEnd}
use Rattle.trace_io.specs.Stream.{Gave}
use Rattle.trace_log.specs.Feeding.{WroteBefore}
use Rattle.trace_log.proofs.Streams.{HasTaken}
use Rattle.trace_log.proofs.feed.feed_lines.Given as goal

abbrev pub invariant-reading : goal.invariant-reading
invariant-reading g l = record {
  within : l.left ≤ l.max_bytes;
  piece_len : length l.piece ≡ 4096;
  gave : Gave (g.R.Source.given l.initial.source) (g.R.Source.given l.source) (g.R.Source.remaining l.initial.source) (g.R.Source.remaining l.source);
  ended : (g.R.Source.is_over l.initial.source ≡ true → IsAtEnd (g.R.Source.remaining l.initial.source))
      → g.R.Source.is_over l.source ≡ true → IsAtEnd (g.R.Source.remaining l.source);
  given : length (gave.bytes) + l.left ≡ l.max_bytes;
  reads : g.R.Source.reads l.source + l.left ≤ g.R.Source.reads l.initial.source + l.max_bytes;
  failures : g.R.Source.failures l.source ≡ g.R.Source.failures l.initial.source;
  taken : l.scanner.taken + l.left ≤ l.max_bytes;
  lines : (start : g.row.T.Denot × g.row.T-Device.Denot) → g.T.LineTaker.took start [] (l.initial.taker, l.initial.device)
      → HasTaken g.T.LineTaker.took start gave.bytes l.max_bytes l.left l.scanner (l.taker, l.device);
  eager : (start : g.row.T.Denot × g.row.T-Device.Denot) → g.T.LineTaker.took start [] (l.initial.taker, l.initial.device)
      → g.T.LineTaker.sure start [] (l.initial.taker, l.initial.device) → WroteBefore g.T.LineTaker.sure start gave.bytes (length gave.bytes) (l.taker, l.device);
}

abbrev pub decreases-reading : goal.decreases-reading
decreases-reading g l = l.left
