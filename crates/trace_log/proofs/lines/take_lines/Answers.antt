use Rattle.std.proofs.Common.{arith, length-drop, ◌+◌, ◌<◌, ◌^◌, length, ◌++◌, Some, ap, sym, subst, ◌∙◌}
use Rattle.std.proofs.lemmas.Bool.{eqb-true}
use Rattle.std.proofs.lemmas.List.{take_rest, nil_from_length}
use Rattle.can_log.specs.Scanning.{Scans}
use Rattle.can_log.specs.declared.scanner.Scan.{Scan}
use Rattle.trace_log.proofs.Pieces.{HasRead, line_within, line_counted, waits_within, few_lines, read_none, line_number, read_line, line_stops, piece_refused, piece_read, piece_waits, stops_piece, passed}
use Rattle.trace_log.proofs.lines.take_lines.Goals as goal

pub lines-init : goal.lines-init
lines-init g c = record {
  room = omega arith;
  kept = λ start bytes meanings first stands taken sure. sure;
  read = λ start bytes meanings stands taken. read_none g.T.LineTaker.took start bytes c.args.piece.now meanings c.args.scanner.now (c.args.taker.now, c.args.device.now) stands taken;
}

pub lines-preserved : goal.lines-preserved
lines-preserved g c =
    let answer = subst (λ (scan : Scan). Scans c.lines.scanner c.lines.rest.now scan c.scan_next.new.scanner) c.in-Line.is c.in_default.ensures.answer in
    let within = line_within c.lines.scanner c.scan_next.new.scanner c.lines.rest.now c.in-Line.used c.in-Line.line c.in-Line.what answer in
    let left = take_rest c.lines.rest.now c.in-Line.used in
    record {
      room = omega (arith, ap length left, length-drop c.in-Line.used c.lines.rest.now, c.lines.invariant.room);
      read = λ start bytes meanings stands taken.
          let took = g.T.LineTaker.took in
          let read = c.lines.invariant.read start bytes meanings stands taken in
          let number = line_number took start meanings (bytes ++ c.args.piece.now) c.lines.rest.now c.lines.scanner c.scan_next.new.scanner
          (c.lines.taker, c.lines.device) c.in-Line.used c.in-Line.line c.in-Line.what read answer in
          let few : length read.meanings < 2 ^ 62 = omega (arith, few_lines read.front read.meanings c.lines.scanner read.stands, read.stands.taken, c.lines.invariant.room) in
          read_line took start meanings (bytes ++ c.args.piece.now) c.lines.rest.now _ c.lines.scanner c.scan_next.new.scanner
          (c.lines.taker, c.lines.device) (c.take.new.self, c.take.new.device) c.in-Line.used c.in-Line.line c.in-Line.what
          read answer left (c.in_default-take.ensures.ok start read.meanings number few read.taken);
      kept = λ start bytes meanings first stands taken sure.
          let took = g.T.LineTaker.took in
          let read = c.lines.invariant.read start bytes meanings stands taken in
          let number = line_number took start meanings (bytes ++ c.args.piece.now) c.lines.rest.now c.lines.scanner c.scan_next.new.scanner
          (c.lines.taker, c.lines.device) c.in-Line.used c.in-Line.line c.in-Line.what read answer in
          let few : length read.meanings < 2 ^ 62 = omega (arith, few_lines read.front read.meanings c.lines.scanner read.stands, read.stands.taken, c.lines.invariant.room) in
          c.in_default-take.ensures.kept start read.meanings first number few read.taken (c.lines.invariant.kept start bytes meanings first stands taken sure);
    }

pub lines-preserved-in-Some : goal.lines-preserved-in-Some
lines-preserved-in-Some g c =
    let known = passed c.wanted-wanted.result c.wanted-wanted.ensures c.in-Some.ensures.foreign in
    let foreign = known.2 in
    let used = c.in-Some.used in
    let line = c.lines.scanner.lines + 1 in
    let what = Some foreign.stamped in
    let within = line_within c.lines.scanner c.scan_next.new.scanner c.lines.rest.now used line what foreign.scans in
    let left = take_rest c.lines.rest.now used in
    record {
      room = omega (arith, ap length left, length-drop used c.lines.rest.now, c.lines.invariant.room);
      read = λ start bytes meanings stands taken.
          let took = g.T.LineTaker.took in
          let read = c.lines.invariant.read start bytes meanings stands taken in
          let number = line_number took start meanings (bytes ++ c.args.piece.now) c.lines.rest.now c.lines.scanner c.scan_next.new.scanner
          (c.lines.taker, c.lines.device) used line what read foreign.scans in
          let counted = c.line_count.ensures ∙ line_counted c.lines.scanner c.scan_next.new.scanner c.lines.rest.now used line what foreign.scans ∙ number in
          read_line took start meanings (bytes ++ c.args.piece.now) c.lines.rest.now _ c.lines.scanner c.scan_next.new.scanner
          (c.lines.taker, c.lines.device) (c.pass.new.self, c.lines.device) used line what
          read foreign.scans left
          (c.pass.ensures.takes c.lines.device _ foreign.stamped known.1 foreign.foreign start read.meanings counted read.taken);
      kept = λ start bytes meanings first stands taken sure. c.pass.ensures.kept c.lines.device start first (c.lines.invariant.kept start bytes meanings first stands taken sure);
    }

pub returns-in-Err-clause-lines : goal.returns-in-Err-clause-lines
returns-in-Err-clause-lines g c = λ start bytes meanings stands taken.
    let answer = subst (λ (scan : Scan). Scans c.lines.scanner c.lines.rest.now scan c.scan_next.new.scanner) c.in-Line.is c.in_default.ensures.answer in
    let took = g.T.LineTaker.took in
    let read = c.lines.invariant.read start bytes meanings stands taken in
    let number = line_number took start meanings (bytes ++ c.args.piece.now) c.lines.rest.now c.lines.scanner c.scan_next.new.scanner
    (c.lines.taker, c.lines.device) c.in-Line.used c.in-Line.line c.in-Line.what read answer in
    let few : length read.meanings < 2 ^ 62 = omega (arith, few_lines read.front read.meanings c.lines.scanner read.stands, read.stands.taken, c.lines.invariant.room) in
    stops_piece g.T.LineTaker.took g.T.LineTaker.stopped start (Unit {0}) c.in-Err.fault meanings bytes c.args.piece.now c.scan_next.new.scanner (c.take.new.self, c.take.new.device) c.in-Err.ensures.fault (
      read.meanings,
      c.in-Line.what,
      line_stops took start meanings (bytes ++ c.args.piece.now) c.lines.rest.now c.lines.scanner c.scan_next.new.scanner
          (c.lines.taker, c.lines.device) c.in-Line.used c.in-Line.line c.in-Line.what read answer,
      c.in-Err.ensures.err start read.meanings number few read.taken,
    )

pub returns-in-Bad-clause-lines : goal.returns-in-Bad-clause-lines
returns-in-Bad-clause-lines g c = λ start bytes meanings stands taken.
    let answer = subst (λ (scan : Scan). Scans c.lines.scanner c.lines.rest.now scan c.scan_next.new.scanner) c.in-Bad.is c.in_default.ensures.answer in
    let took = g.T.LineTaker.took in
    let read = c.lines.invariant.read start bytes meanings stands taken in (
      read.meanings,
      piece_refused took start meanings (bytes ++ c.args.piece.now) c.lines.rest.now c.lines.scanner c.scan_next.new.scanner (c.lines.taker, c.lines.device) c.in-Bad.line c.in-Bad.column read answer,
      read.taken,
    )

pub returns-in-NeedMore-clause-lines : goal.returns-in-NeedMore-clause-lines
returns-in-NeedMore-clause-lines g c = λ start bytes meanings stands taken.
    let took = g.T.LineTaker.took in
    let read = c.lines.invariant.read start bytes meanings stands taken in (
      read.meanings,
      piece_waits took start meanings (bytes ++ c.args.piece.now) c.lines.rest.now c.lines.scanner c.scan_next.new.scanner c.scan_next.new.answer
          (c.lines.taker, c.lines.device) read c.in_default.ensures.answer c.in-NeedMore.is,
      read.taken,
    )

pub returns-clause-lines : goal.returns-clause-lines
returns-clause-lines g c = λ start bytes meanings stands taken.
    let took = g.T.LineTaker.took in
    let none = nil_from_length c.lines.rest.now (eqb-true (length c.lines.rest.now) 0 (sym c.lines-test.ensures)) in
    let read = subst (λ rest. HasRead took start meanings (bytes ++ c.args.piece.now) rest c.lines.scanner (c.lines.taker, c.lines.device)) none
    (c.lines.invariant.read start bytes meanings stands taken) in
    (read.meanings, piece_read took start meanings (bytes ++ c.args.piece.now) c.lines.scanner (c.lines.taker, c.lines.device) read, read.taken)

pub returns-in-NeedMore-clause-taken : goal.returns-in-NeedMore-clause-taken
returns-in-NeedMore-clause-taken g c =
    let within = waits_within c.lines.scanner c.scan_next.new.scanner c.lines.rest.now c.scan_next.new.answer c.in_default.ensures.answer c.in-NeedMore.is in
    omega (arith, c.lines.invariant.room)

pub returns-in-Err-clause-kept : goal.returns-in-Err-clause-kept
returns-in-Err-clause-kept g c = λ start bytes meanings first stands taken sure.
    let answer = subst (λ (scan : Scan). Scans c.lines.scanner c.lines.rest.now scan c.scan_next.new.scanner) c.in-Line.is c.in_default.ensures.answer in
    let took = g.T.LineTaker.took in
    let read = c.lines.invariant.read start bytes meanings stands taken in
    let number = line_number took start meanings (bytes ++ c.args.piece.now) c.lines.rest.now c.lines.scanner c.scan_next.new.scanner
    (c.lines.taker, c.lines.device) c.in-Line.used c.in-Line.line c.in-Line.what read answer in
    let few : length read.meanings < 2 ^ 62 = omega (arith, few_lines read.front read.meanings c.lines.scanner read.stands, read.stands.taken, c.lines.invariant.room) in
    c.in-Err.ensures.kept start read.meanings first number few read.taken (c.lines.invariant.kept start bytes meanings first stands taken sure)
