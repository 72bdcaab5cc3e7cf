use Rattle.std.proofs.Common.{arith, append_assoc, refl, [], ℕ, ◌≡◌, ◌≤◌, ◌+◌, ◌^◌, ◌++◌, length, take, drop, length-take, length-append, length-drop, ap, sym, subst, ◌∙◌}
use Rattle.can_log.specs.WholeLog.{StandsAfter}
use Rattle.std.specs.Io.KnownBytes.{Consumes}
use Rattle.can_log.proofs.Promises.{start_stands}
use Rattle.trace_log.proofs.Feedings.{feeds_piece, feeds_some_in_piece, feeds_to_end, feeds_some_at_end, wrote_since, wrote_now}
use Rattle.trace_log.proofs.Streams.{gave_nothing, gave_more, grown_more, grown_none, log_of, front_of_log, over_is, when_ok, not_over, some_not_over, piece_of, reads_near}
use Rattle.trace_log.proofs.feed.feed_lines.Goals as goal

pub returns-in_default-clause-lines : goal.returns-in_default-clause-lines
returns-in_default-clause-lines g c = λ log agrees start taken.
    let inv = c.reading.invariant in
    let has = inv.lines start taken in
    let is = log_of (c.in_default.ensures.given ∙ inv.gave.grown) agrees in (
      has.meanings,
      (c.rest.ensures.well c.if-not-rest.false start has.meanings has.taken).0,
      omega (arith, is.count, inv.given),
      omega (arith, is.count, is.long),
      (c.reading.scanner, subst (λ b. StandsAfter b has.meanings c.reading.scanner) (is.front ∙ ap (λ k. take k log) (sym is.count)) has.stands),
    )

pub returns-then-n-eq0-clause-lines : goal.returns-then-n-eq0-clause-lines
returns-then-n-eq0-clause-lines g c = λ log agrees start taken.
    let inv = c.reading.invariant in
    let has = inv.lines start taken in
    let is = log_of (grown_none _ inv.gave.bytes c.read.new.buf c.in-Ok.n inv.gave.grown c.in-Ok.ensures.given c.if-n-eq0.true) agrees in
    let all = is.whole (c.in-Ok.ensures.over ∙ over_is c.in-Ok.n (length c.read.new.buf) c.if-n-eq0.true (omega (arith, length-take {A = ℕ}, c.max-room.ensures, c.reading.invariant.piece_len))) in
    let len = ap length all in
    let stands = subst (λ b. StandsAfter b has.meanings c.reading.scanner) all has.stands in
    feeds_to_end g.T.LineTaker.took g.T.LineTaker.rested g.T.LineTaker.broke g.T.LineTaker.stopped start c.take_last_line.result c.args.max_bytes _ log
    (c.take_last_line.new.taker, c.take_last_line.new.device)
    (omega (arith, inv.given)) (is.count ∙ len)
    (c.take_last_line.ensures.lines start log has.meanings (omega (arith, inv.given)) stands (c.rest.ensures.well c.if-not-rest.false start has.meanings has.taken).1)

pub returns-in-Err-clause-lines : goal.returns-in-Err-clause-lines
returns-in-Err-clause-lines g c = λ log agrees start taken.
    let inv = c.reading.invariant in
    let has = inv.lines start taken in
    let n = c.in-Ok.n in
    let bytes = inv.gave.bytes in
    let here = piece_of n c.read.new.buf (drop c.max-room.result c.reading.piece) c.in-Ok.ensures.bound in
    let piece = take n (c.read.new.buf ++ drop c.max-room.result c.reading.piece) in
    let room : n ≤ c.max-room.result = omega (arith, c.in-Ok.ensures.bound, length-take {A = ℕ}) in
    let few : (n ≤ 4096) × (n ≤ c.reading.left) = (omega (arith, c.min-most.ensures, c.max-room.ensures), omega (arith, c.min-most.ensures, c.max-room.ensures, c.if-left-eq0.false)) in
    let len : length (bytes ++ piece) ≡ length bytes + n = length-append bytes piece ∙ ap (λ k. length bytes + k) here.1 in
    let is = log_of (grown_more _ bytes piece inv.gave.grown (c.in-Ok.ensures.given ∙ ap (λ p. g.R.Source.given c.reading.source ++ p) (sym here.0))) agrees in
    feeds_piece g.T.LineTaker.took g.T.LineTaker.rested g.T.LineTaker.broke g.T.LineTaker.stopped start (Unit {0}) c.in-Err.fault c.args.max_bytes _ log has.meanings bytes piece
    c.reading.scanner c.take_lines.new.scanner (c.take_lines.new.taker, c.take_lines.new.device)
    has.stands is.front is.count
    (omega (arith, is.count, inv.given, few.1)) (omega (arith, few.0, here.1))
    (c.in-Err.ensures.lines start bytes has.meanings has.stands (c.rest.ensures.well c.if-not-rest.false start has.meanings has.taken).1)

pub reading-init : goal.reading-init
reading-init g c = record {
  within = omega arith;
  piece_len = refl;
  gave = gave_nothing (g.R.Source.given c.args.source.now) (g.R.Source.remaining c.args.source.now);
  ended = λ first. first;
  given = omega arith;
  reads = omega arith;
  failures = refl;
  taken = omega (arith, ap (λ s. s.taken) c.new-scanner.ensures);
  lines = λ start taken. record {
    meanings = [];
    stands = subst (StandsAfter [] []) (sym c.new-scanner.ensures) start_stands;
    taken = taken;
    counted = omega arith;
  };
  eager = λ start taken sure.
      record { front = []; rest = []; meanings = []; standing = c.new-scanner.result; parts = refl; stands = subst (StandsAfter [] []) (sym c.new-scanner.ensures) start_stands; near = omega arith; written = sure };
}

pub reading-preserved : goal.reading-preserved
reading-preserved g c =
    let inv = c.reading.invariant in
    let n = c.in-Ok.n in
    let here = piece_of n c.read.new.buf (drop c.max-room.result c.reading.piece) c.in-Ok.ensures.bound in
    let piece = take n (c.read.new.buf ++ drop c.max-room.result c.reading.piece) in
    let room : n ≤ c.max-room.result = omega (arith, c.in-Ok.ensures.bound, length-take {A = ℕ}) in
    let few : n ≤ c.reading.left = omega (arith, c.min-most.ensures, c.max-room.ensures, c.if-left-eq0.false) in
    let len : length (inv.gave.bytes ++ piece) ≡ length inv.gave.bytes + n = length-append inv.gave.bytes piece ∙ ap (λ k. length inv.gave.bytes + k) here.1 in
    record {
      within = omega arith;
      piece_len = omega (arith, length-append {A = ℕ}, length-drop {A = ℕ}, length-take {A = ℕ}, c.min-most.ensures, c.max-room.ensures, inv.piece_len);
      gave = gave_more piece inv.gave (c.in-Ok.ensures.given ∙ ap (λ p. g.R.Source.given c.reading.source ++ p) (sym here.0))
          (subst (λ p. Consumes (g.R.Source.remaining c.reading.source) (g.R.Source.remaining c.read.new.self) p) (sym here.0) c.in-Ok.ensures.told.0);
      ended = λ first. some_not_over (g.R.Source.is_over c.read.new.self) c.in-Ok.n (length c.read.new.buf) c.in-Ok.ensures.over (omega (arith, c.if-n-eq0.false));
      given = omega (arith, inv.given);
      reads = omega (arith, c.in-Ok.ensures.reads, inv.reads, c.if-n-eq0.false);
      failures = c.in-Ok.ensures.failures ∙ inv.failures;
      taken = omega (arith, c.in_default-take_lines.ensures.taken, here.1, inv.taken);
      lines = λ start taken.
          let has = inv.lines start taken in
          let read = c.in_default-take_lines.ensures.lines start inv.gave.bytes has.meanings has.stands (c.rest.ensures.well c.if-not-rest.false start has.meanings has.taken).1 in
          record {
            meanings = read.0;
            stands = read.1;
            taken = read.2;
            counted = omega (arith, has.counted);
          };
      eager = λ start taken sure.
          let has = inv.lines start taken in
          let rested = c.rest.ensures.well c.if-not-rest.false start has.meanings has.taken in
          record {
            front = inv.gave.bytes;
            rest = piece;
            meanings = has.meanings;
            standing = c.reading.scanner;
            parts = refl;
            stands = has.stands;
            near = omega (arith, len, c.min-most.ensures, c.max-room.ensures);
            written = c.in_default-take_lines.ensures.kept start inv.gave.bytes has.meanings has.meanings has.stands rested.1
                (c.rest.ensures.sure c.if-not-rest.false start has.meanings has.taken);
          };
    }

pub returns-then-left-eq0-clause-lines : goal.returns-then-left-eq0-clause-lines
returns-then-left-eq0-clause-lines g c = λ log agrees start taken.
    let inv = c.reading.invariant in
    let has = inv.lines start taken in
    let bytes = inv.gave.bytes in
    let n = c.in-Ok.n in
    let piece = take n c.read.new.buf in
    let full : length bytes ≡ c.args.max_bytes = omega (arith, inv.given, c.if-left-eq0.true) in
    let is = log_of (grown_more _ bytes piece inv.gave.grown c.in-Ok.ensures.given) agrees in
    let len : length (bytes ++ piece) ≡ length bytes + length piece = length-append bytes piece in
    let size = length-take n c.read.new.buf in
    let some : 1 ≤ length piece = omega (arith, c.in-Ok.ensures.bound, c.if-n-eq0.false) in
    let front = front_of_log bytes piece is in (
      has.meanings,
      (c.rest.ensures.well c.if-not-rest.false start has.meanings has.taken).1,
      omega (arith, is.long),
      omega (arith, is.count),
      (c.reading.scanner, subst (λ b. StandsAfter b has.meanings c.reading.scanner) (front ∙ ap (λ k. take k log) full) has.stands),
    )

pub returns-then-n-eq0-clause-over : goal.returns-then-n-eq0-clause-over
returns-then-n-eq0-clause-over g c =
    when_ok c.take_last_line.result (c.in-Ok.ensures.over ∙ over_is c.in-Ok.n (length c.read.new.buf) c.if-n-eq0.true (omega (arith, length-take {A = ℕ}, c.max-room.ensures, c.reading.invariant.piece_len)))

pub returns-in_default-clause-ended : goal.returns-in_default-clause-ended
returns-in_default-clause-ended g c = λ first. not_over (g.R.Source.is_over c.read.new.self) c.in_default.ensures.over

pub returns-then-n-eq0-clause-ended : goal.returns-then-n-eq0-clause-ended
returns-then-n-eq0-clause-ended g c = λ first over. c.in-Ok.ensures.told.1 c.if-n-eq0.true (omega (arith, length-take {A = ℕ}, c.max-room.ensures, c.reading.invariant.piece_len))

pub returns-in-Err-clause-ended : goal.returns-in-Err-clause-ended
returns-in-Err-clause-ended g c = λ first.
    some_not_over (g.R.Source.is_over c.read.new.self) c.in-Ok.n (length c.read.new.buf) c.in-Ok.ensures.over (omega (arith, c.if-n-eq0.false))

pub returns-then-left-eq0-clause-ended : goal.returns-then-left-eq0-clause-ended
returns-then-left-eq0-clause-ended g c = λ first.
    some_not_over (g.R.Source.is_over c.read.new.self) c.in-Ok.n (length c.read.new.buf) c.in-Ok.ensures.over (omega (arith, c.if-n-eq0.false))

pub returns-in_default-clause-near : goal.returns-in_default-clause-near
returns-in_default-clause-near g c = λ log agrees start taken.
    let inv = c.reading.invariant in
    let is = log_of (c.in_default.ensures.given ∙ inv.gave.grown) agrees in
    reads_near (inv.lines start taken) is.front (omega (arith, is.count, inv.given)) (λ risen. omega (arith, is.count, inv.given))

pub returns-then-n-eq0-clause-near : goal.returns-then-n-eq0-clause-near
returns-then-n-eq0-clause-near g c = λ log agrees start taken.
    let inv = c.reading.invariant in
    let is = log_of (grown_none _ inv.gave.bytes c.read.new.buf c.in-Ok.n inv.gave.grown c.in-Ok.ensures.given c.if-n-eq0.true) agrees in
    reads_near (inv.lines start taken) is.front (omega (arith, is.count, inv.given)) (λ risen. omega (arith, c.in-Ok.ensures.failures, inv.failures))

pub returns-in-Err-clause-near : goal.returns-in-Err-clause-near
returns-in-Err-clause-near g c = λ log agrees start taken.
    let inv = c.reading.invariant in
    let bytes = inv.gave.bytes in
    let piece = take c.in-Ok.n c.read.new.buf in
    let is = log_of (grown_more _ bytes piece inv.gave.grown c.in-Ok.ensures.given) agrees in
    let len = length-append bytes piece in
    let size = length-take c.in-Ok.n c.read.new.buf in
    reads_near (inv.lines start taken) (front_of_log bytes piece is)
    (omega (arith, is.count, inv.given, c.in-Ok.ensures.bound, c.min-most.ensures, c.max-room.ensures, length-take {A = ℕ}))
    (λ risen. omega (arith, c.in-Ok.ensures.failures, inv.failures))

pub returns-then-left-eq0-clause-near : goal.returns-then-left-eq0-clause-near
returns-then-left-eq0-clause-near g c = λ log agrees start taken.
    let inv = c.reading.invariant in
    let bytes = inv.gave.bytes in
    let piece = take c.in-Ok.n c.read.new.buf in
    let is = log_of (grown_more _ bytes piece inv.gave.grown c.in-Ok.ensures.given) agrees in
    let len = length-append bytes piece in
    let size = length-take c.in-Ok.n c.read.new.buf in
    reads_near (inv.lines start taken) (front_of_log bytes piece is)
    (omega (arith, is.count, inv.given, c.in-Ok.ensures.bound, c.min-most.ensures, c.max-room.ensures, c.if-left-eq0.true, length-take {A = ℕ}))
    (λ risen. omega (arith, c.in-Ok.ensures.failures, inv.failures))

pub returns-then-not-rest-clause-lines : goal.returns-then-not-rest-clause-lines
returns-then-not-rest-clause-lines g c = λ log agrees start taken.
    let inv = c.reading.invariant in
    let has = inv.lines start taken in
    let is = log_of inv.gave.grown agrees in (
      has.meanings,
      (c.rest.ensures.wrong c.if-not-rest.true start has.meanings has.taken),
      omega (arith, is.count, inv.given),
      omega (arith, is.count, is.long),
      (c.reading.scanner, subst (λ b. StandsAfter b has.meanings c.reading.scanner) (is.front ∙ ap (λ k. take k log) (sym is.count)) has.stands),
    )

pub returns-then-not-rest-clause-near : goal.returns-then-not-rest-clause-near
returns-then-not-rest-clause-near g c = λ log agrees start taken.
    let inv = c.reading.invariant in
    let is = log_of inv.gave.grown agrees in
    reads_near (inv.lines start taken) is.front (omega (arith, is.count, inv.given)) (λ risen. omega (arith, inv.failures))

pub returns-in_default-clause-takes : goal.returns-in_default-clause-takes
returns-in_default-clause-takes g c = λ start taken. (let has = c.reading.invariant.lines start taken in (has.meanings, (c.rest.ensures.well c.if-not-rest.false start has.meanings has.taken).0))

pub returns-then-n-eq0-clause-takes : goal.returns-then-n-eq0-clause-takes
returns-then-n-eq0-clause-takes g c = λ start taken.
    let has = c.reading.invariant.lines start taken in
    let short : length c.reading.invariant.gave.bytes ≤ 2 ^ 61 = omega (arith, has.counted) in
    feeds_some_at_end g.T.LineTaker.took g.T.LineTaker.rested g.T.LineTaker.broke g.T.LineTaker.stopped start c.take_last_line.result c.reading.invariant.gave.bytes (c.take_last_line.new.taker, c.take_last_line.new.device) short
    (c.take_last_line.ensures.lines start c.reading.invariant.gave.bytes has.meanings short has.stands (c.rest.ensures.well c.if-not-rest.false start has.meanings has.taken).1)

pub returns-in-Err-clause-takes : goal.returns-in-Err-clause-takes
returns-in-Err-clause-takes g c = λ start taken.
    let has = c.reading.invariant.lines start taken in
    feeds_some_in_piece g.T.LineTaker.took g.T.LineTaker.rested g.T.LineTaker.broke g.T.LineTaker.stopped start (Unit {0}) c.in-Err.fault has.meanings c.reading.invariant.gave.bytes _ c.take_lines.new.scanner
    (c.take_lines.new.taker, c.take_lines.new.device)
    (c.in-Err.ensures.lines start c.reading.invariant.gave.bytes has.meanings has.stands (c.rest.ensures.well c.if-not-rest.false start has.meanings has.taken).1)

pub returns-then-left-eq0-clause-takes : goal.returns-then-left-eq0-clause-takes
returns-then-left-eq0-clause-takes g c = λ start taken. (let has = c.reading.invariant.lines start taken in (has.meanings, (c.rest.ensures.well c.if-not-rest.false start has.meanings has.taken).1))

-- ---- what was due was written before each read

pub returns-then-not-rest-clause-eager : goal.returns-then-not-rest-clause-eager
returns-then-not-rest-clause-eager g c = λ log agrees start taken sure.
    let inv = c.reading.invariant in
    let is = log_of inv.gave.grown agrees in
    let before = inv.eager start taken sure in
    wrote_since g.T.LineTaker.sure start before is.rest is.parts (omega (arith, is.count)) (c.rest.ensures.kept start before.meanings before.written)

pub returns-in_default-clause-eager : goal.returns-in_default-clause-eager
returns-in_default-clause-eager g c = λ log agrees start taken sure.
    let inv = c.reading.invariant in
    let has = inv.lines start taken in
    let is = log_of (c.in_default.ensures.given ∙ inv.gave.grown) agrees in
    wrote_now g.T.LineTaker.sure start has is.rest is.parts (omega (arith, is.count)) (c.rest.ensures.sure c.if-not-rest.false start has.meanings has.taken)

pub returns-then-n-eq0-clause-eager : goal.returns-then-n-eq0-clause-eager
returns-then-n-eq0-clause-eager g c = λ log agrees start taken sure.
    let inv = c.reading.invariant in
    let has = inv.lines start taken in
    let is = log_of (grown_none _ inv.gave.bytes c.read.new.buf c.in-Ok.n inv.gave.grown c.in-Ok.ensures.given c.if-n-eq0.true) agrees in
    let rested = c.rest.ensures.well c.if-not-rest.false start has.meanings has.taken in
    wrote_now g.T.LineTaker.sure start has is.rest is.parts (omega (arith, is.count))
    (c.take_last_line.ensures.kept start inv.gave.bytes has.meanings has.meanings (omega (arith, has.counted)) has.stands rested.1 (c.rest.ensures.sure c.if-not-rest.false start has.meanings has.taken))

pub returns-in-Err-clause-eager : goal.returns-in-Err-clause-eager
returns-in-Err-clause-eager g c = λ log agrees start taken sure.
    let inv = c.reading.invariant in
    let has = inv.lines start taken in
    let bytes = inv.gave.bytes in
    let piece = take c.in-Ok.n c.read.new.buf in
    let is = log_of (grown_more _ bytes piece inv.gave.grown c.in-Ok.ensures.given) agrees in
    let len = length-append bytes piece in
    let rested = c.rest.ensures.well c.if-not-rest.false start has.meanings has.taken in
    wrote_now g.T.LineTaker.sure start has (piece ++ is.rest) (is.parts ∙ append_assoc bytes piece is.rest)
    (omega (arith, is.count, c.in-Ok.ensures.bound, c.min-most.ensures, c.max-room.ensures, length-take {A = ℕ}))
    (c.in-Err.ensures.kept start bytes has.meanings has.meanings has.stands rested.1 (c.rest.ensures.sure c.if-not-rest.false start has.meanings has.taken))

pub returns-then-left-eq0-clause-eager : goal.returns-then-left-eq0-clause-eager
returns-then-left-eq0-clause-eager g c = λ log agrees start taken sure.
    let inv = c.reading.invariant in
    let has = inv.lines start taken in
    let bytes = inv.gave.bytes in
    let piece = take c.in-Ok.n c.read.new.buf in
    let is = log_of (grown_more _ bytes piece inv.gave.grown c.in-Ok.ensures.given) agrees in
    let len = length-append bytes piece in
    wrote_now g.T.LineTaker.sure start has (piece ++ is.rest) (is.parts ∙ append_assoc bytes piece is.rest)
    (omega (arith, is.count, c.in-Ok.ensures.bound, c.min-most.ensures, c.max-room.ensures, c.if-left-eq0.true, length-take {A = ℕ}))
    (c.rest.ensures.sure c.if-not-rest.false start has.meanings has.taken)
