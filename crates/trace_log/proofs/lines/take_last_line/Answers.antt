use Rattle.std.proofs.Common.{arith, refl, ap, sym, subst, ◌∙◌, append-nil, length, nat_lt, ◌<◌, ◌^◌, ◌++◌, ◌∷◌, []}
use Rattle.can_log.proofs.Promises.{finish_reads_end}
use Rattle.can_log.specs.Scanning.{Finishes}
use Rattle.can_log.specs.declared.scanner.Scan.{Scan}
use Rattle.can_log.specs.declared.scanner.Scan.TheVariants as scan
use Rattle.trace_log.proofs.LastBytes.{feed_behind, no_feed_behind}
use Rattle.trace_log.proofs.Pieces.{few_lines, last_number, last_stops, end_means, stops_end}
use Rattle.trace_log.proofs.lines.take_last_line.Goals as goal

pub returns-in-Err-clause-lines : goal.returns-in-Err-clause-lines
returns-in-Err-clause-lines g c = λ start log meanings small stands taken.
    let answer = subst (λ (scan : Scan). Finishes c.args.scanner.now scan c.finish.new.self) c.in-Line.is c.finish.ensures.answer in
    let number = last_number log meanings c.args.scanner.now c.finish.new.self c.in-Line.used c.in-Line.line c.in-Line.what stands answer in
    let few : length meanings < 2 ^ 62 = omega (arith, few_lines log meanings c.args.scanner.now stands) in
    stops_end g.T.LineTaker.took g.T.LineTaker.stopped start c.in-Err.fault log (c.take.new.self, c.take.new.device) c.in-Err.ensures.fault (
      meanings,
      c.in-Line.what,
      last_stops log meanings c.args.scanner.now c.finish.new.self c.in-Line.used c.in-Line.line c.in-Line.what stands answer,
      c.in-Err.ensures.err start meanings number few taken,
    )

pub returns-in-Ok-clause-lines : goal.returns-in-Ok-clause-lines
returns-in-Ok-clause-lines g c = λ start log meanings small stands taken.
    let answer = subst (λ (scan : Scan). Finishes c.args.scanner.now scan c.finish.new.self) c.in-Line.is c.finish.ensures.answer in
    let number = last_number log meanings c.args.scanner.now c.finish.new.self c.in-Line.used c.in-Line.line c.in-Line.what stands answer in
    let few : length meanings < 2 ^ 62 = omega (arith, few_lines log meanings c.args.scanner.now stands) in (
      meanings ++ c.in-Line.what ∷ [],
      (finish_reads_end log meanings c.args.scanner.now c.finish.new.self (scan.Line c.in-Line.used c.in-Line.line c.in-Line.what) stands answer).1,
      record { earlier = meanings; more = c.in-Line.what ∷ []; standing = c.args.scanner.now; stands = stands; since = refl },
      c.in-Ok.ensures.ok start meanings number few taken,
      no_feed_behind log meanings c.args.scanner.now c.finish.new.self c.in-Line.used c.in-Line.line c.in-Line.what stands answer,
    )

pub returns-in-Bad-clause-lines : goal.returns-in-Bad-clause-lines
returns-in-Bad-clause-lines g c = λ start log meanings small stands taken.
    let answer = subst (λ (scan : Scan). Finishes c.args.scanner.now scan c.finish.new.self) c.in-Bad.is c.finish.ensures.answer in
    (meanings, finish_reads_end log meanings c.args.scanner.now c.finish.new.self (scan.Bad c.in-Bad.line c.in-Bad.column) stands answer, taken)

pub returns-in-NeedMore-clause-lines : goal.returns-in-NeedMore-clause-lines
returns-in-NeedMore-clause-lines g c = λ start log meanings small stands taken. (
  meanings,
  end_means log meanings c.args.scanner.now c.finish.new.self c.finish.result stands c.finish.ensures.answer c.in-NeedMore.is,
  record { earlier = meanings; more = []; standing = c.args.scanner.now; stands = stands; since = sym (append-nil meanings) },
  taken,
  ap (nat_lt 0) c.line_count.ensures ∙ feed_behind log meanings c.args.scanner.now c.finish.new.self c.finish.result stands c.finish.ensures.answer c.in-NeedMore.is,
)

pub returns-in-Err-clause-kept : goal.returns-in-Err-clause-kept
returns-in-Err-clause-kept g c = λ start log meanings first small stands taken sure.
    let answer = subst (λ (scan : Scan). Finishes c.args.scanner.now scan c.finish.new.self) c.in-Line.is c.finish.ensures.answer in
    let number = last_number log meanings c.args.scanner.now c.finish.new.self c.in-Line.used c.in-Line.line c.in-Line.what stands answer in
    let few : length meanings < 2 ^ 62 = omega (arith, few_lines log meanings c.args.scanner.now stands) in
    c.in-Err.ensures.kept start meanings first number few taken sure

pub returns-in-Ok-clause-kept : goal.returns-in-Ok-clause-kept
returns-in-Ok-clause-kept g c = λ start log meanings first small stands taken sure.
    let answer = subst (λ (scan : Scan). Finishes c.args.scanner.now scan c.finish.new.self) c.in-Line.is c.finish.ensures.answer in
    let number = last_number log meanings c.args.scanner.now c.finish.new.self c.in-Line.used c.in-Line.line c.in-Line.what stands answer in
    let few : length meanings < 2 ^ 62 = omega (arith, few_lines log meanings c.args.scanner.now stands) in
    c.in-Ok.ensures.kept start meanings first number few taken sure
