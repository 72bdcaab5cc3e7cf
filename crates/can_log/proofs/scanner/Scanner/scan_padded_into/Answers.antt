use Rattle.std.proofs.Common.{◌≡◌, refl, ◌++◌, ◌+◌, ◌∙◌, ◌-◌, take, length, List, ℕ, Some, None, ap, arith, subst, length-take, sym}
use Rattle.can_log.specs.Line.{LineMeans, stamped_of, parts_in}
use Rattle.can_log.specs.proving.Plain.{spelling_of}
use Rattle.can_log.specs.proving.Padded.{line_feeds}
use Rattle.can_log.specs.Refused.{HasCompletion}
use Rattle.can_log.specs.Scanning.{Standing, Scans}
use Rattle.can_log.specs.declared.scanner.Scan.{Scan}
use Rattle.can_log.specs.declared.scanner.Scan.TheVariants as scan
use Rattle.can_log.proofs.LineFeeds.{clean_append, clean_before, clean_all}
use Rattle.can_log.proofs.PaddedLines.{padded_means}
use Rattle.can_log.proofs.ScannerSteps.{scan_means_at, scan_goes_on, none_of, none_seen}
use Rattle.can_log.proofs.scanner.Scanner.scan_padded_into.Goals as goal

pub returns : goal.returns
returns c =
    let m = c.in-Some.ensures in
    let line = c.self.inside.line.items in
    let piece = c.args.piece.now in
    let at = c.in-Some.at in
    let front = take at piece in
    let found = c.in-Some-any_plain_line in
    let clean = clean_before at piece (λ k lt e. m.0.before k (omega arith) lt e) in
    let whole = clean_append line front c.self.invariant.clean clean in
    let short = length-take at piece in
    let room = 195 - (length line + length front) in
    let lies : c.put_line.new.padded ≡ (line ++ front) ++ line_feeds room =
    rw (← c.as_slice-2.ensures.value) c.put_line.ensures
    in
    let means = padded_means (line ++ front) found.field-0-1.now room found.fields whole (omega arith) (sym lies ∙ found.ensures.line) found.ensures.legal in
    let what = Some (stamped_of (parts_in (spelling_of found.fields))) in
    let told = subst (λ (s : Standing). LineMeans (s.line ++ front) what) c.self.view_is means in
    let none : c.args.self.now.refused ≡ None =
    rw (← c.self.view_is) (none_seen _ c.self.inside.refused (none_of c.self.inside.refused c.is_some.result c.is_some.ensures c.if-is_some.false))
    in
    let new = c.end_line.new.self in
    let scans = scan_means_at c.args.self.now new piece at what none m.0.high m.1 clean told c.end_line.ensures in
    let is = c.answer_plain.ensures ∙ ap (λ (s : Standing). scan.Line (at + 1) s.lines what) c.self-2.view_is in
    record {
      answer = λ _. subst (λ (a : Scan). Scans c.args.self.now piece a new) (sym is) scans;
      left = λ e. absurd cc;
    }

pub returns-in_default-clause-answer : goal.returns-in_default-clause-answer
returns-in_default-clause-answer c =
    let piece = c.args.piece.now in
    let clean = clean_all piece (λ k lt e. c.in_default.ensures k (omega arith) lt e) in
    let legal = subst (λ (z : List ℕ). HasCompletion (z ++ piece)) c.as_slice.ensures.value (c.if-not-is_front_of_plain.ensures refl) in
    let held = subst (λ (s : Standing). HasCompletion (s.line ++ piece)) c.self.view_is legal in
    let none : c.args.self.now.refused ≡ None =
    rw (← c.self.view_is) (none_seen _ c.self.inside.refused (none_of c.self.inside.refused c.is_some.result c.is_some.ensures c.if-is_some.false))
    in
    λ _. scan_goes_on c.args.self.now c.keep.new.self piece none clean held c.keep.ensures
