use Rattle.std.proofs.Common.{◌≡◌, ◌++◌, arith, refl, subst, length-append, sym}
use Rattle.can_log.specs.Refused.{HasCompletion}
use Rattle.can_log.specs.Scanning.{Standing}
use Rattle.can_log.proofs.Results.{from_ok}
use Rattle.can_log.proofs.LineLength.{becomes_length}
use Rattle.can_log.proofs.LineFeeds.{clean_append}
use Rattle.can_log.proofs.scanner.Scanner.keep.Goals as goal

kept : (c : goal.After-self-1) → c.try_extend_from_slice.new.self.items ≡ c.self.inside.line.items ++ c.args.piece.now
kept c =
    let line = c.self.inside.line.items in
    let piece = c.args.piece.now in
    let legal = subst (λ (s : Standing). HasCompletion (s.line ++ piece)) (sym c.self.view_is) c.requires.legal in
    let room = c.try_extend_from_slice.ensures.variant.1 (omega (arith, becomes_length (line ++ piece) legal, length-append line piece)) in
    from_ok c.try_extend_from_slice.result c.try_extend_from_slice.ensures.ok room

pub invariant_of-self : goal.invariant_of-self
invariant_of-self c =
    let line = c.self.inside.line.items in
    let piece = c.args.piece.now in
    record {
      counted = rw (kept c) (omega (arith, c.self.invariant.counted, length-append line piece));
      clean = rw (kept c) (clean_append line piece c.self.invariant.clean c.requires.clean);
      legal = rw (kept c) (subst (λ (s : Standing). HasCompletion (s.line ++ piece)) (sym c.self.view_is) c.requires.legal);
    }

pub returns : goal.returns
returns c = rw (← c.self.view_is, kept c) refl
