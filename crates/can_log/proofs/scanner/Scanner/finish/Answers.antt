use Rattle.std.proofs.Common.{◌+◌, List, ℕ, ◌<◌, length, subst}
use Rattle.can_log.specs.proving.Judging.{Judged}
use Rattle.can_log.specs.Scanning.{Standing}
use Rattle.can_log.proofs.Lists.{nonempty}
use Rattle.can_log.proofs.RefusedPlaces.{unfinished}
use Rattle.can_log.proofs.ScannerSteps.{not_meant, finish_refuses, none_seen}
use Rattle.can_log.specs.Refused.{IsUnfinishedAt}
use Rattle.can_log.proofs.scanner.Scanner.finish.Goals as goal

pub returns-in_default-judgement_on : goal.returns-in_default-judgement_on
returns-in_default-judgement_on c =
    let line = c.self.inside.line.items in
    let j = subst (λ (z : List ℕ). Judged z c.judgement_on.result) c.as_slice.ensures.value c.judgement_on.ensures in
    let at = unfinished line c.len.result c.len.ensures.value c.self.invariant.legal (not_meant line c.judgement_on.result j c.in_default-judgement_on.not-Means c.self.invariant.legal) in
    record {
      answer = finish_refuses c.args.self.now c.refuse.new.self c.refuse.result (c.len.result + 1)
          (rw (← c.self.view_is) (none_seen _ c.self.inside.refused c.in_default.is)) c.refuse.ensures.result c.refuse.ensures.place
          (subst (λ (s : Standing). 0 < length s.line) c.self.view_is (nonempty line c.is_empty.result c.is_empty.ensures c.if-is_empty.false))
          (subst (λ (s : Standing). IsUnfinishedAt s.line (c.len.result + 1)) c.self.view_is at);
    }
