-- The lines of the tables, ordered.
use Rattle.std.proofs.Common.{subst, sym}
use Rattle.uds_find.specs.Finding.{StandsAfter}
use Rattle.uds_find.proofs.Listing.{credit-lines, some-line}
use Rattle.uds_find.proofs.Needing.{tallied-credit}
use Rattle.uds_find.proofs.Orders.{lines-sorted}
use Rattle.uds_find.proofs.Results.{when_err}
use Rattle.uds_find.proofs.finder.Finder.finish.Goals as goal

pub returns-clause-lines : goal.returns-clause-lines
returns-clause-lines c = λ frames stands.
    let stood = subst (StandsAfter frames) (sym c.self.view_is) stands in
    credit-lines frames c.self.inside.credits.entries c.self.inside.requests.entries c.self.inside.functional.keys
    stood.counted.credits stood.counted.requests stood.functional
    c.in_ok-candidates.candidates.entries c.in_ok-candidates.ensures.each c.in_ok-candidates.ensures.once
    _ c.sort_unstable.new.self.items c.in_ok-lines.ensures.lines c.sort_unstable.ensures.permutation
    (lines-sorted c.sort_unstable.new.self.items c.sort_unstable.ensures.sorted)

pub returns-in_err-candidates-clause-needs : goal.returns-in_err-candidates-clause-needs
returns-in_err-candidates-clause-needs c =
    when_err c.from_residual.result (λ frames stands.
    tallied-credit frames c.self.inside.credits.entries (subst (StandsAfter frames) (sym c.self.view_is) stands).counted.credits
    c.in_err-candidates.ensures.needs)

pub returns-in_err-lines-clause-needs : goal.returns-in_err-lines-clause-needs
returns-in_err-lines-clause-needs c =
    when_err c.from_residual-in_err-lines.result (λ frames stands.
    let stood = subst (StandsAfter frames) (sym c.self.view_is) stands in
    some-line frames c.self.inside.credits.entries c.self.inside.requests.entries c.self.inside.functional.keys
    stood.counted.credits stood.counted.requests stood.functional
    c.in_ok-candidates.candidates.entries c.in_ok-candidates.ensures.each c.in_ok-candidates.ensures.once c.in_err-lines.ensures.needs)
