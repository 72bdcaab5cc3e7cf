-- One more frame: its identifier is kept, and what it says is counted.
use Rattle.std.proofs.Common.{subst, sym}
use Rattle.uds_find.specs.Finding.{FinderValue, StandsAfter}
use Rattle.uds_find.proofs.Kept.{stands-more}
use Rattle.uds_find.proofs.finder.Finder.take.Goals as goal

pub returns-clause-ok : goal.returns-clause-ok
returns-clause-ok c = λ frames small stands.
    let old : FinderValue = record {
      askers = c.self.inside.askers;
      askings = c.self.inside.askings;
      answered = c.self.inside.answered.entries;
      credits = c.self.inside.credits.entries;
      requests = c.self.inside.requests.entries;
      functional = c.self.inside.functional.keys;
    } in
    stands-more frames c.args.frame.now old c.count.new.self c.keep_functional.new.functional.keys
    (subst (StandsAfter frames) (sym c.self.view_is) stands) c.in_ok-is_new.ensures.kept c.in_ok-is_new.ensures.sorted
    (c.in_default.ensures.ok frames small) c.in_default.ensures.functional
