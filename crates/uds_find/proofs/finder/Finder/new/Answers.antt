-- Before the first frame nobody asked, and nothing is counted.
use Rattle.uds_find.proofs.Starting.{no-credits, no-requests, nobody-asked, nothing-answered, nothing-asked-for, nothing-functional}
use Rattle.uds_find.proofs.Starting.{nowhere-answered}
use Rattle.uds_find.proofs.finder.Finder.new.Goals as goal

pub returns : goal.returns
returns c = record {
  counted = record {
    askers = nobody-asked;
    askings = nothing-asked-for;
    answered = nothing-answered _ c.new.ensures.empty;
    places = nowhere-answered _ c.new.ensures.empty;
    credits = no-credits c.new-2.result c.new-2.ensures.empty c.new-2.ensures.ordered;
    requests = no-requests c.new-3.result c.new-3.ensures.empty c.new-3.ensures.ordered;
  };
  functional = nothing-functional _ c.new-4.ensures.empty;
}
