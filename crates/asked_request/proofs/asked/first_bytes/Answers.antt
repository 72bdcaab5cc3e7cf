-- A list has no more elements than it has.
use Rattle.std.proofs.Common.{ap, take, ◌∙◌}
use Rattle.std.proofs.lemmas.List.{take_min}
use Rattle.asked_request.specs.Asked.{most_asked}
use Rattle.asked_request.proofs.asked.first_bytes.Goals as goal

pub returns-clause-value : goal.returns-clause-value
returns-clause-value c = ap (λ n. take n c.args.request.now) c.min.ensures ∙ take_min most_asked c.args.request.now
