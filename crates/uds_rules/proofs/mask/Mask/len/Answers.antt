use Rattle.std.proofs.Common.{length, sym, ap, ◌∙◌}
use Rattle.uds_rules.specs.proving.Bits.{places_length}
use Rattle.uds_rules.proofs.mask.Mask.len.Goals as goal

pub returns-clause-value : goal.returns-clause-value
returns-clause-value c =
    sym (ap (λ mask. length mask.places) (sym c.self.view_is) ∙ places_length c.self.inside.count c.self.inside.masked)
