use Rattle.std.proofs.Common.{sym, ap, ◌∙◌, arith}
use Rattle.uds_rules.proofs.Bits.{first_place, fewer_places}
use Rattle.uds_rules.proofs.mask.Mask.split_first.Goals as goal

pub invariant_of-rest : goal.invariant_of-rest
invariant_of-rest c = fewer_places c.self.inside.count c.self.inside.masked (omega (arith, c.if-self-eq0.false)) c.self.invariant

pub returns-clause-first : goal.returns-clause-first
returns-clause-first c =
    let first = first_place c.self.inside.count c.self.inside.masked (omega (arith, c.if-self-eq0.false)) in
    sym c.self.view_is ∙ ap (λ places. record { places = places; cuts = c.self.inside.cuts }) (sym first)
