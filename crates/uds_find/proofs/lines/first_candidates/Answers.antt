-- One entry after another.
use Rattle.std.proofs.Common.{◌≡◌, ap, sym, ◌∙◌, None}
use Rattle.std.proofs.lemmas.Map.Iter.{rest_all, rest_more}
use Rattle.std.specs.Map.{lookup}
use Rattle.std.specs.Map.Iter.{deref_pair}
use Rattle.uds_find.specs.Credit.{is_same}
use Rattle.uds_find.specs.proving.Steps.{candidate_of, first_among, first_of}
use Rattle.uds_find.proofs.Firsts.{first-step}
use Rattle.uds_find.proofs.Kept.{is-there}
use Rattle.uds_find.proofs.Orders.{id_order, same-id}
use Rattle.uds_find.proofs.Tallies.{found-key, keys-once}
use Rattle.uds_find.proofs.lines.first_candidates.Goals as goal

pub pairs-init : goal.pairs-init
pairs-init c =
    let gives : c.into_iter-pair-iterator.result ≡ c.args.credits.now.entries = c.into_iter-pair-iterator.ensures.into_iter_gives.0 in
    record {
      first = λ unit.
          ap (λ es. first_among c.args.functional.now.keys unit (lookup (is_same unit) es) c.into_iter-pair-iterator.result) c.new-candidates.ensures.empty
          ∙ ap (first_among c.args.functional.now.keys unit None) gives;
      once = keys-once id_order is_same same-id _ c.new-candidates.ensures.ordered;
    }

pub pairs-preserved : goal.pairs-preserved
pairs-preserved c =
    let more = rest_more deref_pair c.pairs.pair-iterator c.next.new.self c.next.result
    (c.in-Some.pair, c.in-Some.counted) c.in-Some.is c.next.ensures.steps in
    let told = ap (λ b. first_of c.copied.result (record { tester = c.in-Some.pair.now.tester; credits = c.in-Some.counted.now; functional = b }))
    (c.contains.ensures ∙ is-there c.in-Some.pair.now.tester c.args.functional.now.keys) in
    let is = c.first_of-first.ensures ∙ told ∙ ap (λ best. first_of best (candidate_of c.args.functional.now.keys (c.in-Some.pair.now, c.in-Some.counted.now)))
    (c.copied.ensures ∙ c.get.ensures.value ∙ found-key id_order is_same same-id c.in-Some.pair.now.unit c.pairs.candidates.entries) in
    record {
      first = λ unit.
          first-step c.args.functional.now.keys c.pairs.candidates c.insert.new.self (c.in-Some.pair.now, c.in-Some.counted.now) c.first_of-first.result
          c.in_ok-insert.ensures.updates is unit c.next.new.self
          ∙ ap (first_among c.args.functional.now.keys unit (lookup (is_same unit) c.pairs.candidates.entries)) (sym more) ∙ c.pairs.invariant.first unit;
      once = keys-once id_order is_same same-id _ c.in_ok-insert.ensures.ordered;
    }

pub returns-clause-each : goal.returns-clause-each
unfolding first_among
returns-clause-each c = λ unit.
    let none = rest_all deref_pair c.pairs.pair-iterator c.next.new.self c.next.result c.in-None.is c.next.ensures.steps in
    sym (ap (first_among c.args.functional.now.keys unit (lookup (is_same unit) c.pairs.candidates.entries)) none) ∙ c.pairs.invariant.first unit
