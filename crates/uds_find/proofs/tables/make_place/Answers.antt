-- A new place has 0, which is what is found where there is none; and taken out again it leaves the table.
use Rattle.std.proofs.Common.{ap, sym, ◌∙◌}
use Rattle.std.specs.Map.{remove_entry}
use Rattle.uds_find.specs.Finding.{is_same_unit_service}
use Rattle.uds_find.proofs.Orders.{same-unit-service, unit_service_order, unit-service-key-itself}
use Rattle.uds_find.proofs.Places.{nothing-there, number-stays, placed}
use Rattle.uds_find.proofs.Tallies.{put-and-taken}
use Rattle.uds_find.proofs.tables.make_place.Goals as goal

pub returns-clause-stays : goal.returns-clause-stays
returns-clause-stays c = λ other.
    number-stays c.args.answered.now c.insert.new.self c.args.key c.in_ok-insert.ensures.updates
    (nothing-there _ (sym c.contains_key.ensures ∙ c.if-contains_key.false)) other

pub returns-clause-old : goal.returns-clause-old
returns-clause-old c =
    ap (remove_entry (is_same_unit_service c.args.key)) c.in_ok-insert.ensures.entries
    ∙ put-and-taken unit_service_order is_same_unit_service same-unit-service c.args.key 0 c.args.answered.now.entries unit-service-key-itself
    (nothing-there _ (sym c.contains_key.ensures ∙ c.if-contains_key.false))

pub returns-clause-place : goal.returns-clause-place
returns-clause-place c = placed c.args.answered.now c.insert.new.self c.args.key 0 c.in_ok-insert.ensures.updates
