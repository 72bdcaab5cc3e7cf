-- The identifier of a functional frame is put in, and no other; and taken out again it leaves the set.
use Rattle.std.proofs.Common.{◌≡◌, true, false, sym, ◌∙◌, subst}
use Rattle.std.specs.BTreeSet.{Updates}
use Rattle.std.specs.List.{list_any}
use Rattle.uds_find.specs.Credit.{is_same}
use Rattle.uds_find.specs.proving.Steps.{without_id}
use Rattle.uds_find.proofs.Kept.{is-there, kept-one, taken-again}
use Rattle.uds_find.proofs.Orders.{id_order}
use Rattle.uds_find.proofs.Results.{when_err}
use Rattle.uds_find.proofs.functional.keep_functional.Goals as goal

pub returns-in_ok-insert-clause-kept : goal.returns-in_ok-insert-clause-kept
returns-in_ok-insert-clause-kept c =
    kept-one c.args.frame.now c.args.functional.now c.insert.new.self (sym c.is_functional_frame.ensures ∙ c.if-is_functional_frame.true)
    (subst (λ one. Updates id_order c.args.functional.now c.insert.new.self one true) c.id.ensures c.in_ok-insert.ensures.updates)

pub returns-in_ok-insert-clause-old : goal.returns-in_ok-insert-clause-old
returns-in_ok-insert-clause-old c =
    subst (λ one. without_id one c.in_ok-insert.field-0 c.insert.new.self.keys ≡ c.args.functional.now.keys) c.id.ensures
    (taken-again c.id.result c.args.functional.now.keys c.insert.new.self.keys c.in_ok-insert.field-0
    c.in_ok-insert.ensures.added c.in_ok-insert.ensures.keys c.in_ok-insert.ensures.unchanged)

pub returns-in_err-insert-clause-needs : goal.returns-in_err-insert-clause-needs
returns-in_err-insert-clause-needs c =
    when_err c.from_residual.result (
      sym c.is_functional_frame.ensures ∙ c.if-is_functional_frame.true,
      subst (λ one. list_any (is_same one) c.args.functional.now.keys ≡ false) c.id.ensures
          (sym (is-there c.id.result c.args.functional.now.keys) ∙ c.in_err-insert.ensures.absent),
    )
