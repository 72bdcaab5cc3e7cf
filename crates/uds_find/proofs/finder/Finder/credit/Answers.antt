-- An answer is credited to who asked last, or to nobody.
use Rattle.std.proofs.Common.{refl, subst, sym, ◌∙◌, ◌==◌, ap, None}
use Rattle.std.specs.Prelude.{slice_index, slice_index_or}
use Rattle.uds_find.specs.Credit.{credited_to}
use Rattle.uds_find.specs.Finding.{FinderValue, number_at}
use Rattle.uds_find.specs.proving.Steps.{IsCreditedTo}
use Rattle.uds_find.proofs.finder.Finder.credit.Goals as goal

pub returns-in_ok-credit_once-clause-ok : goal.returns-in_ok-credit_once-clause-ok
returns-in_ok-credit_once-clause-ok c =
    let service = c.args.service in
    let unit = c.args.unit in
    let old : FinderValue = record {
      askers = c.self.inside.askers;
      askings = c.self.inside.askings;
      answered = c.self.inside.answered.entries;
      credits = c.self.inside.credits.entries;
      requests = c.self.inside.requests.entries;
      functional = c.self.inside.functional.keys;
    } in
    let new : FinderValue = record {
      askers = c.self.inside.askers;
      askings = c.self.inside.askings;
      answered = c.credit_once.new.answered.entries;
      credits = c.credit_once.new.credits.entries;
      requests = c.self.inside.requests.entries;
      functional = c.self.inside.functional.keys;
    } in
    let to = ap (λ n. credited_to (slice_index_or c.self.inside.askers service None) unit (n == slice_index c.self.inside.askings service))
    (sym c.last_answered.ensures)
    ∙ sym c.credited_to.ensures ∙ c.in-Some.is in
    subst (λ (value : FinderValue). IsCreditedTo service unit
    (credited_to (slice_index_or value.askers service None) unit
    (number_at value.answered (record { unit = unit; service = service }) == slice_index value.askings service)) value new) c.self.view_is
    (subst (λ pair. IsCreditedTo service unit pair old new) (sym to) (record {
      askers = refl;
      askings = refl;
      answered = c.in_ok-credit_once.ensures.number;
      places = c.in_ok-credit_once.ensures.place;
      credits = c.in_ok-credit_once.ensures.count;
      requests = refl;
    }))
