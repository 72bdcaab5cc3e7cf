-- What one more frame says.
use Rattle.std.proofs.Common.{◌≡◌, ◌==◌, None, Some, sym, ◌∙◌, ap, subst, rules, inl, inr}
use Rattle.std.specs.Prelude.{slice_index, slice_index_or}
use Rattle.uds_find.specs.Credit.{credited_to}
use Rattle.uds_find.specs.Finding.{number_at}
use Rattle.uds_find.specs.Asking.{is_asking, request_count}
use Rattle.uds_find.specs.proving.Steps.{IsAskedMore, IsCreditedTo, IsNewIn}
use Rattle.uds_find.specs.declared.pair.IdPair.{IdPair}
use Rattle.uds_find.proofs.Results.{err_along, ok_along}
use Rattle.uds_find.proofs.Standing.{first-of-answer, stands-answered, stands-asked, stands-silent}
use Rattle.uds_find.proofs.finder.Finder.count.Goals as goal

pub returns-in-None-clause-ok : goal.returns-in-None-clause-ok
returns-in-None-clause-ok c = λ frames small stands.
    stands-silent frames c.args.frame.now c.args.self.now (sym c.mention_of.ensures ∙ c.in-None.is) stands

pub returns-in-Some-Asks-clause-ok : goal.returns-in-Some-Asks-clause-ok
returns-in-Some-Asks-clause-ok c = ok_along c.ask.result c.ask.ensures.ok (λ asked frames small stands.
    let said = sym c.mention_of.ensures ∙ c.in-Some-Asks.is ∙ ap Some c.in-Some-Asks.field-0-is in
    stands-asked frames c.args.frame.now c.in-Some-Asks.service said (search rules) c.args.self.now c.ask.new.self small
    (subst (λ asker. IsAskedMore c.in-Some-Asks.service asker c.args.self.now c.ask.new.self) c.id.ensures asked) stands)

pub returns-in-Some-Answers-clause-ok : goal.returns-in-Some-Answers-clause-ok
returns-in-Some-Answers-clause-ok c = ok_along c.credit.result c.credit.ensures.ok (λ credited frames small stands.
    let said = sym c.mention_of.ensures ∙ c.in-Some-Answers.is ∙ ap Some c.in-Some-Answers.field-0-is in
    let service = c.in-Some-Answers.service in
    let old = c.args.self.now in
    stands-answered frames c.args.frame.now service said (search rules) old c.credit.new.self small
    (subst (λ unit. IsCreditedTo service unit
    (credited_to (slice_index_or old.askers service None) unit
    (number_at old.answered (record { unit = unit; service = service }) == slice_index old.askings service)) old c.credit.new.self)
    c.id-in-Some-Answers.ensures credited) stands)

pub returns-in-Some-Asks-clause-needs : goal.returns-in-Some-Asks-clause-needs
returns-in-Some-Asks-clause-needs c = err_along c.ask.result c.ask.ensures.needs (λ needed frames stands.
    let said = sym c.mention_of.ensures ∙ c.in-Some-Asks.is ∙ ap Some c.in-Some-Asks.field-0-is in
    inl (ap is_asking said, subst (λ asker. request_count frames asker ≡ 0) c.id.ensures (needed frames stands)))

pub returns-in-Some-Answers-clause-needs : goal.returns-in-Some-Answers-clause-needs
returns-in-Some-Answers-clause-needs c = err_along c.credit.result c.credit.ensures.needs (λ needed frames stands.
    let said = sym c.mention_of.ensures ∙ c.in-Some-Answers.is ∙ ap Some c.in-Some-Answers.field-0-is in
    let service = c.in-Some-Answers.service in
    let old = c.args.self.now in
    let needs = subst (λ unit. (pair : IdPair) × (credited_to (slice_index_or old.askers service None) unit
    (number_at old.answered (record { unit = unit; service = service }) == slice_index old.askings service) ≡ Some pair)
    × IsNewIn old.answered old.credits (record { unit = unit; service = service }) pair)
    c.id-in-Some-Answers.ensures needed in
    inr (first-of-answer frames c.args.frame.now service said (search rules) old needs.0 stands needs.1 needs.2))
