-- A reason with numbers has them as members; every other one is a word.
use Rattle.std.proofs.Common.{◌≡◌, refl, ap, sym, subst, inl, inr, ◌∙◌}
use Rattle.isotp_receive.specs.declared.event.Reason.{Reason}
use Rattle.trace_text.specs.RemarkLines.{named_reason, reason_members, reason_text}
use Rattle.trace_text.specs.Json.{later_text}
use Rattle.trace_text.proofs.RemarkObjects.{announced_reason, named_is, sequence_reason}
use Rattle.trace_text.proofs.remark_objects.ReasonMembersPart.say.Goals as goal

pub returns-in-NextSequence : goal.returns-in-NextSequence
returns-in-NextSequence g c =
    subst (λ text. g.S.TextSink.says c.args.out.now text c.say.new.out)
    (sequence_reason c.in-NextSequence.expected c.in-NextSequence.found _ _ c.from.ensures c.from-in-NextSequence.ensures
    ∙ ap (λ (why : Reason). later_text (reason_members why)) (sym c.in-NextSequence.is))
    c.say.ensures

pub returns-in-TooLong : goal.returns-in-TooLong
returns-in-TooLong g c =
    subst (λ text. g.S.TextSink.says c.args.out.now text c.say-in-TooLong.new.out)
    (announced_reason c.in-TooLong.announced ∙ ap (λ (why : Reason). later_text (reason_members why)) (sym c.in-TooLong.is)) c.say-in-TooLong.ensures

pub returns-in-Pdu : goal.returns-in-Pdu
returns-in-Pdu g c =
    let why = c.args.self.0 in
    let alone = λ (why : Reason). named_reason (reason_text why) ≡ reason_members why in
    let is : alone why =
    elim c.in-Pdu.is [
      | inl pdu ↦ subst alone (sym pdu.1) refl
      | inr rest ↦ elim rest [
        | inl flow ↦ subst alone (sym flow) refl
        | inr rest ↦ elim rest [
          | inl unexpected ↦ subst alone (sym unexpected) refl
          | inr rest ↦ elim rest [
            | inl late ↦ subst alone (sym late) refl
            | inr rest ↦ elim rest [
              | inl length ↦ subst alone (sym length) refl
              | inr to_all ↦ subst alone (sym to_all) refl
            ]
          ]
        ]
      ]
    ] in
    subst (λ text. g.S.TextSink.says c.args.out.now text c.say-in-Pdu.new.out) (named_is (reason_text why) ∙ ap later_text is) c.say-in-Pdu.ensures
