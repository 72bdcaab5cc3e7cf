-- A service is said by its name in the table, or else by its number.
use Rattle.std.proofs.Common.{◌∙◌, subst, Some, None}
use Rattle.trace_text.proofs.NumberedNames.{service_named}
use Rattle.trace_text.proofs.name_parts.ServiceNamePart.say.Goals as goal

pub returns-in-Some : goal.returns-in-Some
returns-in-Some g c =
    subst (λ text. g.S.TextSink.says c.args.out.now text c.say.new.out)
    (service_named c.args.self.0 (Some c.in-Some.name.now) c.in-Some.ensures) c.say.ensures

pub returns-in-None : goal.returns-in-None
returns-in-None g c =
    subst (λ text. g.S.TextSink.says c.args.out.now text c.put.new.self)
    (c.numbered_service.ensures ∙ service_named c.args.self.0 None c.in-None.ensures) c.put.ensures
