use Rattle.std.proofs.Common.{rules, ◌≡◌, ◌∙◌, ◌++◌, ◌∷◌, ap, map, subst, sym}
use Rattle.std.specs.Prelude.{string_bytes}
use Rattle.std.specs.List.{flat_map}
use Rattle.profile.specs.Answers.{unit_value}
use Rattle.asked_profile.specs.Choice.{name_behind, unit_names}
use Rattle.asked_profile.proofs.Told.{told_each}
use Rattle.asked_profile.proofs.unit_names.UnitNamesPart.say.Goals as goal

pub returns-in-Some : goal.returns-in-Some
returns-in-Some g c =
    let split : c.args.self.0.now ≡ c.in-Some.one.now ∷ c.in-Some.rest.now = search rules in
    let said = ap (λ name. name ++ flat_map (λ one. name_behind (unit_value one)) c.in-Some.rest.now) c.as_str.ensures.value
    ∙ ap (λ rest. string_bytes c.in-Some.one.now.name ++ rest) (told_each unit_value name_behind c.in-Some.rest.now)
    ∙ sym (ap (λ units. unit_names (map unit_value units)) split)
    in
    subst (λ text. g.S.TextSink.says c.args.out.now text c.say.new.out) said c.say.ensures
