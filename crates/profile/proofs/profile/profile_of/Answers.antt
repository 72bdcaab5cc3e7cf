-- Memory is refused only to a profile.
use Rattle.std.proofs.Common.{◌≡◌, ◌∙◌, ◌+◌, ◌≤◌, List, Ok, length, map, ap, sym, arith}
use Rattle.std.proofs.lemmas.List.{length-map}
use Rattle.toml.specs.View.{table_view}
use Rattle.profile.specs.Answers.{parts_value}
use Rattle.profile.specs.Profile.{both, unless}
use Rattle.profile.specs.ProfileRules.{profile_rules}
use Rattle.profile.specs.Units.{profile_units}
use Rattle.profile.specs.declared.units.UnitParts.{UnitParts}
use Rattle.profile.proofs.profile.profile_of.Goals as goal

pub returns-in-Err-kept : goal.returns-in-Err-kept
returns-in-Err-kept c =
    let document = table_view c.args.document.now in
    let rules = c.in-Ok.rules in
    let units = c.in-Ok-profile_units.units.items in
    let takes = c.in-Err-kept.ensures.err in
    let slice = ap (λ (l : List UnitParts). length l) c.as_slice.ensures.value in
    let mapped = length-map units parts_value in (
      record { rules = rules; units = map parts_value units },
      ap (λ wrong. unless wrong (both (profile_rules document) (profile_units document))) (sym c.in_default.ensures)
          ∙ ap (λ rules. both rules (profile_units document)) (sym c.in-Ok.ensures) ∙ ap (both (Ok rules)) (sym c.in-Ok-profile_units.ensures),
      omega (arith, takes, slice, mapped),
    )
