use Rattle.std.proofs.Common.{◌<◌, sym, ap, subst, map, ◌∙◌}
use Rattle.std.specs.List.{AllByRecursion, flat_map}
use Rattle.std.proofs.lemmas.List.Elements.{All-from_get_or, recursion_from_All}
use Rattle.std.proofs.lemmas.Simd.{pick_l_whole}
use Rattle.can_log.specs.Digits.{digit}
use Rattle.can_log.proofs.WrittenDigits.{halves, halves_below, digits_of_halves}
use Rattle.can_log.proofs.digit_lanes.digits_of_bytes.Goals as goal

pub digits_of_values-requires-clause-each : goal.digits_of_values-requires-clause-each
digits_of_values-requires-clause-each c =
    let bytes = c.args.bytes.now in
    let whole = sym (pick_l_whole 0 bytes 8 c.told-bytes) in
    let small = recursion_from_All (λ b. b < 256) bytes (All-from_get_or (λ b. b < 256) bytes 0 (λ i inside. c.fits-bytes i)) in
    rw whole (subst (λ bytes. AllByRecursion (λ v. v < 16) (flat_map halves bytes)) whole (halves_below bytes small))

pub returns : goal.returns
returns c =
    let bytes = c.args.bytes.now in
    let whole = sym (pick_l_whole 0 bytes 8 c.told-bytes) in
    let small = recursion_from_All (λ b. b < 256) bytes (All-from_get_or (λ b. b < 256) bytes 0 (λ i inside. c.fits-bytes i)) in
    let lanes = rw whole at c.digits_of_values.ensures in
    lanes ∙ ap (λ bytes. map digit (flat_map halves bytes)) (sym whole) ∙ digits_of_halves bytes small
