use Rattle.std.proofs.Common.{◌-◌, length, take, drop, ap, sym, ◌∙◌}
use Rattle.uds_rules.specs.Pattern.{mask_in, few_places, in_front}
use Rattle.uds_rules.proofs.Spellings.{place_in_front, no_place_in_front, two_bytes}
use Rattle.uds_rules.proofs.pattern.+mask_in.Goals as goal

pub returns-in-Some-mask_in : goal.returns-in-Some-mask_in
returns-in-Some-mask_in n c =
    let marks = c.args.marks.now in
    let rest = take (length marks - 2) (drop 2 marks) in
    c.behind.ensures
    ∙ place_in_front c.in-Some.is_masked (mask_in rest) c.in-Some-mask_in.mask (sym c.mask_in.ensures ∙ c.in-Some-mask_in.is)
    ∙ ap (λ place. few_places (in_front place (mask_in rest))) (sym c.in-Some.is ∙ c.place_in.ensures)
    ∙ sym (ap few_places (two_bytes marks c.in-len2-up.len_at_least))

pub returns-in-None-mask_in : goal.returns-in-None-mask_in
returns-in-None-mask_in n c =
    let marks = c.args.marks.now in
    let rest = take (length marks - 2) (drop 2 marks) in
    sym (no_place_in_front c.in-Some.is_masked (mask_in rest) (sym c.mask_in.ensures ∙ c.in-None-mask_in.is))
    ∙ ap (λ place. few_places (in_front place (mask_in rest))) (sym c.in-Some.is ∙ c.place_in.ensures)
    ∙ sym (ap few_places (two_bytes marks c.in-len2-up.len_at_least))
