-- Each place adds its text.
use Rattle.std.proofs.Common.{◌≡◌, Bool, true, false, List, ℕ, rules, ◌++◌, codes, ap, refl, subst, sym, ◌∙◌, append_assoc}
use Rattle.std.specs.Prelude.{if◌then◌else◌}
use Rattle.uds_rules.specs.Pattern.{mask_text, place_mark}
use Rattle.trace_text.proofs.rule_text.MaskTextPart.say.Goals as goal

-- the text of a place, by whether it is masked
place-is : (is_masked : Bool) → (if is_masked then codes ".." else codes "??") ≡ place_mark is_masked
place-is true = refl
place-is false = refl

pub places-preserved : goal.places-preserved
places-preserved g c =
    let so_far = c.places.invariant in
    let place = place_mark c.in-Some.is_masked in
    let said = subst (λ (text : List ℕ). g.S.TextSink.says c.places.out text c.say.new.out) (place-is c.in-Some.is_masked) c.say.ensures in
    let more = ap mask_text c.in-Some.ensures.first ∙ append_assoc place _ _ in (
      so_far.0 ++ place,
      so_far.1 ∙ ap (λ text. so_far.0 ++ text) more ∙ sym (append_assoc so_far.0 place (mask_text c.in-Some.behind))
          ∙ ap (λ left. (so_far.0 ++ place) ++ mask_text left) (search rules),
      g.met.S.TextSink.onward c.args.out.now c.places.out c.say.new.out so_far.0 place so_far.2 said,
    )
