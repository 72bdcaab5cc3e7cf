use Rattle.std.proofs.Common.{◌++◌, List, ℕ, ap₂, subst, ◌∙◌}
use Rattle.udsnorm.specs.Telling.{TookText}
use Rattle.udsnorm.proofs.ToldTexts.{told_both, told_front}
use Rattle.udsnorm.proofs.tell.tell_unclean_sides.Goals as goal

pub returns-in-Ok-clause-told : goal.returns-in-Ok-clause-told
returns-in-Ok-clause-told g c =
    let E = g.E.Target in
    subst (λ (text : List ℕ). TookText text (E.failures c.args.err.now) (E.failures c.tell_text.new.device) (E.taken c.args.err.now) (E.taken c.tell_text.new.device))
    (ap₂ (λ (a b : List ℕ). a ++ b) (c.as_slice.ensures.value ∙ c.unclean_side-left.ensures) (c.as_slice-in-Ok.ensures.value ∙ c.unclean_side-right.ensures))
    (told_both c.as_slice.result.now c.as_slice-in-Ok.result.now _ _ _ _ _ _ c.in-Ok.ensures.failures c.in-Ok.ensures.taken c.tell_text.ensures)

pub returns-in_default-clause-told : goal.returns-in_default-clause-told
returns-in_default-clause-told g c =
    let E = g.E.Target in
    subst (λ (text : List ℕ). TookText text (E.failures c.args.err.now) (E.failures c.write_all.new.target) (E.taken c.args.err.now) (E.taken c.write_all.new.target))
    (ap₂ (λ (a b : List ℕ). a ++ b) (c.as_slice.ensures.value ∙ c.unclean_side-left.ensures) c.unclean_side-right.ensures)
    (told_front c.as_slice.result.now c.unclean_side-right.result.items _ _ _ _ c.in_default.ensures.failures c.in_default.ensures.taken)
