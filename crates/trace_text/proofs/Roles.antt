-- The texts of roles.
use Prim.Native.Char.{code}
use Rattle.std.proofs.Common.{◌≡◌, ℕ, ◌==◌, List, [], ◌∷◌, refl, ap, sym, ◌∙◌}
use Rattle.std.specs.Prelude.{codes, if◌then◌else◌}
use Rattle.uds_exchange.specs.Laws.{role_of_step}
use Rattle.uds_exchange.specs.Roles.{MessageRole, as_request, as_answer, as_removed, as_stray}
use Rattle.uds_exchange.specs.declared.step.Step.{Step}
use Rattle.uds_exchange.specs.declared.step.Step.TheVariants as becomes
use Rattle.trace_text.specs.Laws.{RolesHaveTexts}
use Rattle.trace_text.specs.Words.{role_text}

-- the role that a text names, by the letter with which it begins
abbrev named_role : List ℕ → MessageRole
named_role [] = as_stray
named_role (letter ∷ rest) =
    if letter == code "r" then as_request
    else if letter == code "a" then as_answer
    else if letter == code "p" then as_removed
    else as_stray

abbrev text_of_role : MessageRole → List ℕ
text_of_role as_request = codes "request"
text_of_role as_answer = codes "answer"
text_of_role as_removed = codes "pending"
text_of_role as_stray = codes "stray"

-- the text of a step names its role
named : (step : Step) → named_role (role_text step) ≡ role_of_step step
named (becomes.Request service) = refl
named becomes.Answer = refl
named becomes.Removed = refl
named becomes.Hold = refl
named becomes.Pass = refl

-- and that role has this text
told : (step : Step) → text_of_role (role_of_step step) ≡ role_text step
told (becomes.Request service) = refl
told becomes.Answer = refl
told becomes.Removed = refl
told becomes.Hold = refl
told becomes.Pass = refl

pub roles_have_texts : RolesHaveTexts
roles_have_texts one other = (
  λ same. sym (named one) ∙ (ap named_role same ∙ named other),
  λ same. sym (told one) ∙ (ap text_of_role same ∙ told other),
)
