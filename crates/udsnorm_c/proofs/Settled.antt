-- What holds under settings that there are, or of why there are none, and in a style that there is.
use Rattle.std.proofs.Common.{◌≡◌, ℕ, List, Option, Some, Result, Ok, Err, subst, sym}
use Rattle.std.specs.Prelude.{MatchResult}
use Rattle.trace_log.specs.Settings.{Settings}
use Rattle.udsnorm_c.specs.Answered.{IsRefusalPut, Styled, UnderSettings}
use Rattle.udsnorm_c.specs.Given.{Configured, GivenValue}
use Rattle.udsnorm_c.specs.declared.answer.UdsnormAnswer.{UdsnormAnswer}
use Rattle.udsnorm_c.specs.declared.given.NoConfig.{NoConfig}

module _ (Holds : Settings → Type 0) (given : GivenValue) (old new : List ℕ) (reply : UdsnormAnswer) (answer : Result Settings NoConfig) (configured : Configured given answer) where
  pub under_settings : (settings : Settings) → answer ≡ Ok settings → Holds settings → UnderSettings given Holds old new reply
  under_settings settings is holds =
      (answer, configured, subst (λ (r : Result Settings NoConfig). MatchResult r Holds (λ why. IsRefusalPut why old new reply)) (sym is) holds)

  pub under_none : (why : NoConfig) → answer ≡ Err why → IsRefusalPut why old new reply → UnderSettings given Holds old new reply
  under_none why is put =
      (answer, configured, subst (λ (r : Result Settings NoConfig). MatchResult r Holds (λ why. IsRefusalPut why old new reply)) (sym is) put)

pub in_style : {A : Type 0} (found : Option A) (style : A) (Holds : A → Type 0) (old new : List ℕ) (answer : UdsnormAnswer) → found ≡ Some style → Holds style
    → Styled found Holds old new answer
in_style {A = A} found style Holds old new answer is holds = subst (λ (f : Option A). Styled f Holds old new answer) (sym is) holds
