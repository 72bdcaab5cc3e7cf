-- What holds of answers that stand beside each other, whatever answers there are.
use Rattle.std.specs.Prelude.{◌≡◌, ◌⊎◌, ◌<◌, ◌≤◌, ℕ, true, List, [], ◌∷◌, ◌++◌, Some, None}
use Rattle.std.specs.List.{AllByRecursion}
use Rattle.slow_answers.specs.declared.longer.AnswerBeside.{AnswerBeside}
use Rattle.slow_answers.specs.Longer.{longer_answers, longer_behind, none_longer, slowest_one, took_much_longer}

-- of two answers beside each other at most one took much longer than the other
abbrev pub NeverLongerBothWays : Type 0
NeverLongerBothWays = (one other : ℕ) → took_much_longer one other ≡ true → took_much_longer other one ≡ true → ⊥

-- an answer is one of these: those before it took less long, and those behind it no longer
pub record IsSlowestOf (answers : List AnswerBeside) (here : AnswerBeside) : Type 0 where
  pub before : List AnswerBeside
  pub behind : List AnswerBeside
  pub stands : answers ≡ before ++ here ∷ behind
  pub earlier : AllByRecursion (λ (other : AnswerBeside). other.micros < here.micros) before
  pub later : AllByRecursion (λ (other : AnswerBeside). other.micros ≤ here.micros) behind

-- where there are answers, one is told as the slowest: it is one of them, none took longer, and of equal ones it is the first
abbrev pub SlowestIsOneOfThem : Type 0
SlowestIsOneOfThem = (answers : List AnswerBeside)
    → ((answers ≡ []) × (slowest_one answers ≡ None)) ⊎ ((here : AnswerBeside) × (slowest_one answers ≡ Some here) × IsSlowestOf answers here)

-- what is known of answers is what is found of them one after another
abbrev pub LongerAreFoundOneByOne : Type 0
LongerAreFoundOneByOne = (answers : List AnswerBeside) → longer_behind none_longer answers ≡ longer_answers answers
