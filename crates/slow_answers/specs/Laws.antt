-- What holds of the slowest answers, whatever answers there are.
use Rattle.std.specs.Prelude.{◌≡◌, ⊤, ℕ, ◌==◌, ◌≤◌, List, [], ◌∷◌, filter}
use Rattle.std.specs.List.{AllByRecursion}
use Rattle.slow_answers.specs.declared.answer.SlowAnswer.{SlowAnswer}
use Rattle.slow_answers.specs.Slowest.{slowest_first}

-- each answer was waited for at least as long as those behind it
abbrev pub Descends : List SlowAnswer → Type 0
Descends [] = ⊤
Descends (first ∷ rest) = AllByRecursion (λ other. other.micros ≤ first.micros) rest × Descends rest

-- the slowest answers come first
abbrev pub SlowestComeFirst : Type 0
SlowestComeFirst = (answers : List SlowAnswer) → Descends (slowest_first answers)

-- those answers that were waited for so long
abbrev pub equal_ones : ℕ → List SlowAnswer → List SlowAnswer
equal_ones micros answers = filter (λ answer. answer.micros == micros) answers

-- equal ones stay in the order in which they came, and none is lost or made up
abbrev pub EqualOnesStayInOrder : Type 0
EqualOnesStayInOrder = (answers : List SlowAnswer) (micros : ℕ) → equal_ones micros (slowest_first answers) ≡ equal_ones micros answers
