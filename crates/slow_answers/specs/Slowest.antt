-- The slowest answers of a session, the slowest one first; of equal ones the first stays first.
use Rattle.std.specs.Prelude.{ℕ, ◌+◌, List, [], ◌∷◌, take, insert, nat_lt, if◌then◌else◌}
use Rattle.slow_answers.specs.declared.answer.SlowAnswer.{SlowAnswer}

-- so many of them are kept
abbrev pub most_kept : ℕ
most_kept = 10

-- how many of these answers, the slowest one first, stand before one that so many microseconds were waited for: those up to
-- the first that is quicker
abbrev pub place_for : ℕ → List SlowAnswer → ℕ
place_for micros [] = 0
place_for micros (first ∷ rest) = if nat_lt first.micros micros then 0 else place_for micros rest + 1

-- one more answer stands before the first that is quicker, behind all others
abbrev pub with_answer : List SlowAnswer → SlowAnswer → List SlowAnswer
with_answer answers answer = insert answers (place_for answer.micros answers) answer

-- answers that were put in their places, and behind that these, each in its place
abbrev pub with_answers : List SlowAnswer → List SlowAnswer → List SlowAnswer
with_answers placed [] = placed
with_answers placed (answer ∷ rest) = with_answers (with_answer placed answer) rest

-- answers in the order in which they came, the slowest one first
abbrev pub slowest_first : List SlowAnswer → List SlowAnswer
slowest_first answers = with_answers [] answers

-- the ten slowest of them, if there are so many
abbrev pub slowest : List SlowAnswer → List SlowAnswer
slowest answers = take most_kept (slowest_first answers)

-- the ten slowest of these answers, the slowest one first, and one more
abbrev pub kept_with : List SlowAnswer → SlowAnswer → List SlowAnswer
kept_with kept answer = take most_kept (with_answer kept answer)
