-- Answers of two sessions that stand beside each other, and which of them took much longer in one session than in the
-- other.
use Rattle.std.specs.Prelude.{ℕ, ◌+◌, ◌*◌, Bool, ◌&&◌, List, [], ◌∷◌, filter, length, nat_le, nat_lt, Option, Some, None, if◌then◌else◌}
use Rattle.slow_answers.specs.declared.longer.AnswerBeside.{AnswerBeside}
use Rattle.slow_answers.specs.declared.longer.LongerAnswers.{LongerAnswers}

-- so many microseconds longer is much longer: 50 ms
abbrev pub much_longer : ℕ
much_longer = 50000

-- an answer took much longer than another: more than twice as long, and at least 50 ms longer
abbrev pub took_much_longer : ℕ → ℕ → Bool
took_much_longer micros other = nat_lt (2 * other) micros && nat_le (other + much_longer) micros

-- an answer took much longer than the one beside it
abbrev pub is_longer : AnswerBeside → Bool
is_longer answer = took_much_longer answer.micros answer.other

-- of these answers those that took much longer than the ones beside them
abbrev pub longer_ones : List AnswerBeside → List AnswerBeside
longer_ones answers = filter is_longer answers

-- the slower one of an answer and another behind it, if there is one; of equal ones the first
abbrev pub slower_of : AnswerBeside → Option AnswerBeside → AnswerBeside
slower_of first None = first
slower_of first (Some later) = if nat_lt first.micros later.micros then later else first

-- the slowest of these answers, if there is one; of equal ones the first
abbrev pub slowest_one : List AnswerBeside → Option AnswerBeside
slowest_one [] = None
slowest_one (first ∷ rest) = Some (slower_of first (slowest_one rest))

-- how many of these answers took much longer than the ones beside them, and the slowest of those
abbrev pub longer_answers : List AnswerBeside → LongerAnswers
longer_answers answers = record { count = length (longer_ones answers); slowest = slowest_one (longer_ones answers) }

-- One after another.

-- of no answer
abbrev pub none_longer : LongerAnswers
none_longer = record { count = 0; slowest = None }

-- the slowest one so far, if there is one, and one answer more
abbrev pub slowest_with : Option AnswerBeside → AnswerBeside → AnswerBeside
slowest_with None answer = answer
slowest_with (Some slowest) answer = if nat_lt slowest.micros answer.micros then answer else slowest

-- what is known of the answers so far, and one more
abbrev pub longer_with : LongerAnswers → AnswerBeside → LongerAnswers
longer_with found answer = if is_longer answer then record { count = found.count + 1; slowest = Some (slowest_with found.slowest answer) } else found

-- what is known of the answers so far, and these behind them
abbrev pub longer_behind : LongerAnswers → List AnswerBeside → LongerAnswers
longer_behind found [] = found
longer_behind found (answer ∷ rest) = longer_behind (longer_with found answer) rest
