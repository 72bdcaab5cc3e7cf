-- One more of the ten slowest answers: what is kept of all is kept of those that were kept.
use Prim.Native.Nat.{zero, suc}
use Rattle.std.proofs.Common.{◌≡◌, ℕ, ◌+◌, ◌≤◌, Bool, true, false, List, [], ◌∷◌, ◌++◌, length, take, refl, ap, sym, ◌∙◌, add-one, arith}
use Rattle.std.specs.Prelude.{insert, nat_lt, if◌then◌else◌}
use Rattle.slow_answers.specs.declared.answer.SlowAnswer.{SlowAnswer}
use Rattle.slow_answers.specs.Slowest.{kept_with, most_kept, place_for, slowest, slowest_first, with_answer, with_answers}

-- the first of a list in which one was put in are those of the list without the last one, and this one
pub take-insert : (answers : List SlowAnswer) (n place : ℕ) (answer : SlowAnswer) → place ≤ n
    → take (suc n) (insert answers place answer) ≡ insert (take n answers) place answer
take-insert answers n zero answer within = refl
take-insert [] zero (suc place) answer within = absurd (omega arith)
take-insert [] (suc n) (suc place) answer within = refl
take-insert (first ∷ answers) zero (suc place) answer within = absurd (omega arith)
take-insert (first ∷ answers) (suc n) (suc place) answer within = ap (λ rest. first ∷ rest) (take-insert answers n place answer (omega arith))

-- what is put in behind so many is none of the first so many
pub take-insert_behind : (answers : List SlowAnswer) (n place : ℕ) (answer : SlowAnswer) → n ≤ place → n ≤ length answers
    → take n (insert answers place answer) ≡ take n answers
take-insert_behind answers zero place answer behind long = refl
take-insert_behind [] (suc n) place answer behind long = absurd (omega arith)
take-insert_behind (first ∷ answers) (suc n) zero answer behind long = absurd (omega arith)
take-insert_behind (first ∷ answers) (suc n) (suc place) answer behind long =
    ap (λ rest. first ∷ rest) (take-insert_behind answers n place answer (omega arith) (omega arith))

-- how an answer is put in before or behind the first of some
pub with_first : (first : SlowAnswer) (rest : List SlowAnswer) (answer : SlowAnswer)
    → with_answer (first ∷ rest) answer ≡ (if nat_lt first.micros answer.micros then answer ∷ first ∷ rest else first ∷ with_answer rest answer)
with_first first rest answer = by_test (nat_lt first.micros answer.micros)
  where
    by_test : (test : Bool) → insert (first ∷ rest) (if test then 0 else place_for answer.micros rest + 1) answer
        ≡ (if test then answer ∷ first ∷ rest else first ∷ with_answer rest answer)
    by_test true = refl
    by_test false = rw (add-one (place_for answer.micros rest)) refl

take_twice : (n : ℕ) (answers : List SlowAnswer) → take n (take (suc n) answers) ≡ take n answers
take_twice zero answers = refl
take_twice (suc n) [] = refl
take_twice (suc n) (first ∷ rest) = ap (λ others. first ∷ others) (take_twice n rest)

-- of two pairs of lists, whichever it is
of_either : (test : Bool) (one other one' other' : List SlowAnswer) (n : ℕ) → take n one ≡ take n one' → take n other ≡ take n other'
    → take n (if test then one else other) ≡ take n (if test then one' else other')
of_either true one other one' other' n same rest = same
of_either false one other one' other' n same rest = rest

-- what is kept of one more and of what was kept is what is kept of one more and of all
pub kept_of_kept : (n : ℕ) (answers : List SlowAnswer) (answer : SlowAnswer)
    → take n (with_answer (take n answers) answer) ≡ take n (with_answer answers answer)
kept_of_kept zero answers answer = refl
kept_of_kept (suc n) [] answer = refl
kept_of_kept (suc n) (first ∷ rest) answer =
    rw (with_first first (take n rest) answer, with_first first rest answer)
    (of_either (nat_lt first.micros answer.micros) (answer ∷ first ∷ take n rest) (first ∷ with_answer (take n rest) answer) _ _ (suc n)
    (ap (λ others. answer ∷ others) (front n)) (ap (λ others. first ∷ others) (kept_of_kept n rest answer)))
  where
    front : (n : ℕ) → take n (first ∷ take n rest) ≡ take n (first ∷ rest)
    front zero = refl
    front (suc n) = ap (λ others. first ∷ others) (take_twice n rest)

-- answers put in one after another, and one more
with_answers-append : (placed answers : List SlowAnswer) (answer : SlowAnswer)
    → with_answers placed (answers ++ answer ∷ []) ≡ with_answer (with_answers placed answers) answer
with_answers-append placed [] answer = refl
with_answers-append placed (first ∷ answers) answer = with_answers-append (with_answer placed first) answers answer

-- the ten slowest of some answers and one more are kept of those of the answers alone, and it
pub slowest_goes_on : (answers kept new : List SlowAnswer) (answer : SlowAnswer) → kept ≡ slowest answers → new ≡ kept_with kept answer
    → new ≡ slowest (answers ++ answer ∷ [])
slowest_goes_on answers kept new answer old put =
    put ∙ ap (λ k. kept_with k answer) old ∙ kept_of_kept most_kept (slowest_first answers) answer
    ∙ sym (ap (take most_kept) (with_answers-append [] answers answer))
