-- The slowest answers come first, and equal ones stay in the order in which they came.
use Rattle.std.proofs.Common.{◌≡◌, ℕ, ◌<◌, ◌≤◌, Bool, true, false, List, [], ◌∷◌, ◌++◌, refl, ap, sym, ◌∙◌, append_assoc, arith}
use Rattle.std.specs.Prelude.{◌==◌, nat_lt, if◌then◌else◌}
use Rattle.std.specs.List.{AllByRecursion}
use Rattle.std.proofs.lemmas.Bool.Decides.{nat_tests}
use Rattle.std.proofs.lemmas.List.{append-nil}
use Rattle.slow_answers.specs.declared.answer.SlowAnswer.{SlowAnswer}
use Rattle.slow_answers.specs.Slowest.{with_answer, with_answers}
use Rattle.slow_answers.specs.Laws.{Descends, EqualOnesStayInOrder, SlowestComeFirst, equal_ones}
use Rattle.slow_answers.proofs.Places.{with_first}

-- each of some answers was waited for at most so long
abbrev AreAtMost : ℕ → List SlowAnswer → Type 0
AreAtMost most = AllByRecursion (λ other. other.micros ≤ most)

at_most_more : (less more : ℕ) → less ≤ more → (answers : List SlowAnswer) → AreAtMost less answers → AreAtMost more answers
at_most_more less more le [] each = tt
at_most_more less more le (first ∷ rest) each = (omega (arith, le, each.0), at_most_more less more le rest each.1)

with_at_most : (most : ℕ) (answers : List SlowAnswer) (answer : SlowAnswer) → answer.micros ≤ most → AreAtMost most answers
    → AreAtMost most (with_answer answers answer)
with_at_most most [] answer low each = (low, tt)
with_at_most most (first ∷ rest) answer low each = rw (with_first first rest answer) (by_test (nat_lt first.micros answer.micros) (with_at_most most rest answer low each.1))
  where
    by_test : (test : Bool) → AreAtMost most (with_answer rest answer) → AreAtMost most (if test then answer ∷ first ∷ rest else first ∷ with_answer rest answer)
    by_test true further = (low, each)
    by_test false further = (each.0, further)

is_quicker : (one other : ℕ) → nat_lt one other ≡ true → one < other
is_quicker one other test = grind (arith, nat_tests)

is_no_quicker : (one other : ℕ) → nat_lt one other ≡ false → other ≤ one
is_no_quicker one other test = grind (arith, nat_tests)

with_descends : (answers : List SlowAnswer) (answer : SlowAnswer) → Descends answers → Descends (with_answer answers answer)
with_descends [] answer falls = (tt, tt)
with_descends (first ∷ rest) answer falls =
    rw (with_first first rest answer) (by_test (nat_lt first.micros answer.micros) refl (with_descends rest answer falls.1))
  where
    by_test : (test : Bool) → nat_lt first.micros answer.micros ≡ test → Descends (with_answer rest answer)
        → Descends (if test then answer ∷ first ∷ rest else first ∷ with_answer rest answer)
    by_test true is further =
        let less = is_quicker first.micros answer.micros is in
        ((omega (arith, less), at_most_more first.micros answer.micros (omega (arith, less)) rest falls.0), falls)
    by_test false is further =
        (with_at_most first.micros rest answer (is_no_quicker first.micros answer.micros is) falls.0, further)

all_descend : (placed answers : List SlowAnswer) → Descends placed → Descends (with_answers placed answers)
all_descend placed [] falls = falls
all_descend placed (answer ∷ rest) falls = all_descend (with_answer placed answer) rest (with_descends placed answer falls)

pub slowest_come_first : SlowestComeFirst
slowest_come_first answers = all_descend [] answers tt

-- ---- equal ones

-- none of some answers was waited for so long
none_equal : (micros : ℕ) (answers : List SlowAnswer) → AllByRecursion (λ other. (other.micros == micros) ≡ false) answers → equal_ones micros answers ≡ []
none_equal micros [] each = refl
none_equal micros (first ∷ rest) each = rw (each.0) (none_equal micros rest each.1)

quicker_differ : (most micros : ℕ) → most < micros → (answers : List SlowAnswer) → AreAtMost most answers
    → AllByRecursion (λ other. (other.micros == micros) ≡ false) answers
quicker_differ most micros less [] each = tt
quicker_differ most micros less (first ∷ rest) each =
    (differs first.micros each.0, quicker_differ most micros less rest each.1)
  where
    differs : (one : ℕ) → one ≤ most → (one == micros) ≡ false
    differs one low = grind (arith, nat_tests, less)

-- one answer in front of others is one behind them, if none of those is equal to it
in_front : (micros : ℕ) (answers : List SlowAnswer) (answer : SlowAnswer) (test : Bool) → (answer.micros == micros) ≡ test
    → (test ≡ true → equal_ones micros answers ≡ [])
    → equal_ones micros (answer ∷ answers) ≡ equal_ones micros answers ++ equal_ones micros (answer ∷ [])
in_front micros answers answer true is none = rw (is, none refl) refl
in_front micros answers answer false is none = rw is (sym (append-nil (equal_ones micros answers)))

equal_with : (micros : ℕ) (answers : List SlowAnswer) (answer : SlowAnswer) → Descends answers
    → equal_ones micros (with_answer answers answer) ≡ equal_ones micros answers ++ equal_ones micros (answer ∷ [])
equal_with micros [] answer falls = refl
equal_with micros (first ∷ rest) answer falls =
    rw (with_first first rest answer) (by_test (nat_lt first.micros answer.micros) refl (equal_with micros rest answer falls.1))
  where
    FurtherEqual : Type 0
    FurtherEqual = equal_ones micros (with_answer rest answer) ≡ equal_ones micros rest ++ equal_ones micros (answer ∷ [])

    same : (one other : ℕ) → (one == other) ≡ true → one ≡ other
    same one other test = grind (arith, nat_tests)

    by_first : (test : Bool) → (first.micros == micros) ≡ test → FurtherEqual
        → equal_ones micros (first ∷ with_answer rest answer) ≡ equal_ones micros (first ∷ rest) ++ equal_ones micros (answer ∷ [])
    by_first true is further = rw is (ap (λ others. first ∷ others) further)
    by_first false is further = rw is further

    by_test : (test : Bool) → nat_lt first.micros answer.micros ≡ test → FurtherEqual
        → equal_ones micros (if test then answer ∷ first ∷ rest else first ∷ with_answer rest answer)
        ≡ equal_ones micros (first ∷ rest) ++ equal_ones micros (answer ∷ [])
    by_test true is further =
        let less = is_quicker first.micros answer.micros is in
        in_front micros (first ∷ rest) answer (answer.micros == micros) refl (λ equal.
        let it = same answer.micros micros equal in
        none_equal micros (first ∷ rest)
        (quicker_differ first.micros micros (omega (arith, less, it)) (first ∷ rest) (omega arith, falls.0)))
    by_test false is further = by_first (first.micros == micros) refl further

equal_ones_of_all : (micros : ℕ) (placed answers : List SlowAnswer) → Descends placed
    → equal_ones micros (with_answers placed answers) ≡ equal_ones micros placed ++ equal_ones micros answers
equal_ones_of_all micros placed [] falls = sym (append-nil (equal_ones micros placed))
equal_ones_of_all micros placed (answer ∷ rest) falls =
    equal_ones_of_all micros (with_answer placed answer) rest (with_descends placed answer falls)
    ∙ ap (λ front. front ++ equal_ones micros rest) (equal_with micros placed answer falls)
    ∙ one_by_one (equal_ones micros placed) (answer.micros == micros) refl
  where
    one_by_one : (front : List SlowAnswer) (test : Bool) → (answer.micros == micros) ≡ test
        → (front ++ equal_ones micros (answer ∷ [])) ++ equal_ones micros rest ≡ front ++ equal_ones micros (answer ∷ rest)
    one_by_one front true is = rw is (append_assoc front (answer ∷ []) (equal_ones micros rest))
    one_by_one front false is = rw is (ap (λ f. f ++ equal_ones micros rest) (append-nil front))

pub equal_ones_stay_in_order : EqualOnesStayInOrder
equal_ones_stay_in_order answers micros = equal_ones_of_all micros [] answers tt
