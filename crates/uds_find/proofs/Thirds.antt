-- The first by its text of the functional identifiers that are third beside a pair.
use Rattle.std.proofs.Common.{◌≡◌, ℕ, zero, suc, ◌*◌, ◌/◌, ◌%◌, ◌^◌, ◌<◌, ◌≤◌, ◌==◌, Bool, true, false, List, [], ◌∷◌, ◌++◌, Option, Some, None, length}
use Rattle.std.proofs.Common.{length-append, refl, sym, ◌∙◌, ap, subst, arith, Ordering}
use Rattle.std.proofs.Math.Nat.{pow-suc, pow-zero, div-lt_iff_lt-mul}
use Rattle.std.proofs.lemmas.Bool.{eqb-true}
use Rattle.std.proofs.lemmas.Bool.Decides.{nat_tests}
use Rattle.std.specs.Cmp.{nat_cmp_is, ranks}
use Rattle.std.specs.Cmp.Lexicographic.{slice_cmp}
use Rattle.std.specs.List.{find, list_any, AllByRecursion}
use Rattle.std.specs.List.Sorted.{IsStrictlySortedBy}
use Rattle.std.specs.Ordering.{is_lt, nat_cmp, ordering_then, MatchOrdering}
use Rattle.std.specs.Prelude.{cond, ◌||◌}
use Rattle.std.specs.declared.cmp.Ordering.TheVariants.{Less, Equal, Greater}
use Rattle.can_log.specs.Canonical.{identifier_text}
use Rattle.can_log.specs.Digits.{digit, digits, hexadecimal}
use Rattle.can_log.specs.Frame.{FrameValue}
use Rattle.can_log.specs.declared.frame.Id.{Id}
use Rattle.can_log.specs.declared.frame.Id.TheVariants as id
use Rattle.uds_find.specs.Credit.{is_same}
use Rattle.uds_find.specs.Finding.{TellsFunctional}
use Rattle.uds_find.specs.Functional.{is_functional, is_functional_identifier, is_third, number_order, text_order}
use Rattle.uds_find.specs.Functional.{IsFunctionalOf}
use Rattle.uds_find.specs.declared.pair.IdPair.{IdPair}
use Rattle.uds_find.proofs.Counting.{functional-identifier}
use Rattle.uds_find.proofs.Orders.{identifier-itself, same-identifier}

-- ---- texts of as many digits stand in the order of their numbers

behind-more : (xs ys : List ℕ) (x y : ℕ) → length xs ≡ length ys
    → slice_cmp nat_cmp (xs ++ x ∷ []) (ys ++ y ∷ []) ≡ ordering_then (slice_cmp nat_cmp xs ys) (nat_cmp x y)
behind-more [] [] x y long = or-equal (nat_cmp x y)
  where
    or-equal : (o : Ordering) → ordering_then o Equal ≡ o
    or-equal Less = refl
    or-equal Equal = refl
    or-equal Greater = refl
behind-more [] (b ∷ ys) x y long = absurd (omega (arith, long))
behind-more (a ∷ xs) [] x y long = absurd (omega (arith, long))
behind-more (a ∷ xs) (b ∷ ys) x y long =
    ap (ordering_then (nat_cmp a b)) (behind-more xs ys x y (omega (arith, long)))
    ∙ then-then (nat_cmp a b) (slice_cmp nat_cmp xs ys) (nat_cmp x y)
  where
    then-then : (o p q : Ordering) → ordering_then o (ordering_then p q) ≡ ordering_then (ordering_then o p) q
    then-then Less p q = refl
    then-then Equal p q = refl
    then-then Greater p q = refl

many : (width number : ℕ) → length (hexadecimal width number) ≡ width
unfolding digits
many zero number = refl
many (suc width) number =
    length-append (hexadecimal width (number / 16)) (digit (number % 16) ∷ []) ∙ omega (arith, many width (number / 16))

digits-rise : (a b : ℕ) → a < 16 → b < 16 → a < b → digit a < digit b
digits-rise a b small low below = grind (arith, nat_tests)

digit-order : (a b : ℕ) → a < 16 → b < 16 → nat_cmp (digit a) (digit b) ≡ nat_cmp a b
digit-order a b small low = by (nat_cmp a b) (ranks a b)
  where
    by : (o : Ordering) → MatchOrdering o (a < b) (a ≡ b) (b < a) → nat_cmp (digit a) (digit b) ≡ o
    by Less below = sym (nat_cmp_is (digit a) (digit b) Less (digits-rise a b small low below))
    by Equal same = sym (nat_cmp_is (digit a) (digit b) Equal (ap digit same))
    by Greater above = sym (nat_cmp_is (digit a) (digit b) Greater (digits-rise b a low small above))

in-parts : (a b : ℕ) → ordering_then (nat_cmp (a / 16) (b / 16)) (nat_cmp (a % 16) (b % 16)) ≡ nat_cmp a b
in-parts a b = by (nat_cmp (a / 16) (b / 16)) (nat_cmp (a % 16) (b % 16)) (ranks (a / 16) (b / 16)) (ranks (a % 16) (b % 16))
  where
    by : (o p : Ordering) → MatchOrdering o (a / 16 < b / 16) (a / 16 ≡ b / 16) (b / 16 < a / 16)
        → MatchOrdering p (a % 16 < b % 16) (a % 16 ≡ b % 16) (b % 16 < a % 16) → ordering_then o p ≡ nat_cmp a b
    by Less p first second = nat_cmp_is a b Less (omega (arith, first))
    by Greater p first second = nat_cmp_is a b Greater (omega (arith, first))
    by Equal Less first second = nat_cmp_is a b Less (omega (arith, first, second))
    by Equal Equal first second = nat_cmp_is a b Equal (omega (arith, first, second))
    by Equal Greater first second = nat_cmp_is a b Greater (omega (arith, first, second))

number-order : (width a b : ℕ) → a < 16 ^ width → b < 16 ^ width
    → slice_cmp nat_cmp (hexadecimal width a) (hexadecimal width b) ≡ nat_cmp a b
unfolding digits
number-order zero a b small low =
    let one : a < 1 = rw pow-zero at small in
    let other : b < 1 = rw pow-zero at low in
    nat_cmp_is a b Equal (omega (arith, one, other))
number-order (suc width) a b small low =
    let one : a < 16 ^ width * 16 = rw pow-suc at small in
    let other : b < 16 ^ width * 16 = rw pow-suc at low in
    let some : 0 < 16 = omega arith in
    behind-more (hexadecimal width (a / 16)) (hexadecimal width (b / 16)) (digit (a % 16)) (digit (b % 16))
    (many width (a / 16) ∙ sym (many width (b / 16)))
    ∙ ap (λ o. ordering_then o (nat_cmp (digit (a % 16)) (digit (b % 16))))
    (number-order width (a / 16) (b / 16) ((div-lt_iff_lt-mul some).1 one) ((div-lt_iff_lt-mul some).1 other))
    ∙ ap (ordering_then (nat_cmp (a / 16) (b / 16))) (digit-order (a % 16) (b % 16) (omega arith) (omega arith))
    ∙ in-parts a b

-- ---- functional identifiers of as many digits

below-eight : (number : ℕ) → (number / 65536 == 0x18DB) ≡ true → number < 16 ^ 8
below-eight number is = omega (arith, eqb-true (number / 65536) 0x18DB is)

not-below : (a b : ℕ) → a ≤ b → is_lt (nat_cmp b a) ≡ false
not-below a b few = by (nat_cmp b a) (ranks b a)
  where
    by : (o : Ordering) → MatchOrdering o (b < a) (b ≡ a) (a < b) → is_lt o ≡ false
    by Less below = absurd (omega (arith, few, below))
    by Equal same = refl
    by Greater above = refl

-- a later one of the same pair stands behind by its text
later-text : (pair : IdPair) (one other : Id) → is_functional_identifier one ≡ true → is_functional_identifier other ≡ true
    → is_third pair one ≡ true → is_third pair other ≡ true → number_order one other ≡ Less
    → is_lt (text_order (identifier_text other) (identifier_text one)) ≡ false
later-text pair (id.Std a) (id.Std b) one_is other_is third other_third less =
    ap (λ o. is_lt o) (number-order 3 b a (omega (arith, eqb-true b 0x7DF other_is)) (omega (arith, eqb-true a 0x7DF one_is)))
    ∙ not-below a b (omega (arith, eqb-true a 0x7DF one_is, eqb-true b 0x7DF other_is))
later-text pair (id.Ext a) (id.Ext b) one_is other_is third other_third less =
    ap (λ o. is_lt o) (number-order 8 b a (below-eight b other_is) (below-eight a one_is))
    ∙ not-below a b (at-most (subst (λ o. MatchOrdering o (a < b) (a ≡ b) (b < a)) (less) (ranks a b)))
  where
    at-most : a < b → a ≤ b
    at-most below = omega (arith, below)
later-text pair (id.Std a) (id.Ext b) one_is other_is third other_third less = by pair.unit third other_third
  where
    by : (unit : Id) → is_third (record pair { unit = unit }) (id.Std a) ≡ true → is_third (record pair { unit = unit }) (id.Ext b) ≡ true
        → is_lt (text_order (identifier_text (id.Ext b)) (identifier_text (id.Std a))) ≡ false
    by (id.Std number) third other_third = absurd (cc other_third)
    by (id.Ext number) third other_third = absurd (cc third)
later-text pair (id.Ext a) (id.Std b) one_is other_is third other_third less = by pair.unit third other_third
  where
    by : (unit : Id) → is_third (record pair { unit = unit }) (id.Ext a) ≡ true → is_third (record pair { unit = unit }) (id.Std b) ≡ true
        → is_lt (text_order (identifier_text (id.Std b)) (identifier_text (id.Ext a))) ≡ false
    by (id.Std number) third other_third = absurd (cc third)
    by (id.Ext number) third other_third = absurd (cc other_third)

itself-text : (one : Id) → is_functional_identifier one ≡ true → is_lt (text_order (identifier_text one) (identifier_text one)) ≡ false
itself-text (id.Std a) is =
    ap (λ o. is_lt o) (number-order 3 a a (omega (arith, eqb-true a 0x7DF is)) (omega (arith, eqb-true a 0x7DF is))) ∙ not-below a a (omega arith)
itself-text (id.Ext a) is =
    ap (λ o. is_lt o) (number-order 8 a a (below-eight a is) (below-eight a is)) ∙ not-below a a (omega arith)

-- ---- the first of a list

-- where none passes, none does that is there
none-passes : (test : Id → Bool) (ids : List Id) (other : Id) → find test ids ≡ None → list_any (is_same other) ids ≡ true → test other ≡ false
none-passes test [] other none there = absurd (cc there)
none-passes test (first ∷ rest) other none there = by (test first) (is_same other first) refl refl none there (none-passes test rest other)
  where
    by : (passes same : Bool) → test first ≡ passes → is_same other first ≡ same → cond passes (Some first) (find test rest) ≡ None
        → (same || list_any (is_same other) rest) ≡ true
        → (find test rest ≡ None → list_any (is_same other) rest ≡ true → test other ≡ false) → test other ≡ false
    by true same passes_is same_is none there later = absurd (cc none)
    by false true passes_is same_is none there later = ap test (same-identifier other first same_is) ∙ passes_is
    by false false passes_is same_is none there later = later none there

-- of identifiers in order, the first one that passes, and each other that does behind it
pub record IsFirstOf (test : Id → Bool) (ids : List Id) (one : Id) : Type 0 where
  pub there : list_any (is_same one) ids ≡ true
  pub passes : test one ≡ true
  pub behind : (other : Id) → list_any (is_same other) ids ≡ true → test other ≡ true → (is_same other one ≡ false) → number_order one other ≡ Less

-- whoever is among later ones stands behind the first
all-behind : (first : Id) (ids : List Id) (other : Id) → AllByRecursion (λ y. number_order first y ≡ Less) ids → list_any (is_same other) ids ≡ true
    → number_order first other ≡ Less
all-behind first [] other all there = absurd (cc there)
all-behind first (x ∷ xs) other all there = at (is_same other x) refl there (all-behind first xs other all.1)
  where
    at : (same : Bool) → is_same other x ≡ same → (same || list_any (is_same other) xs) ≡ true
        → (list_any (is_same other) xs ≡ true → number_order first other ≡ Less) → number_order first other ≡ Less
    at true same there later = subst (λ y. number_order first y ≡ Less) (sym (same-identifier other x same)) all.0
    at false apart there later = later there

some-passes : (test : Id → Bool) (ids : List Id) (one : Id) → IsStrictlySortedBy number_order ids → find test ids ≡ Some one → IsFirstOf test ids one
unfolding IsStrictlySortedBy
some-passes test [] one sorted some = absurd (cc some)
some-passes test (first ∷ rest) one sorted some = by (test first) refl some (some-passes test rest one sorted.1)
  where
    or-true : (b : Bool) → (b || true) ≡ true
    or-true true = refl
    or-true false = refl

    here : first ≡ one → test first ≡ true → IsFirstOf test (first ∷ rest) one
    here is passes = record {
      there = ap (λ b. b || list_any (is_same one) rest) (ap (is_same one) is ∙ identifier-itself one);
      passes = sym (ap test is) ∙ passes;
      behind = λ other there passing apart. subst (λ y. number_order y other ≡ Less) is
          (all-behind first rest other sorted.0 (in-rest other there (ap (is_same other) is ∙ apart)));
    }
      where
        in-rest : (other : Id) → (is_same other first || list_any (is_same other) rest) ≡ true → is_same other first ≡ false
            → list_any (is_same other) rest ≡ true
        in-rest other there apart = sym (ap (λ b. b || list_any (is_same other) rest) apart) ∙ there

    further : test first ≡ false → IsFirstOf test rest one → IsFirstOf test (first ∷ rest) one
    further fails later = record {
      there = ap (λ b. is_same one first || b) later.there ∙ or-true (is_same one first);
      passes = later.passes;
      behind = λ other there passing apart. later.behind other (in-rest other there passing) passing apart;
    }
      where
        in-rest : (other : Id) → (is_same other first || list_any (is_same other) rest) ≡ true → test other ≡ true
            → list_any (is_same other) rest ≡ true
        in-rest other there passing = at (is_same other first) refl there
          where
            at : (same : Bool) → is_same other first ≡ same → (same || list_any (is_same other) rest) ≡ true → list_any (is_same other) rest ≡ true
            at true same there = absurd (cc (sym passing ∙ ap test (same-identifier other first same) ∙ fails))
            at false apart there = there

    by : (passes : Bool) → test first ≡ passes → cond passes (Some first) (find test rest) ≡ Some one
        → (find test rest ≡ Some one → IsFirstOf test rest one) → IsFirstOf test (first ∷ rest) one
    by true passes is later = here (cc is) passes
    by false fails is later = further fails (later is)

-- ---- the functional identifier of a line

pub third-stands : (frames : List FrameValue) (functional : List Id) → TellsFunctional frames functional
    → (pair : IdPair) → IsFunctionalOf frames pair (find (is_third pair) functional)
third-stands frames functional told pair = by (find (is_third pair) functional) refl
  where
    by : (found : Option Id) → find (is_third pair) functional ≡ found → IsFunctionalOf frames pair found
    by None none = λ other is. none-passes (is_third pair) functional other none (told.each other ∙ is)
    by (Some one) some =
        let first = some-passes (is_third pair) functional one told.sorted some in
        let is = sym (told.each one) ∙ first.there in
        record {
          functional = is;
          third = first.passes;
          first = λ other other_is third. at other other_is third (is_same other one) refl first.passes (first.behind other (told.each other ∙ other_is) third)
              (functional-identifier one frames is);
        }
      where
        at : (other : Id) → is_functional frames other ≡ true → is_third pair other ≡ true → (same : Bool) → is_same other one ≡ same
            → is_third pair one ≡ true → (is_same other one ≡ false → number_order one other ≡ Less) → is_functional_identifier one ≡ true
            → is_lt (text_order (identifier_text other) (identifier_text one)) ≡ false
        at other other_is third true same passes behind one_is =
            subst (λ y. is_lt (text_order (identifier_text y) (identifier_text one)) ≡ false) (sym (same-identifier other one same))
            (itself-text one one_is)
        at other other_is third false apart passes behind one_is =
            later-text pair one other one_is (functional-identifier other frames other_is) passes third (behind apart)
