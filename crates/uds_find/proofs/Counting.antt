-- How many credits each pair has, how many requests each identifier sent, and which ones are functional, after one more
-- frame.
use Rattle.std.proofs.Common.{◌≡◌, ℕ, ◌+◌, ◌≤◌, Bool, true, false, List, [], ◌∷◌, ◌++◌, Option, Some, None, length, refl, sym, ◌∙◌, ap, arith}
use Rattle.std.proofs.Common.{append_assoc, suc}
use Rattle.std.proofs.lemmas.List.{append-nil}
use Rattle.std.proofs.lemmas.List.Folds.{list_any-append}
use Rattle.std.proofs.lemmas.List.Sums.{sum_by_push, count_by-le-length}
use Rattle.std.specs.List.{cons_option, count_by, list_any}
use Rattle.std.specs.Prelude.{if◌then◌else◌, ◌&&◌, ◌||◌}
use Rattle.can_log.specs.Frame.{FrameValue}
use Rattle.can_log.specs.declared.frame.Id.{Id}
use Rattle.uds_find.specs.Asking.{asks, request_count}
use Rattle.isotp_pdu.specs.Reading.{layout_of}
use Rattle.uds_find.specs.Credit.{credit, credits, credits_after, credit_count, has_credited_after, is_credited_answer, is_same, is_same_pair}
use Rattle.uds_find.specs.Functional.{is_functional, is_functional_frame, is_functional_identifier, is_single}
use Rattle.uds_find.specs.Finding.{one_more}
use Rattle.uds_find.specs.Laws.{FunctionalIsIdentifier}
use Rattle.uds_find.specs.declared.pair.IdPair.{IdPair}
use Rattle.uds_find.proofs.Orders.{same-identifier}

-- the credits of one frame more
pub credits-more : (past frames : List FrameValue) (frame : FrameValue)
    → credits_after past (frames ++ frame ∷ []) ≡ credits_after past frames ++ cons_option (credit (past ++ frames) frame) []
unfolding credits_after
credits-more past [] frame = ap (λ before. cons_option (credit before frame) []) (sym (append-nil past))
credits-more past (first ∷ rest) frame = behind (credit past first) _ _ _
    (credits-more (past ++ first ∷ []) rest frame
    ∙ ap (λ before. credits_after (past ++ first ∷ []) rest ++ cons_option (credit before frame) []) (append_assoc past (first ∷ []) rest))
  where
    behind : (one : Option IdPair) (xs ys zs : List IdPair) → xs ≡ ys ++ zs → cons_option one xs ≡ cons_option one ys ++ zs
    behind None xs ys zs is = is
    behind (Some pair) xs ys zs is = ap (λ l. pair ∷ l) is

-- no credit: each pair has as many as before
pub count-silent : (pair : IdPair) (frames : List FrameValue) (frame : FrameValue) → credit frames frame ≡ None
    → credit_count (frames ++ frame ∷ []) pair ≡ credit_count frames pair
unfolding credit_count
count-silent pair frames frame none =
    ap (count_by (λ credited. is_same_pair credited pair)) (credits-more [] frames frame ∙ ap (λ one. credits frames ++ cons_option one []) none
    ∙ append-nil (credits frames))

-- one credit: that pair has one more
pub count-more : (pair : IdPair) (frames : List FrameValue) (frame : FrameValue) (one : IdPair) → credit frames frame ≡ Some one
    → one_more is_same_pair one (credit_count frames) pair ≡ credit_count (frames ++ frame ∷ []) pair
unfolding credit_count
count-more pair frames frame one some =
    added (is_same_pair one pair) (credit_count frames pair)
    ∙ sym (ap (count_by (λ credited. is_same_pair credited pair)) (credits-more [] frames frame
    ∙ ap (λ credited. credits frames ++ cons_option credited []) some)
    ∙ sum_by_push (λ credited. if is_same_pair credited pair then 1 else 0) (credits frames) one)
  where
    added : (b : Bool) (n : ℕ) → (if b then n + 1 else n) ≡ n + (if b then 1 else 0)
    added true n = refl
    added false n = omega arith

-- there are no more credits than frames
few-credits : (past frames : List FrameValue) → length (credits_after past frames) ≤ length frames
unfolding credits_after
few-credits past [] = omega arith
few-credits past (first ∷ rest) = with-one (credit past first) _ _ (few-credits (past ++ first ∷ []) rest)
  where
    with-one : (one : Option IdPair) (xs : List IdPair) (n : ℕ) → length xs ≤ n → length (cons_option one xs) ≤ suc n
    with-one None xs n few = omega (arith, few)
    with-one (Some pair) xs n few = omega (arith, few)

pub few-counted : (pair : IdPair) (frames : List FrameValue) → credit_count frames pair ≤ length frames
unfolding credit_count
few-counted pair frames =
    omega (arith, count_by-le-length (λ credited. is_same_pair credited pair) (credits frames), few-credits [] frames)

-- ---- requests

pub few-requests : (asker : Id) (frames : List FrameValue) → request_count frames asker ≤ length frames
unfolding request_count
few-requests asker frames = count_by-le-length (λ frame. asks frame && is_same frame.id asker) frames

-- one that asks
pub requests-more : (asker : Id) (frames : List FrameValue) (frame : FrameValue) → asks frame ≡ true
    → one_more is_same frame.id (request_count frames) asker ≡ request_count (frames ++ frame ∷ []) asker
unfolding request_count
requests-more asker frames frame asking =
    added (is_same frame.id asker) (request_count frames asker)
    ∙ ap (λ b. request_count frames asker + (if b && is_same frame.id asker then 1 else 0)) (sym asking)
    ∙ sym (sum_by_push (λ one. if asks one && is_same one.id asker then 1 else 0) frames frame)
  where
    added : (b : Bool) (n : ℕ) → (if b then n + 1 else n) ≡ n + (if b then 1 else 0)
    added true n = refl
    added false n = omega arith

-- and one that doesn't
pub requests-silent : (asker : Id) (frames : List FrameValue) (frame : FrameValue) → asks frame ≡ false
    → request_count frames asker ≡ request_count (frames ++ frame ∷ []) asker
unfolding request_count
requests-silent asker frames frame silent =
    nothing-more (request_count frames asker)
    ∙ ap (λ b. request_count frames asker + (if b && is_same frame.id asker then 1 else 0)) (sym silent)
    ∙ sym (sum_by_push (λ one. if asks one && is_same one.id asker then 1 else 0) frames frame)
  where
    nothing-more : (n : ℕ) → n ≡ n + 0
    nothing-more n = omega arith

-- ---- credited answers of a unit and a service

-- one frame more
pub credited-more : (service : ℕ) (unit : Id) (past frames : List FrameValue) (frame : FrameValue)
    → has_credited_after service unit past (frames ++ frame ∷ [])
    ≡ (has_credited_after service unit past frames || is_credited_answer service unit (past ++ frames) frame)
unfolding has_credited_after
credited-more service unit past [] frame =
    or-nothing (is_credited_answer service unit past frame)
    ∙ ap (λ before. is_credited_answer service unit before frame) (sym (append-nil past))
  where
    or-nothing : (b : Bool) → (b || false) ≡ b
    or-nothing true = refl
    or-nothing false = refl
credited-more service unit past (first ∷ rest) frame =
    behind (is_credited_answer service unit past first) _ _ _
    (credited-more service unit (past ++ first ∷ []) rest frame
    ∙ ap (λ before. has_credited_after service unit (past ++ first ∷ []) rest || is_credited_answer service unit before frame)
    (append_assoc past (first ∷ []) rest))
  where
    behind : (one a b c : Bool) → a ≡ (b || c) → (one || a) ≡ ((one || b) || c)
    behind true a b c is = refl
    behind false a b c is = is

-- ---- functional frames

-- one frame more
pub functional-more : (one : Id) (frames : List FrameValue) (frame : FrameValue)
    → is_functional (frames ++ frame ∷ []) one ≡ (is_functional frames one || (is_functional_frame frame && is_same one frame.id))
unfolding is_functional
functional-more one frames frame =
    list_any-append (λ frame. is_functional_frame frame && is_same one frame.id) frames (frame ∷ [])
    ∙ ap (λ b. list_any (λ frame. is_functional_frame frame && is_same one frame.id) frames || b)
    (or-nothing (is_functional_frame frame && is_same one frame.id))
  where
    or-nothing : (b : Bool) → (b || false) ≡ b
    or-nothing true = refl
    or-nothing false = refl

-- whatever is functional is an identifier for functional requests
pub functional-identifier : (one : Id) (frames : List FrameValue) → is_functional frames one ≡ true → is_functional_identifier one ≡ true
unfolding is_functional
functional-identifier one [] is = absurd (cc is)
functional-identifier one (frame ∷ rest) is =
    by (is_functional_identifier frame.id) (is_single (layout_of frame)) (is_same one frame.id) refl refl is
    (functional-identifier one rest)
  where
    by : (a b c : Bool) → is_functional_identifier frame.id ≡ a → is_same one frame.id ≡ c → (((a && b) && c) || is_functional rest one) ≡ true
        → (is_functional rest one ≡ true → is_functional_identifier one ≡ true) → is_functional_identifier one ≡ true
    by true true true one_is same some later = ap is_functional_identifier (same-identifier one frame.id same) ∙ one_is
    by true true false one_is same some later = later some
    by true false c one_is same some later = later some
    by false b c one_is same some later = later some

pub functional_is_identifier : FunctionalIsIdentifier
functional_is_identifier frames one is = functional-identifier one frames is
