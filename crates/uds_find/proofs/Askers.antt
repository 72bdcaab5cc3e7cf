-- Who asked last, how often, and who has answered since, after one more frame.
use Rattle.std.proofs.Common.{◌≡◌, ℕ, ◌+◌, ◌-◌, Bool, true, false, List, [], ◌∷◌, ◌++◌, Option, Some, None, length, drop}
use Rattle.std.proofs.Common.{refl, ◌∙◌, ap, arith}
use Rattle.std.proofs.lemmas.List.{append-nil, drop-append-le, reverse-append, length-append}
use Rattle.std.proofs.lemmas.List.Elements.{filter-append}
use Rattle.std.proofs.lemmas.List.Folds.{list_any-append}
use Rattle.std.proofs.lemmas.List.Sums.{sum_by_push, suffix_len-le-length}
use Rattle.std.proofs.Math.ListN.{drop_of_length-le}
use Rattle.std.specs.List.{after_last, count_by, filter, last_or, list_any, prefix_len, suffix_len}
use Rattle.std.specs.Prelude.{if◌then◌else◌, not, ◌||◌}
use Rattle.can_log.specs.Frame.{FrameValue}
use Rattle.can_log.specs.declared.frame.Id.{Id}
use Rattle.uds_find.specs.Credit.{answers_from, asks_for, has_answered, last_asker, sender_of}

last-of-more : {A : Type 0} (first : Option A) (xs : List A) (x : A) → last_or first (xs ++ x ∷ []) ≡ Some x
last-of-more first [] x = refl
last-of-more first (y ∷ ys) x = last-of-more (Some y) ys x

kept-if : (service : ℕ) (past : List FrameValue) (frame : FrameValue) (b : Bool) → asks_for service frame ≡ b
    → filter (asks_for service) (past ++ frame ∷ []) ≡ filter (asks_for service) past ++ (if b then frame ∷ [] else [])
kept-if service past frame b is = filter-append (asks_for service) past (frame ∷ [])
    ∙ ap (λ c. filter (asks_for service) past ++ (if c then frame ∷ [] else [])) is

-- a frame that asks for the service
pub asker-asked : (service : ℕ) (past : List FrameValue) (frame : FrameValue) → asks_for service frame ≡ true
    → last_asker service (past ++ frame ∷ []) ≡ Some frame.id
unfolding last_asker
asker-asked service past frame is =
    ap (λ kept. sender_of (last_or None kept)) (kept-if service past frame true is)
    ∙ ap sender_of (last-of-more None (filter (asks_for service) past) frame)

-- and one that doesn't
pub asker-kept : (service : ℕ) (past : List FrameValue) (frame : FrameValue) → asks_for service frame ≡ false
    → last_asker service (past ++ frame ∷ []) ≡ last_asker service past
unfolding last_asker
asker-kept service past frame is =
    ap (λ kept. sender_of (last_or None kept)) (kept-if service past frame false is ∙ append-nil (filter (asks_for service) past))

-- how often the service was asked for
pub askings-asked : (service : ℕ) (past : List FrameValue) (frame : FrameValue) → asks_for service frame ≡ true
    → count_by (asks_for service) (past ++ frame ∷ []) ≡ count_by (asks_for service) past + 1
askings-asked service past frame is =
    sum_by_push (λ one. if asks_for service one then 1 else 0) past frame ∙ ap (λ b. count_by (asks_for service) past + (if b then 1 else 0)) is

pub askings-kept : (service : ℕ) (past : List FrameValue) (frame : FrameValue) → asks_for service frame ≡ false
    → count_by (asks_for service) (past ++ frame ∷ []) ≡ count_by (asks_for service) past
askings-kept service past frame is =
    sum_by_push (λ one. if asks_for service one then 1 else 0) past frame ∙ ap (λ b. count_by (asks_for service) past + (if b then 1 else 0)) is
    ∙ nothing-more (count_by (asks_for service) past)
  where
    nothing-more : (n : ℕ) → n + 0 ≡ n
    nothing-more n = omega arith

-- ---- what stands behind the last that passes

passing-behind : {X : Type 0} (q : X → Bool) (xs : List X) (x : X) → suffix_len q (xs ++ x ∷ []) ≡ (if q x then 1 + suffix_len q xs else 0)
passing-behind q xs x = ap (prefix_len q) (reverse-append xs (x ∷ []))

module _ {X : Type 0} (p : X → Bool) (xs : List X) (x : X) where
  pub after_last-passing : p x ≡ true → after_last p (xs ++ x ∷ []) ≡ []
  after_last-passing is =
      let none = passing-behind (λ y. not (p y)) xs x ∙ ap (λ b. if not b then 1 + suffix_len (λ y. not (p y)) xs else 0) is in
      drop_of_length-le (xs ++ x ∷ []) (omega (arith, none))

  pub after_last-more : p x ≡ false → after_last p (xs ++ x ∷ []) ≡ after_last p xs ++ x ∷ []
  after_last-more is =
      let more = passing-behind (λ y. not (p y)) xs x ∙ ap (λ b. if not b then 1 + suffix_len (λ y. not (p y)) xs else 0) is in
      let place : length (xs ++ x ∷ []) - suffix_len (λ y. not (p y)) (xs ++ x ∷ []) ≡ length xs - suffix_len (λ y. not (p y)) xs
      = omega (arith, more, length-append xs (x ∷ []), suffix_len-le-length (λ y. not (p y)) xs) in
      ap (λ n. drop n (xs ++ x ∷ [])) place ∙ drop-append-le (length xs - suffix_len (λ y. not (p y)) xs) xs (x ∷ []) (omega arith)

any-one : {X : Type 0} (p : X → Bool) (x : X) → list_any p (x ∷ []) ≡ p x
any-one p x = by (p x)
  where
    by : (b : Bool) → (b || false) ≡ b
    by true = refl
    by false = refl

-- a frame that asks for the service: nobody has answered it
pub answered-asked : (service : ℕ) (unit : Id) (past : List FrameValue) (frame : FrameValue) → asks_for service frame ≡ true
    → has_answered service unit (past ++ frame ∷ []) ≡ false
unfolding has_answered
answered-asked service unit past frame is = ap (list_any (answers_from service unit)) (after_last-passing (asks_for service) past frame is)

-- and one that doesn't
pub answered-more : (service : ℕ) (unit : Id) (past : List FrameValue) (frame : FrameValue) → asks_for service frame ≡ false
    → has_answered service unit (past ++ frame ∷ []) ≡ (has_answered service unit past || answers_from service unit frame)
unfolding has_answered
answered-more service unit past frame is =
    ap (list_any (answers_from service unit)) (after_last-more (asks_for service) past frame is)
    ∙ list_any-append (answers_from service unit) (after_last (asks_for service) past) (frame ∷ [])
    ∙ ap (λ b. list_any (answers_from service unit) (after_last (asks_for service) past) || b) (any-one (answers_from service unit) frame)
