-- What tests choose.
use Rattle.std.proofs.Common.{◌≡◌, ℕ, zero, suc, ◌==◌, Bool, true, false, ◌&&◌, List, [], ◌++◌, nat_lt, Option, Some, None, refl, ◌∙◌, ap, arith, cond}
use Rattle.std.proofs.lemmas.Bool.{lt-ltb, ne_eqb, false≢true}
use Rattle.std.proofs.Math.Bool.{and-true}

-- no element in either case
pub none-chosen : {X : Type 0} (b : Bool) (xs : List X) → cond b [] [] ++ xs ≡ xs
none-chosen true xs = refl
none-chosen false xs = refl

-- ---- an option that is there where all of several tests pass

module _ {X : Type 0} where
  none_both : (c : Bool) → ◌≡◌ {A = Option X} None (cond c None None)
  none_both true = refl
  none_both false = refl

  -- a last test that fails
  closed : (a b k : Bool) (x : X) → cond (a && (b && (k && false))) (Some x) None ≡ None
  closed true true true x = refl
  closed true true false x = refl
  closed true false k x = refl
  closed false b k x = refl

  pub stopped : (a b k c : Bool) (x : X) → cond (a && (b && (k && false))) (Some x) None ≡ cond c None None
  stopped a b k c x = closed a b k x ∙ none_both c

  -- a last test that passes
  pub unchanged : (a b k : Bool) (x y : X) → x ≡ y → cond (a && (b && (k && true))) (Some x) None ≡ cond (a && (b && k)) (Some y) None
  unchanged true true true x y h = ap Some h
  unchanged true true false x y h = refl
  unchanged true false k x y h = refl
  unchanged false b k x y h = refl

  -- a last test whether a number is above zero
  pub stopped-at-zero : (a b k : Bool) (n : ℕ) (x y : X) → x ≡ y
      → cond (a && (b && (k && nat_lt 0 n))) (Some x) None ≡ cond (a && (b && k)) (cond (n == 0) None (Some y)) None
  stopped-at-zero a b k zero x y e = closed a b k x ∙ none_both _
  stopped-at-zero a b k (suc n) x y e =
      let p : nat_lt 0 (suc n) ≡ true = lt-ltb 0 (suc n) (omega arith) in
      let q : (suc n == 0) ≡ false = ne_eqb (suc n) 0 (λ h. omega (arith, h)) in
      rw (p, q) (unchanged a b k x y e)

  some-fails : (o q f b : Bool) (y : X) → false ≡ b → ◌≡◌ {A = Option X} None (cond (o && (q && (f && b))) (Some y) None)
  some-fails true true true b y h = rw (← h) refl
  some-fails true true false b y h = refl
  some-fails true false f b y h = refl
  some-fails false q f b y h = refl

  last-passes : (o q f b : Bool) (x y : X) → true ≡ b → x ≡ y → cond (o && (q && f)) (Some x) None ≡ cond (o && (q && (f && b))) (Some y) None
  last-passes o q f b x y hb e = rw (← hb, and-true, e)

  -- One of the tests moves to the end: where b' passes so does b, and where the first tests pass, b' is b''.
  pub moved-behind : (a b b' b'' k o q f : Bool) (x y : X) → (b' ≡ true → b ≡ true)
      → (a ≡ true → b ≡ true → k ≡ true → b' ≡ b'') → x ≡ y
      → cond (a && (b' && (k && (o && (q && f))))) (Some x) None ≡ cond (a && (b && k)) (cond (o && (q && (f && b''))) (Some y) None) None
  moved-behind false b b' b'' k o q f x y mono same e = refl
  moved-behind true false true b'' k o q f x y mono same e = absurd (false≢true (mono refl))
  moved-behind true false false b'' k o q f x y mono same e = refl
  moved-behind true true true b'' false o q f x y mono same e = refl
  moved-behind true true false b'' false o q f x y mono same e = refl
  moved-behind true true true b'' true o q f x y mono same e = last-passes o q f b'' x y (same refl refl refl) e
  moved-behind true true false b'' true o q f x y mono same e = some-fails o q f b'' y (same refl refl refl)
