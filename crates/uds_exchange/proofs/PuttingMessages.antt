-- Messages put one after another, and what is left to put.
use Rattle.std.proofs.Common.{◌≡◌, List, [], ◌∷◌, ◌++◌, refl, sym, ◌∙◌, ap, subst, append_assoc}
use Rattle.direction.specs.Dir.{Message}
use Rattle.uds_exchange.specs.MessageSink.{AfterOk, AfterErr, Puts, Fails}

-- where xs are put from s, all are put from s0
pub record Onto {S E : Type 0} (after_ok : AfterOk S) (after_err : AfterErr S E)
    (s : S) (xs : List Message) (s0 : S) (all : List Message) : Type 0 where
  pub puts : (t : S) → Puts after_ok s xs t → Puts after_ok s0 all t
  pub fails : (t : S) → (e : E) → Fails after_ok after_err s xs e t → Fails after_ok after_err s0 all e t

module _ {S E : Type 0} (after_ok : AfterOk S) (after_err : AfterErr S E) where
  pub fails-cons : (s u t : S) (x : Message) (xs : List Message) (e : E) → after_ok s x.0 x.1 u → Fails after_ok after_err u xs e t
      → Fails after_ok after_err s (x ∷ xs) e t
  fails-cons s u t x xs e h f = (x ∷ f.0, f.1, f.2, f.3, ap (λ l. x ∷ l) f.4, (u, h, f.5), f.6)

  -- the first of the messages was put
  pub onto-next : (s u : S) (x : Message) (xs : List Message) (s0 : S) (all : List Message)
      → after_ok s x.0 x.1 u → Onto after_ok after_err s (x ∷ xs) s0 all → Onto after_ok after_err u xs s0 all
  onto-next s u x xs s0 all h o = record {
    puts = λ t p. o.puts t (u, h, p);
    fails = λ t e f. o.fails t e (fails-cons s u t x xs e h f);
  }

  pub onto-fault : (s t : S) (x : Message) (xs : List Message) (s0 : S) (all : List Message) (e : E)
      → after_err s x.0 x.1 e t → Onto after_ok after_err s (x ∷ xs) s0 all → Fails after_ok after_err s0 all e t
  onto-fault s t x xs s0 all e h o = o.fails t e ([], x, xs, s, refl, refl, h)

  -- messages are put, and then others: that is one run
  pub puts_join : (s u t : S) (xs ys : List Message) → Puts after_ok s xs u → Puts after_ok u ys t → Puts after_ok s (xs ++ ys) t
  puts_join s u t [] ys h p = subst (λ v. Puts after_ok v ys t) h p
  puts_join s u t (x ∷ xs) ys h p = (h.0, h.1, puts_join h.0 u t xs ys h.2 p)

  -- what fails in a front fails in the whole
  pub fails-front : (s t : S) (xs ys : List Message) (e : E) → Fails after_ok after_err s xs e t → Fails after_ok after_err s (xs ++ ys) e t
  fails-front s t xs ys e f = (f.0, f.1, f.2 ++ ys, f.3, ap (λ l. l ++ ys) f.4 ∙ append_assoc f.0 (f.1 ∷ f.2) ys, f.5, f.6)

  pub onto-along : (s : S) (xs ys : List Message) (s0 : S) (all : List Message) → xs ≡ ys → Onto after_ok after_err s xs s0 all
      → Onto after_ok after_err s ys s0 all
  onto-along s xs ys s0 all e o = subst (λ l. Onto after_ok after_err s l s0 all) e o

  pub onto-end : (s : S) (xs : List Message) (s0 : S) (all : List Message) → xs ≡ [] → Onto after_ok after_err s xs s0 all → Puts after_ok s0 all s
  onto-end s xs s0 all e o = o.puts s (subst (λ l. Puts after_ok s l s) (sym e) refl)

  -- a sink that fails at the first message fails at all
  pub fails-first : (s t : S) (x : Message) (xs : List Message) (e : E) → after_err s x.0 x.1 e t → Fails after_ok after_err s (x ∷ xs) e t
  fails-first s t x xs e h = ([], x, xs, s, refl, refl, h)
