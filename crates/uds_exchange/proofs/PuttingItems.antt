-- Items put one after another, and messages put as strays.
use Rattle.std.proofs.Common.{◌≡◌, ℕ, List, [], ◌∷◌, ◌++◌, map, refl, sym, ◌∙◌, subst}
use Rattle.direction.specs.Dir.{Message}
use Rattle.direction.specs.declared.Dir.{Dir}
use Rattle.uds_exchange.specs.Decided.{decided, undecided}
use Rattle.uds_exchange.specs.Decider.{PutsDecided}
use Rattle.uds_exchange.specs.ItemSink.{AfterItem, PutsItems}
use Rattle.uds_exchange.specs.Meaning.{ItemValue, stray, stray_of, meaning}
use Rattle.uds_exchange.specs.MessageSink.{Puts, Fails}
use Rattle.uds_exchange.specs.declared.decider.StraySink.{StraySink}
use Rattle.uds_exchange.proofs.DecidedOfMore.{decided_then_undecided}

module _ {S : Type 0} (takes : AfterItem S) where
  -- one message was put as a stray
  abbrev pub TakesStray : StraySink S → Dir → List ℕ → StraySink S → Type 0
  TakesStray s d m t = (t.sink.ghost_name ≡ s.sink.ghost_name) × takes s.sink.now (stray d m) t.sink.now

  -- strays that are put as messages are put as items
  pub strays-put : (put : List Message) (s t : StraySink S) → Puts TakesStray s put t
      → (t.sink.ghost_name ≡ s.sink.ghost_name) × PutsItems takes s.sink.now (map stray_of put) t.sink.now
  strays-put [] s t is = subst (λ u. (u.sink.ghost_name ≡ s.sink.ghost_name) × (u.sink.now ≡ s.sink.now)) (sym is) (refl, refl)
  strays-put (message ∷ later) s t (between, one, rest) =
      let after = strays-put later between t rest in
      (after.0 ∙ one.0, (between.sink.now, one.1, after.1))

  -- items are put, and then others: that is one run
  pub puts_join : (s u t : S) (xs ys : List ItemValue) → PutsItems takes s xs u → PutsItems takes u ys t → PutsItems takes s (xs ++ ys) t
  puts_join s u t [] ys h p = subst (λ v. PutsItems takes v ys t) h p
  puts_join s u t (x ∷ xs) ys h p = (h.0, h.1, puts_join h.0 u t xs ys h.2 p)

  -- what is decided was put, and then what one more message decides
  pub decided_puts_go_on : (s t u : S) (M : List Message) (x : Message) → PutsItems takes s (decided M) t → PutsDecided takes M x t u
      → PutsItems takes s (decided (M ++ x ∷ [])) u
  decided_puts_go_on s t u M x h d =
      subst (λ (l : List ItemValue). PutsItems takes s l u) (sym d.1) (puts_join s t u (decided M) d.0 h d.2)

  -- and at the end what is left
  pub decided_puts_end : (s t u : S) (M : List Message) → PutsItems takes s (decided M) t → PutsItems takes t (undecided M) u
      → PutsItems takes s (meaning M) u
  decided_puts_end s t u M h d =
      subst (λ (l : List ItemValue). PutsItems takes s l u) (decided_then_undecided M) (puts_join s t u (decided M) (undecided M) h d)

-- a sink that never fails does not
pub never_fails : {K E Goal : Type 0} (after_ok : K → Dir → List ℕ → K → Type 0) (put : List Message) (s t : K) (why : E)
    → Fails after_ok (λ s d m e t. ⊥) s put why t → Goal
never_fails after_ok put s t why (front, next, rest, between, parts, puts, err) = absurd err
