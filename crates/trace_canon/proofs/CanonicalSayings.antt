-- Messages put one after another into a sink that says their canonical lines.
use Rattle.std.proofs.Common.{◌≡◌, ℕ, List, [], ◌∷◌, ◌++◌, refl, ap, sym, subst, ◌∙◌, Result, Ok, Err}
use Rattle.std.specs.Prelude.{OnOk, IfErr}
use Rattle.direction.specs.Dir.{Message}
use Rattle.isotp_receive.specs.declared.TheConstants.{MESSAGE_LIMIT}
use Rattle.isotp_segment.specs.CanonicalFrames.{canonical_frames}
use Rattle.isotp_segment.specs.Timed.{all_frames}
use Rattle.uds_exchange.specs.Order.{held}
use Rattle.uds_exchange.specs.Orderer.{StopsHeld, StopsDue}
use Rattle.uds_exchange.specs.MessageSink.{AfterOk, Fails, Puts}
use Rattle.uds_exchange.specs.declared.order_fault.OrderFault.{OrderFault}
use Rattle.uds_exchange.specs.declared.order_fault.OrderFault.TheVariants as order_fault
use Rattle.trace_canon.specs.proving.Saying.{SaysPutMessage}
use Rattle.trace_canon.specs.proving.Writing.{text_from, progress_after}
use Rattle.trace_canon.specs.declared.canonical_sink.CanonicalSink.{CanonicalSink}
use Rattle.trace_canon.proofs.CanonicalWriting.{text_none, progress_none, text_append, progress_append}

module _ {S : Type 0} (says : S → List ℕ → S → Type 0) (nothing : (s : S) → says s [] s)
    (onward : (s m t : S) (a b : List ℕ) → says s a m → says m b t → says s (a ++ b) t) where
  -- the lines of messages were said
  pub record SaidAll (s : CanonicalSink S) (put : List Message) (t : CanonicalSink S) : Type 0 where
    pub same_out : t.out.ghost_name ≡ s.out.ghost_name
    pub same_progress : t.progress.ghost_name ≡ s.progress.ghost_name
    pub settings : t.config.now ≡ s.config.now
    pub progress : t.progress.now ≡ progress_after s.config.now s.progress.now (all_frames MESSAGE_LIMIT put)
    pub said : says s.out.now (text_from s.config.now s.progress.now (all_frames MESSAGE_LIMIT put)) t.out.now

  pub said_all : (put : List Message) (s t : CanonicalSink S) → Puts (SaysPutMessage says) s put t → SaidAll s put t
  said_all [] s t is = subst (SaidAll s []) (sym is) (record {
    same_out = refl;
    same_progress = refl;
    settings = refl;
    progress = sym (progress_none s.config.now s.progress.now);
    said = subst (λ x. says s.out.now x s.out.now) (sym (text_none s.config.now s.progress.now)) (nothing s.out.now);
  })
  said_all (message ∷ later) s t (between, one, rest) =
      let after = said_all later between t rest in
      let first = canonical_frames MESSAGE_LIMIT message.0 message.1 in
      let more = all_frames MESSAGE_LIMIT later in
      let same = one.2 in
      let at = one.3 in
      let here : text_from between.config.now between.progress.now more
      ≡ text_from s.config.now (progress_after s.config.now s.progress.now first) more =
      ap (λ c. text_from c between.progress.now more) same ∙ ap (λ p. text_from s.config.now p more) at in
      record {
        same_out = after.same_out ∙ one.0;
        same_progress = after.same_progress ∙ one.1;
        settings = after.settings ∙ same;
        progress = after.progress ∙ ap (λ c. progress_after c between.progress.now more) same
            ∙ ap (λ p. progress_after s.config.now p more) at ∙ sym (progress_append s.config.now s.progress.now first more);
        said = subst (λ x. says s.out.now x t.out.now) (sym (text_append s.config.now s.progress.now first more))
            (onward s.out.now between.out.now t.out.now (text_from s.config.now s.progress.now first)
            (text_from s.config.now (progress_after s.config.now s.progress.now first) more) one.4
            (subst (λ x. says between.out.now x t.out.now) here after.said));
      }

-- a sink that never fails is no reason to stop
never_stops : {K E Goal : Type 0} (after_ok : AfterOk K) (put : List Message) (s t : K) (why : OrderFault E)
    → StopsHeld after_ok (λ s d m e t. ⊥) put s t why → Goal
never_stops after_ok put s t order_fault.Memory stops = absurd stops
never_stops after_ok put s t order_fault.Failed stops = absurd stops
never_stops after_ok put s t (order_fault.Sink why) (front, next, rest, between, parts, puts, err) = absurd err

-- so all that is held is put, whatever is answered
pub held_is_put : {A K E : Type 0} (after_ok : AfterOk K) (Stands : List Message → Type 0) (s t : K) (result : Result A (OrderFault E))
    → OnOk result ((M : List Message) → Stands M → Puts after_ok s (held M) t)
    → IfErr result (λ why. (M : List Message) → Stands M → StopsHeld after_ok (λ s d m e t. ⊥) (held M) s t why)
    → (M : List Message) → Stands M → Puts after_ok s (held M) t
held_is_put after_ok Stands s t (Ok value) puts stops M stands = puts M stands
held_is_put after_ok Stands s t (Err why) puts stops M stands = never_stops after_ok (held M) s t why (stops M stands)

-- and where an orderer stops, memory was refused
pub stops_for_memory : {K E Goal : Type 0} (after_ok : AfterOk K) (M : List Message) (message : Message) (s t : K) (why : OrderFault E)
    → StopsDue after_ok (λ s d m e t. ⊥) M message s t why → (why ≡ order_fault.Memory → Goal) → Goal
stops_for_memory after_ok M message s t order_fault.Memory stops by = by refl
stops_for_memory after_ok M message s t order_fault.Failed stops by = absurd stops
stops_for_memory after_ok M message s t (order_fault.Sink why) (due, is, (front, next, rest, between, parts, puts, err)) by = absurd err

never_fails : {K E Goal : Type 0} (after_ok : AfterOk K) (s t : K) (why : E) → (due : List Message)
    × Fails after_ok (λ s d m e t. ⊥) s due why t → Goal
never_fails after_ok s t why (due, (front, next, rest, between, parts, puts, err)) = absurd err

-- and whatever was judged of the message, the sink is as before
pub stays_where_it_stops : {K E : Type 0} (after_ok : AfterOk K) (s t : K) (why : OrderFault E)
    → (why ≡ order_fault.Memory → t ≡ s) → (why ≡ order_fault.Failed → t ≡ s)
    → ((e : E) → why ≡ order_fault.Sink e → (due : List Message) × Fails after_ok (λ s d m e t. ⊥) s due e t) → t ≡ s
stays_where_it_stops after_ok s t order_fault.Memory memory failed sink = memory refl
stays_where_it_stops after_ok s t order_fault.Failed memory failed sink = failed refl
stays_where_it_stops after_ok s t (order_fault.Sink e) memory failed sink = never_fails after_ok s t e (sink e refl)
