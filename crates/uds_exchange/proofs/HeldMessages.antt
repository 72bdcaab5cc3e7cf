-- Messages that are held, in blocks that go on.
use Rattle.std.proofs.Common.{◌≡◌, ℕ, ◌+◌, ◌<◌, suc, zero, List, [], ◌∷◌, ◌++◌, length, drop, get_or, refl, sym, ◌∙◌, ap, arith, sum_by}
use Rattle.std.proofs.lemmas.List.{drop_more, map-append}
use Rattle.std.proofs.lemmas.List.Sums.{sum_by-cons}
use Rattle.direction.specs.Dir.{Message}
use Rattle.uds_exchange.specs.declared.held.HeldMessage.{HeldMessage}
use Rattle.uds_exchange.specs.Blocks.{bytes_at, IsInside, Holds, GoesOn}
use Rattle.uds_exchange.specs.Order.{message_length}
use Rattle.uds_exchange.specs.proving.HeldMessages.{span_of, message_at, messages_at, AreHeldIn, AreHeldAndSummed}
use Rattle.uds_exchange.proofs.InBlocks.{inside-on, bytes_at-on}

pub held-at : (blocks : List (List ℕ)) (held : List HeldMessage) (i : ℕ) (d : HeldMessage) → AreHeldIn blocks held → i < length held
    → IsInside blocks (span_of (get_or held i d))
held-at blocks [] i d all below = absurd (omega arith)
held-at blocks (first ∷ later) zero d all below = all.0
held-at blocks (first ∷ later) (suc i) d all below = held-at blocks later i d all.1 (omega arith)

-- the next message to put
pub next-held : (blocks : List (List ℕ)) (held : List HeldMessage) (i : ℕ) (d : HeldMessage) (m : List ℕ) → i < length held
    → m ≡ bytes_at blocks (span_of (get_or held i d))
    → messages_at blocks (drop i held) ≡ ((get_or held i d).dir, m) ∷ messages_at blocks (drop (i + 1) held)
next-held blocks held i d m below is = ap (messages_at blocks) (drop_more held i d below) ∙ rw is refl

sum-push : (l : List Message) (x : Message) → sum_by message_length (l ++ x ∷ []) ≡ sum_by message_length l + message_length x
sum-push [] x = omega (arith, sum_by-cons message_length x [])
sum-push (y ∷ l) x = omega (arith, sum_by-cons message_length y (l ++ x ∷ []), sum_by-cons message_length y l, sum-push l x)

module _ (old new : List (List ℕ)) (on : GoesOn old new) where
  messages-on : (held : List HeldMessage) → AreHeldIn old held → messages_at new held ≡ messages_at old held
  messages-on [] all = refl
  messages-on (first ∷ later) all = rw (bytes_at-on old new on (span_of first) all.0, messages-on later all.1) refl

  held-push : (held : List HeldMessage) (one : HeldMessage) → AreHeldIn old held → IsInside new (span_of one) → AreHeldIn new (held ++ one ∷ [])
  held-push [] one all inside = (inside, tt)
  held-push (first ∷ later) one all inside = (inside-on old new on (span_of first) all.0, held-push later one all.1 inside)

  module _ (held grown : List HeldMessage) (all : AreHeldIn old held) (one : HeldMessage) (is : grown ≡ held ++ one ∷ []) (m : List ℕ)
      (laid : Holds new (span_of one) m) where
    pub pushed : messages_at new grown ≡ messages_at old held ++ (one.dir, m) ∷ []
    pushed =
        ap (messages_at new) is
        ∙ map-append (message_at new) held (one ∷ [])
        ∙ ap (λ l. l ++ message_at new one ∷ []) (messages-on held all)
        ∙ ap (λ b. messages_at old held ++ (one.dir, b) ∷ []) laid.bytes

    pub pushed-held : (total more : ℕ) → total ≡ sum_by message_length (messages_at old held) → more ≡ total + length m
        → AreHeldAndSummed new grown more
    pushed-held total more was sum = record {
      inside = rw is (held-push held one all laid.inside);
      sum = sum ∙ ap (λ n. n + length m) was ∙ sym (sum-push (messages_at old held) (one.dir, m)) ∙ ap (sum_by message_length) (sym pushed);
    }
