-- A message of the unit is not both final and pending for a request, and a request is no message of the unit.
use Rattle.std.proofs.Common.{◌≡◌, ℕ, ◌+◌, Bool, true, false, not, ◌&&◌, ◌||◌, ◌==◌, List, [], ◌∷◌, refl}
use Rattle.std.proofs.lemmas.Bool.{false≢true}
use Rattle.direction.specs.Dir.{Message}
use Rattle.direction.specs.declared.Dir.TheVariants.{Tester, Unit}
use Rattle.uds_message.specs.Message.{sid, is_request, is_response_sid, is_final_for, is_pending_for}
use Rattle.uds_exchange.specs.Meaning.{is_tester_request, is_answer_to, is_pending_reply_to}

-- t: the sid is a request's; p: the byte of a positive response; n, s: those of a negative one; c: the code is pending
exclusive : (t p n s c : Bool) → (t && (n && (s && c))) ≡ true → (t && ((p && not n) || (n && (s && not c)))) ≡ false
exclusive false p n s c h = refl
exclusive true p false s c h = absurd (false≢true h)
exclusive true p true false c h = absurd (false≢true h)
exclusive true p true true false h = absurd (false≢true h)
exclusive true true true true true h = refl
exclusive true false true true true h = refl

never : (t : Bool) → (t && false) ≡ true → ⊥
never false h = false≢true h
never true h = false≢true h

pending-not-final : (s : ℕ) (m : List ℕ) → is_pending_for s m ≡ true → is_final_for s m ≡ false
pending-not-final s [] h = absurd (never (not (is_response_sid s)) h)
pending-not-final s (a ∷ []) h = absurd (never (not (is_response_sid s)) h)
pending-not-final s (a ∷ b ∷ []) h = absurd (never (not (is_response_sid s)) h)
pending-not-final s (a ∷ b ∷ c ∷ []) h =
    exclusive (not (is_response_sid s)) (a == s + 0x40) (a == 0x7F) (b == s) (c == 0x78) h
pending-not-final s (a ∷ b ∷ c ∷ d ∷ m) h = absurd (never (not (is_response_sid s)) h)

-- a reply that is pending for a request is not its answer
pub pending-not-answer : (r : List ℕ) (x : Message) → is_pending_reply_to r x ≡ true → is_answer_to r x ≡ false
pending-not-answer r (Tester, m) h = absurd (false≢true h)
pending-not-answer r (Unit, m) h = pending-not-final (sid r) m h

-- an answer is no request
pub answer-not-request : (r : List ℕ) (x : Message) → is_answer_to r x ≡ true → is_tester_request x ≡ false
answer-not-request r (Tester, m) h = absurd (false≢true h)
answer-not-request r (Unit, m) h = refl

-- nor is a pending reply
pub pending-not-request : (r : List ℕ) (x : Message) → is_pending_reply_to r x ≡ true → is_tester_request x ≡ false
pending-not-request r (Tester, m) h = absurd (false≢true h)
pending-not-request r (Unit, m) h = refl

-- a request is a message of the tester
pub from-tester : (x : Message) → is_tester_request x ≡ true → (Tester, x.1) ≡ x
from-tester (Tester, m) h = refl
from-tester (Unit, m) h = absurd (false≢true h)

-- an answer is one of the unit
pub from-unit : (r : List ℕ) (x : Message) → is_answer_to r x ≡ true → (Unit, x.1) ≡ x
from-unit r (Tester, m) h = absurd (false≢true h)
from-unit r (Unit, m) h = refl

-- whether a message of the tester is a request is told by its bytes
pub request-bytes : (x : Message) → is_tester_request x ≡ true → is_request x.1 ≡ true
request-bytes (Tester, m) h = h
request-bytes (Unit, m) h = absurd (false≢true h)
