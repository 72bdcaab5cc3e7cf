-- The messages of a trace are those that its frames deliver.
use Rattle.std.proofs.Common.{◌≡◌, ℕ, List, [], ◌∷◌, ◌++◌, refl, sym, ◌∙◌, ap, subst}
use Rattle.direction.specs.Dir.{Message}
use Rattle.direction.specs.declared.Dir.{Dir}
use Rattle.isotp_receive.specs.Channels.{dir_of}
use Rattle.isotp_receive.specs.Trace.{Entry}
use Rattle.isotp_receive.specs.Delivers.{Delivers, AreDeliveredBy, AreDeliveredAfter, AreDelivered}
use Rattle.isotp_receive.specs.Verdict.{VerdictValue, message, began, stored, flowed, dropped, verdict, told_message, messages_after, messages}
use Rattle.isotp_receive.specs.Laws.{MessagesAreDelivered}
use Rattle.isotp_receive.proofs.DeliversLaws.{message-delivers}

-- ---- a frame

delivered-as : (limit : ℕ) (past : List Entry) (e : Entry) (t : VerdictValue) → (verdict limit past e).verdict ≡ t → AreDeliveredBy limit past e (told_message (dir_of e.channel) t)
delivered-as limit past e (message bytes) is = (refl, (message-delivers limit past e bytes).0 is)
delivered-as limit past e began is = λ bytes delivers. let same = sym is ∙ (message-delivers limit past e bytes).1 delivers in absurd (cc)
delivered-as limit past e stored is = λ bytes delivers. let same = sym is ∙ (message-delivers limit past e bytes).1 delivers in absurd (cc)
delivered-as limit past e flowed is = λ bytes delivers. let same = sym is ∙ (message-delivers limit past e bytes).1 delivers in absurd (cc)
delivered-as limit past e (dropped why) is = λ bytes delivers. let same = sym is ∙ (message-delivers limit past e bytes).1 delivers in absurd (cc)

none-told : (d : Dir) (t : VerdictValue) → ((bytes : List ℕ) → ¬ (t ≡ message bytes)) → [] ≡ told_message d t
none-told d (message bytes) none = absurd (none bytes refl)
none-told d began none = refl
none-told d stored none = refl
none-told d flowed none = refl
none-told d (dropped why) none = refl

told-so : (limit : ℕ) (past : List Entry) (e : Entry) (own : List Message) → AreDeliveredBy limit past e own → own ≡ told_message (dir_of e.channel) (verdict limit past e).verdict
told-so limit past e [] none = none-told (dir_of e.channel) (verdict limit past e).verdict (λ bytes is. none bytes ((message-delivers limit past e bytes).0 is))
told-so limit past e (x ∷ []) one =
    ap (λ d. (d, x.1) ∷ []) one.0 ∙ ap (told_message (dir_of e.channel)) (sym ((message-delivers limit past e x.1).1 one.1))
told-so limit past e (x ∷ y ∷ more) two = absurd two

-- ---- all frames

all-delivered : (limit : ℕ) (past T : List Entry) → AreDeliveredAfter limit past T (messages_after limit past T)
all-delivered limit past [] = refl
all-delivered limit past (e ∷ rest) = (
  told_message (dir_of e.channel) (verdict limit past e).verdict,
  messages_after limit (past ++ e ∷ []) rest,
  refl,
  delivered-as limit past e (verdict limit past e).verdict refl,
  all-delivered limit (past ++ e ∷ []) rest,
)

none-else : (limit : ℕ) (past T : List Entry) (M : List Message) → AreDeliveredAfter limit past T M → messages_after limit past T ≡ M
none-else limit past [] M none = sym none
none-else limit past (e ∷ rest) M (own, others, parts, by, later) =
    ap (λ (xs : List Message). xs ++ messages_after limit (past ++ e ∷ []) rest) (sym (told-so limit past e own by))
    ∙ ap (λ (ys : List Message). own ++ ys) (none-else limit (past ++ e ∷ []) rest others later) ∙ sym parts

pub messages_are_delivered : MessagesAreDelivered
messages_are_delivered limit T M =
    (none-else limit [] T M, λ is. subst (AreDeliveredAfter limit [] T) is (all-delivered limit [] T))
