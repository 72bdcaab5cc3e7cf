-- A pairing or an orderer with a judge of its own: what the judge says of one more message is so.
use Rattle.std.proofs.Common.{◌≡◌, ℕ, List, [], ◌∷◌, ◌++◌, Option, option_map, false, sym, ◌∙◌, ap}
use Rattle.direction.specs.Dir.{Message}
use Rattle.uds_message.specs.Message.{sid}
use Rattle.uds_exchange.specs.Meaning.{ItemValue, meaning}
use Rattle.uds_exchange.specs.Judging.{IsJudgedAfter, IsOpenSid, sent, step_after}
use Rattle.uds_exchange.specs.Order.{held, open_request_in}
use Rattle.uds_exchange.specs.Orderer.{JudgedOrdererValue, OrdererValue, judged_orderer_after, orderer_after}
use Rattle.uds_exchange.specs.declared.judge.Judged.{Judged}
use Rattle.uds_exchange.specs.proving.Pairing.{AreOpenBy}

-- a message is judged by its step
pub judged-after : (M : List Message) (x : Message) (judged : Judged) → sent judged ≡ x → judged.step ≡ step_after M x → IsJudgedAfter M judged
judged-after M x judged is step_is = step_is ∙ ap (step_after M) (sym is)

-- which request waits is told by the items alone
pub open-in : (M : List Message) (items : List ItemValue) (open_sid : Option ℕ) → AreOpenBy items open_sid → items ≡ meaning M → IsOpenSid M open_sid
open-in M items open_sid kept is = kept.is_open ∙ ap (λ its. option_map sid (open_request_in its)) (sym kept.meant ∙ is)

-- an orderer with its judge stands after one message more where both do
pub stands-with : (M : List Message) (x : Message) (judged : Judged) (orderer : JudgedOrdererValue) (open_sid : Option ℕ) → sent judged ≡ x
    → orderer ≡ judged_orderer_after (M ++ sent judged ∷ []) → IsOpenSid (M ++ x ∷ []) open_sid
    → record { has_failed = orderer.has_failed; open_sid = open_sid; holds = orderer.holds } ≡ orderer_after (M ++ x ∷ [])
stands-with M x judged orderer open_sid is stands waits =
    ap (λ (o : JudgedOrdererValue). record { has_failed = o.has_failed; open_sid = open_sid; holds = o.holds })
    (stands ∙ ap (λ y. judged_orderer_after (M ++ y ∷ [])) is)
    ∙ ap (λ s. record { has_failed = false; open_sid = s; holds = held (M ++ x ∷ []) }) waits

-- and without its judge it stands after the same
pub stands-without : (M : List Message) (orderer : OrdererValue) → orderer ≡ orderer_after M
    → record { has_failed = orderer.has_failed; holds = orderer.holds } ≡ judged_orderer_after M
stands-without M orderer is = ap (λ (o : OrdererValue). record { has_failed = o.has_failed; holds = o.holds }) is
