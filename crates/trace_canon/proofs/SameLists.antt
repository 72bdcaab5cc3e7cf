-- Equal lists are those of one meaning.
use Rattle.std.proofs.Common.{◌≡◌, ℕ, ◌≤◌, true, List, [], ◌∷◌, Option, Some, None, ap, sym, ◌∙◌, subst}
use Rattle.std.specs.List.{AllByRecursion}
use Rattle.std.specs.Cmp.Lexicographic.{same_text}
use Rattle.std.proofs.lemmas.Bool.{false≢true}
use Rattle.can_log.specs.Frame.{AreBytes}
use Rattle.can_log.proofs.Promises.{AllByRecursion-front, AllByRecursion-back, AllByRecursion-tested, AllByRecursion-weaker}
use Rattle.direction.specs.Dir.{Message}
use Rattle.uds_exchange.specs.Meaning.{ItemValue, messages_of, flattened}
use Rattle.uds_rules.specs.Laws.{is_made_of, stays}
use Rattle.uds_rules.specs.Rule.{made_of}
use Rattle.trace_log.specs.Messages.{HasMeaning}
use Rattle.trace_log.specs.Settings.{Settings, AreSettings}
use Rattle.trace_log.proofs.Promises.{one_meaning, meaning_holds_bytes, meaning_stays}
use Rattle.trace_text.specs.Laws.{IsOfBytes, IsLeftBy}
use Rattle.trace_text.proofs.Promises.{equal_lists_have_equal_texts}
use Rattle.trace_canon.specs.ListLaws.{SameMeaningSameList}

-- what holds of each message of some items holds of those of each item
of_each : (P : Message → Type 0) (items : List ItemValue) → AllByRecursion P (flattened items)
    → AllByRecursion (λ item. AllByRecursion P (messages_of item)) items
of_each P [] all = tt
of_each P (item ∷ items) all = (
  AllByRecursion-front P (messages_of item) (flattened items) all,
  of_each P items (AllByRecursion-back P (messages_of item) (flattened items) all),
)

made_as : (made : Option (List ℕ)) (message : List ℕ) → is_made_of made message ≡ true → made ≡ Some message
made_as None message is = absurd (false≢true is)
made_as (Some shown) message is = ap Some (same_text shown message (sym is))

of_bytes : (limit : ℕ) (settings : Settings) (log : List ℕ) (items : List ItemValue) → 64 ≤ limit
    → HasMeaning limit settings log items → AllByRecursion IsOfBytes items
of_bytes limit settings log items least has = of_each (λ (sent : Message). AreBytes sent.1) items (meaning_holds_bytes limit settings log items least has)

left_by : (limit : ℕ) (settings : Settings) (log : List ℕ) (items : List ItemValue) → AreSettings settings → HasMeaning limit settings log items
    → AllByRecursion (IsLeftBy settings.rules) items
left_by limit settings log items are has =
    let rules = settings.rules in
    of_each (λ (sent : Message). made_of rules sent.1 ≡ Some sent.1) items
    (AllByRecursion-weaker (λ (sent : Message). stays rules sent ≡ true) (λ (sent : Message). made_of rules sent.1 ≡ Some sent.1)
    (λ sent is. made_as (made_of rules sent.1) sent.1 is) (flattened items)
    (AllByRecursion-tested (stays rules) (flattened items) (meaning_stays limit settings log items are has)))

pub same_meaning_same_list : SameMeaningSameList
same_meaning_same_list limit settings style message_limit are a b one other of_one of_other in_one in_other =
    let rules = settings.rules in
    let xs = in_one.0 in
    let ys = in_other.0 in
    let mean_xs = in_one.1.means in
    let mean_ys = in_other.1.means in
    let equal = equal_lists_have_equal_texts rules style xs ys (of_bytes limit settings a xs message_limit.least mean_xs)
    (of_bytes limit settings b ys message_limit.least mean_ys) (left_by limit settings a xs are mean_xs) (left_by limit settings b ys are mean_ys)
    in (
      λ same.
          let items = one_meaning limit settings a xs same.items mean_xs same.in_one ∙ sym (one_meaning limit settings b ys same.items mean_ys same.in_other) in
          in_one.2 ∙ equal.0 items ∙ sym in_other.2,
      λ same.
          let items : xs ≡ ys = equal.1 (sym in_one.2 ∙ same ∙ in_other.2) in
          record { items = xs; in_one = mean_xs; in_other = subst (HasMeaning limit settings b) (sym items) mean_ys },
    )
