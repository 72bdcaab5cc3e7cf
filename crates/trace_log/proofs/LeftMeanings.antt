-- The messages of a meaning are of bytes, and rules leave them as they are.
use Rattle.std.proofs.Common.{◌≡◌, ℕ, ◌≤◌, true, List, sym, subst}
use Rattle.std.specs.List.{AllByRecursion, list_all}
use Rattle.can_log.specs.Frame.{AreBytes}
use Rattle.can_log.proofs.Promises.{AllByRecursion-weaker}
use Rattle.direction.specs.Dir.{Message}
use Rattle.isotp_receive.specs.Verdict.{messages}
use Rattle.uds_exchange.specs.Meaning.{ItemValue, meaning, flattened}
use Rattle.uds_exchange.proofs.Promises.{none_is_made_up}
use Rattle.uds_rules.specs.Laws.{stays}
use Rattle.uds_rules.specs.Under.{under}
use Rattle.uds_rules.proofs.Promises.{what_is_left_stays}
use Rattle.trace_log.specs.Messages.{messages_of_lines, HasMeaning}
use Rattle.trace_log.specs.Settings.{Settings, AreSettings}
use Rattle.trace_log.specs.Trace.{trace}
use Rattle.trace_log.proofs.ReadAgain.{log_carried, meaning_carried}
use Rattle.trace_log.proofs.Sendable.{IsCarried}

pub meaning_holds_bytes : (limit : ℕ) (settings : Settings) (log : List ℕ) (items : List ItemValue) → 64 ≤ limit → HasMeaning limit settings log items
    → AllByRecursion (λ (one : Message). AreBytes one.1) (flattened items)
meaning_holds_bytes limit settings log items least has =
    let M = messages_of_lines limit settings has.meanings in
    let carried = meaning_carried limit M (log_carried limit settings log has.meanings least has.means) in
    subst (λ items. AllByRecursion (λ (one : Message). AreBytes one.1) (flattened items)) (sym has.found)
    (AllByRecursion-weaker (IsCarried limit) (λ (one : Message). AreBytes one.1) (λ one is. is.bytes) (flattened (meaning M)) carried)

pub meaning_stays : (limit : ℕ) (settings : Settings) (log : List ℕ) (items : List ItemValue) → AreSettings settings → HasMeaning limit settings log items
    → list_all (stays settings.rules) (flattened items) ≡ true
meaning_stays limit settings log items are has =
    let rules = settings.rules in
    let M = messages limit (trace settings has.meanings) in
    subst (λ items. list_all (stays rules) (flattened items) ≡ true) (sym has.found)
    (none_is_made_up (stays rules) (under rules M) (what_is_left_stays rules are.rules.apart M))
