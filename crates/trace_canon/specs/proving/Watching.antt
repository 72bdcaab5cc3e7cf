-- Devices of proof: what a machine that watches keeps, and the lines of items said one after another.
use Rattle.std.specs.Prelude.{◌≡◌, ℕ, ◌+◌, ◌^◌, ◌<◌, ◌≤◌, List, length}
use Rattle.direction.specs.Dir.{Message}
use Rattle.isotp_receive.specs.declared.TheConstants.{MESSAGE_LIMIT}
use Rattle.isotp_receive.specs.Trace.{Entry}
use Rattle.trace_log.specs.Messages.{messages_under}
use Rattle.uds_rules.specs.Rule.{RuleValue}
use Rattle.uds_exchange.specs.Decider.{DeciderValue, decider_after, AreDecidedBy}
use Rattle.uds_exchange.specs.Judging.{one_more}
use Rattle.uds_exchange.specs.Meaning.{ItemValue}
use Rattle.trace_text.specs.ItemLines.{item_line, list_text_from}
use Rattle.trace_canon.specs.WatchScript.{decided_of}
use Rattle.trace_canon.specs.declared.watcher.LineSink.{LineSink}
use Rattle.trace_text.specs.declared.item_style.ItemStyle.{ItemStyle}

-- the line of an item that was put was said
abbrev pub SaysPutItem : {S : Type 0} → (S → List ℕ → S → Type 0) → LineSink S → ItemValue → LineSink S → Type 0
SaysPutItem says s item t =
    (t.out.ghost_name ≡ s.out.ghost_name) × (t.number.ghost_name ≡ s.number.ghost_name) × (t.style ≡ s.style)
    × (t.rules.now ≡ s.rules.now) × (t.number.now ≡ one_more s.number.now)
    × says s.out.now (item_line s.rules.now s.style s.number.now item) t.out.now

-- the lines of these items were said, numbered from this number on, as far as numbers go
abbrev pub SaysLines : {S : Type 0} → (S → List ℕ → S → Type 0) → List RuleValue → ItemStyle → List ItemValue → ℕ → S → ℕ → S → Type 0
SaysLines says rules style items number out number_now out_now =
    number + length items < 2 ^ 64
    → (number_now ≡ number + length items) × says out (list_text_from rules style number items) out_now

-- the lines of the items that one more message decides were said
abbrev pub SaysDecided : {S : Type 0} → (S → List ℕ → S → Type 0) → List RuleValue → ItemStyle → List Message → Message
    → ℕ → S → ℕ → S → Type 0
SaysDecided says rules style M message number out number_now out_now =
    (items : List ItemValue) × AreDecidedBy M message items × SaysLines says rules style items number out number_now out_now

-- This is what a machine that watches under rules keeps of the frames T.
pub record WatchesItems (style : ItemStyle) (rules : List RuleValue) (T : List Entry)
    (decider : DeciderValue) (own_style : ItemStyle) (own_rules : List RuleValue) (number : ℕ) : Type 0 where
  pub decides : decider ≡ decider_after (messages_under rules MESSAGE_LIMIT T)
  pub same : own_style ≡ style
  pub same_rules : own_rules ≡ rules
  pub numbered : number ≡ 1 + length (decided_of MESSAGE_LIMIT rules T)
  pub few : length T ≤ 2 ^ 62
