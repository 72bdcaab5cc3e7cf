-- Which frames say nothing of a service.
use Rattle.std.proofs.Common.{◌≡◌, Bool, true, false, Option, None, refl, ap}
use Rattle.std.specs.Prelude.{if◌then◌else◌}
use Rattle.uds_find.specs.Laws.{KeepAliveSaysNothing, PendingReplySaysNothing}
use Rattle.uds_find.specs.Mention.{is_can_identifier, mention_by_layout, mention_of}
use Rattle.uds_find.specs.declared.mention.Mention.{Mention}

-- where nothing is said under an identifier that a bus carries, nothing is said
nothing_either_way : (is_carried : Bool) (said : Option Mention) → said ≡ None → (if is_carried then said else None) ≡ None
nothing_either_way true said is = is
nothing_either_way false said is = refl

pub keep_alive_says_nothing : KeepAliveSaysNothing
unfolding mention_of
keep_alive_says_nothing frame is = nothing_either_way (is_can_identifier frame.id) _ (ap mention_by_layout is)

pub pending_reply_says_nothing : PendingReplySaysNothing
unfolding mention_of
pending_reply_says_nothing frame service more is = nothing_either_way (is_can_identifier frame.id) _ (ap mention_by_layout is)
